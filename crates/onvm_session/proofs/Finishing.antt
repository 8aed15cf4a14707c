-- What stands at the end of a session is what the headline asks for.
use Rattle.std.proofs.Common.{◌≡◌, ℕ, ◌+◌, Bool, true, false, List, [], length, refl, sym, ◌∙◌, ap, subst, arith, Some, None, Option}
use Rattle.std.specs.Prelude.{IfOk, OnOk, Result, Ok, Err, is_err, slice_get, slice_index_or}
use Rattle.std.proofs.lemmas.List.{length-set}
use Rattle.std.proofs.lemmas.List.Sorted.{length_permutation}
use Rattle.load_estimate.specs.declared.tick.Tick.{Tick as TickView}
use Rattle.nf_api.specs.Acts.{Acts}
use Rattle.nf_api.specs.Tree.{Tree}
use Rattle.onvm_base.specs.declared.plan.Plan.{Plan}
use Rattle.onvm_board.specs.Closing.{ClosedView}
use Rattle.onvm_board.specs.Tokens.{kept_log, split_token}
use Rattle.onvm_core.specs.declared.entry.Entry.{Entry}
use Rattle.onvm_core.specs.declared.layout.Layout.{Layout}
use Rattle.onvm_core.proofs.RoleKinds.{kind_port}
use Rattle.onvm_core.proofs.Sums.{sum_same}
use Rattle.onvm_core.specs.Blocks.RoleKind.{Receives}
use Rattle.onvm_core.specs.Layouts.{first_role, tick_role}
use Rattle.onvm_core.specs.Logs.{Setting}
use Rattle.onvm_core.specs.Settings.{frame_count}
use Rattle.onvm_promises.specs.Entries.{entries_from}
use Rattle.onvm_promises.specs.Roles.{Fits, IsTickPromise, setting_of}
use Rattle.rx_pass.proofs.Queues.{entries_long}
use Rattle.tick_pass.specs.Roles.{logged, ticked}
use Rattle.onvm_session.specs.declared.leaving.Leavings.{Leavings}
use Rattle.onvm_session.specs.declared.manager.Manager.{Manager}
use Rattle.onvm_session.specs.declared.role.Role.{Role}
use Rattle.onvm_session.specs.declared.role.Role.TheVariants.{Receive, Send, Handle, Tick}
use Rattle.onvm_session.specs.declared.run.Run.{Run}
use Rattle.onvm_session.specs.declared.run.Stop.{Stop}
use Rattle.onvm_session.proofs.Boarding.{closed_is}
use Rattle.onvm_session.proofs.Counting.{feeders_long}
use Rattle.onvm_session.proofs.Done.{done}
use Rattle.onvm_session.proofs.Growing.{got_some}
use Rattle.onvm_session.proofs.RolePasses.{ready_kind, setting_is}
use Rattle.onvm_session.proofs.LeftLists.{AreOfKinds, ticks_left}
use Rattle.onvm_session.proofs.PutTogether.{keeps_other, kinds_then, run_lists, set_there}
use Rattle.onvm_session.proofs.SessionLists.{closing_counted, frames_pulled, session_lists}
use Rattle.onvm_session.specs.Accounts.{IsAccounted}
use Rattle.onvm_session.specs.Boards.{view_of_closed, view_of_token}
use Rattle.onvm_session.specs.Closings.{AreLeftOf, IsBoardOf, IsClosedRun, IsClosingTurn, IsRunOfKept, IsRunOfLists}
use Rattle.onvm_session.specs.Endings.{Closes, IsClosed, IsClosingMoment}
use Rattle.onvm_session.specs.Gathering.{AreRunLists, feeders_kept, recorded_count}
use Rattle.onvm_session.specs.Managers.{FitsAll, IsManager, IsOver, IsUnderway, keeps_at, keeps_in, pulled_at, states_in}
use Rattle.onvm_session.specs.RoleStates.{FitsOne, acts_by, ended_in, keeps_of, kind_in, pulled_in, start_by}
use Rattle.onvm_session.specs.Runs.{any_span, view_of_run}
use Rattle.onvm_session.specs.Sessions.{after_turn}

-- what holds of an answer that is no refusal
pub when_ok : {T E P : Type 0} (answer : Result T E) → is_err answer ≡ false → OnOk answer P → P
when_ok (Ok x) fine holds = holds
when_ok (Err e) fine holds = absurd (cc fine)

-- the run, if there is one
pub closed_run : {I N : Type 0} (plan : Plan) (now : ℕ) (old later : Manager I N) (none left : Leavings I)
    (closed : ClosedView) → IsClosingTurn plan now old later → IsBoardOf later closed
    → AreLeftOf later.roles.items none left → (outcome : Result Run Stop)
    → IsRunOfLists left.complete left.gathered left.samples left.ticks closed outcome
    → IfOk outcome (λ run. IsClosedRun plan now old run)
closed_run plan now old later none left closed turn board gone (Ok run) of = record {
  later = later;
  none = none;
  left = left;
  closed = closed;
  turn = turn;
  board_of = board;
  left_of = gone;
  lists = of;
}
closed_run plan now old later none left closed turn board gone (Err stop) of = tt

-- Frames

-- the frames that the role of a port pulled
abbrev entries_at : {I N : Type 0} → Plan → ℕ → Option (Role I N) → List Entry
entries_at plan port None = []
entries_at plan port (Some role) = entries_from plan (record { 0 = port }) 0 (pulled_in role)

entries_many : {I N : Type 0} (plan : Plan) (port : ℕ) (role : Option (Role I N))
    → length (entries_at plan port role) ≡ pulled_at role
entries_many plan port None = refl
entries_many plan port (Some role) = entries_long plan (record { 0 = port }) (pulled_in role)

fits_whole : {I N : Type 0} (layout : Layout) (plan : Plan) (port : ℕ) (role : Role I N) (setting : Setting)
    → kind_in role ≡ Receives → ended_in role ≡ true → FitsOne layout plan port role setting
    → Fits layout plan port (entries_at plan port (Some role)) true setting
fits_whole layout plan port (Receive rx) setting kind ended fits =
    subst (λ (over : Bool).
    Fits layout plan port (entries_from plan (record { 0 = port }) 0 rx.intake.standing.pulled) over setting) ended
    fits
fits_whole layout plan port (Send tx) setting kind ended fits = absurd (cc kind)
fits_whole layout plan port (Handle core) setting kind ended fits = absurd (cc kind)
fits_whole layout plan port (Tick tick) setting kind ended fits = absurd (cc kind)

module _ {I N : Type 0} (acts : N → Acts) (state : N → Tree) (plan : Plan) (old new : Manager I N)
    (manager : IsManager acts state any_span plan old)
  where
    kinds : AreOfKinds old.board.layout old.roles.items
    kinds r role found =
        ready_kind acts state any_span old.board plan (split_token r old.first) role (manager.ready r role found)

    -- as many records as frames
    frames_are : (entries : List Entry) → IsOver old → FitsAll plan (setting_of old.board.layout plan entries) old
        → recorded_count old.board.layout (keeps_in old.roles.items)
        ≡ frame_count (setting_of old.board.layout plan entries)
    frames_are entries over fits =
        let pulled : ℕ → List Entry = λ port. entries_at plan port (slice_get old.roles.items port) in
        over.recorded
        ∙ sym (sum_same (λ port. length (pulled port)) (λ r. pulled_at (slice_get old.roles.items r))
        old.board.layout.ports (λ port less. entries_many plan port (slice_get old.roles.items port)))
        ∙ sym (frames_pulled (setting_of old.board.layout plan entries) pulled (λ port less.
        let got = got_some old.roles.items port (omega (arith, less, manager.many)) in
        subst (λ (role : Option (Role I N)).
        Fits old.board.layout plan port (entries_at plan port role) true (setting_of old.board.layout plan entries))
        (sym got.1)
        (fits_whole old.board.layout plan port got.0 (setting_of old.board.layout plan entries)
        (kinds port got.0 got.1 ∙ kind_port old.board.layout port less) (over.ended port got.0 got.1)
        (fits.fits port got.0 got.1))))

    module _ (now : ℕ) (none left : Leavings I) (closed : ClosedView) (turn : IsClosingTurn plan now old new)
        (board : IsBoardOf new closed) (gone : AreLeftOf new.roles.items none left) (run : Run)
        (complete : left.complete ≡ true) (run_is : IsRunOfKept left.gathered left.samples left.ticks closed run)
      where
        later_kinds : AreOfKinds old.board.layout new.roles.items
        later_kinds =
            subst (AreOfKinds old.board.layout) (sym turn.roles)
            (kinds_then old.board.layout old.roles.items (tick_role old.board.layout) turn.before turn.after turn.was
            kinds)

        later_many : length new.roles.items ≡ first_role old.board.layout
        later_many =
            ap (length {A = Role I N}) turn.roles
            ∙ length-set old.roles.items (tick_role old.board.layout) (Tick turn.after) ∙ manager.many

        lists : AreRunLists old.board.layout (keeps_in old.roles.items) (view_of_run run)
        lists =
            run_lists old.board.layout old.roles.items new.roles.items none left closed run later_kinds later_many
            (λ r less. ap (λ (roles : List (Role I N)). keeps_in roles r) turn.roles
            ∙ keeps_other old.roles.items (tick_role old.board.layout) r (Tick turn.after)
            (λ e. omega (arith, e, less)))
            gone complete run_is

        told : (left.samples ≡ logged turn.after) × (left.ticks ≡ ticked turn.after)
        told =
            ticks_left new.roles.items (tick_role old.board.layout) turn.after none left
            (ap (λ (roles : List (Role I N)). slice_get roles (tick_role old.board.layout)) turn.roles
            ∙ set_there old.roles.items (tick_role old.board.layout) (Tick turn.before) (Tick turn.after) turn.was)
            later_many gone.left_are

        view : (view_of_run run).final
            ≡ after_turn (tick_role old.board.layout) turn.seen turn.log (view_of_token old.first)
        view =
            ap view_of_closed run_is.closed_is
            ∙ (λ i. record {
              lead = board.log i;
              logs = λ role. slice_index_or (board.logs i) role [];
              counts = board.counts i;
            })
            ∙ turn.view

        module _ (serial : Bool) (may_tell : ℕ → Type 0) (cost_may_take : ℕ → ℕ → Type 0) (first : ℕ) (units : List N)
            (entries : List Entry)
            (fits : FitsAll plan (setting_of old.board.layout plan entries) old)
            (under : IsUnderway acts state serial may_tell cost_may_take first units
            (setting_of old.board.layout plan entries) old)
            (at : IsClosingMoment serial may_tell (setting_of old.board.layout plan entries)
            (view_of_token old.first) under.latest now)
            (over : IsOver old)
          where
            abbrev setting : Setting
            setting = setting_of old.board.layout plan entries

            closes : Closes serial may_tell setting under.moments first under.latest (view_of_token old.first)
                (keeps_in old.roles.items) turn.seen now turn.log (keeps_of {I = I} {N = N} (Tick turn.after))
                (view_of_run run)
            closes = record {
              answer = turn.answer;
              pass =
                  subst (λ (z : ℕ × List TickView).
                  IsTickPromise setting (tick_role setting.layout) z.0 now true
                  (under.moments (tick_role setting.layout)) (kept_log (tick_role setting.layout) old.first) turn.log
                  (logged turn.after) z.1 (ticked turn.after) turn.answer)
                  (λ i. (
                    under.started (tick_role setting.layout) (Tick turn.before) turn.was i,
                    (sym (ap (λ (role : Option (Role I N)). (keeps_at role).ticks) turn.was)) i,
                  ))
                  (turn.promise setting (under.moments (tick_role setting.layout)) refl refl
                  (under.in_order (tick_role setting.layout) (Tick turn.before) turn.was));
              complete = turn.complete;
              at = at;
              view = view;
              samples = run_is.samples_are ∙ told.0;
              ticks = run_is.ticks_are ∙ told.1;
            }

            is_closed : IsClosed setting (view_of_run run)
            is_closed =
                closed_is setting closed board.history.0 (view_of_run run)
                (board.layout ∙ ap (λ b. b.layout) turn.board) board.history.1
                (ap view_of_closed run_is.closed_is)
                (ap (λ (c : ClosedView). c.left) run_is.closed_is)

            accounted : IsAccounted serial may_tell cost_may_take (acts_by acts state units) (start_by acts state units)
                setting (view_of_run run)
            accounted =
                done serial may_tell (acts_by acts state units) (start_by acts state units)
                (states_in acts state old.board.layout old.roles.items) cost_may_take setting under.moments first
                under.latest (view_of_token old.first) (keeps_in old.roles.items) turn.seen now turn.log
                (keeps_of {I = I} {N = N} (Tick turn.after)) (view_of_run run) manager.ranges fits.is under.session closes
                is_closed
                (session_lists serial may_tell (acts_by acts state units) (start_by acts state units)
                (states_in acts state old.board.layout old.roles.items) cost_may_take setting under.moments first
                under.latest (view_of_token old.first) (keeps_in old.roles.items) under.session turn.seen now turn.log
                (keeps_of {I = I} {N = N} (Tick turn.after)) (view_of_run run) manager.ranges fits.is closes is_closed lists)
                (closing_counted serial may_tell (acts_by acts state units) (start_by acts state units)
                (states_in acts state old.board.layout old.roles.items) cost_may_take setting under.moments first
                under.latest (view_of_token old.first) (keeps_in old.roles.items) under.session turn.seen now turn.log
                (keeps_of {I = I} {N = N} (Tick turn.after)) (view_of_run run) manager.ranges fits.is closes is_closed
                ∙ frames_are entries over fits)

        -- as many records as frames
        counted : IsOver old → (setting : Setting) → FitsAll plan setting old
            → length run.records ≡ frame_count setting
        counted over setting fits =
            let layout = old.board.layout in
            let told = feeders_kept (λ kept. kept.outcomes.records) (keeps_in old.roles.items)
            (layout.ports + layout.transmit) in
            length_permutation told run.records lists.records.same
            ∙ feeders_long (λ kept. kept.outcomes.records) (keeps_in old.roles.items) (layout.ports + layout.transmit)
            ∙ subst (λ (s : Setting). FitsAll plan s old → recorded_count layout (keeps_in old.roles.items) ≡ frame_count s)
            (setting_is layout plan setting fits.layout_is fits.plan_is)
            (λ fits. frames_are setting.entries over fits) fits

        -- of any setting of the layout and plan
        finished : (serial : Bool) (may_tell : ℕ → Type 0) (cost_may_take : ℕ → ℕ → Type 0) (first : ℕ)
            → IsOver old
            → (units : List N) (setting : Setting) → FitsAll plan setting old
            → (under : IsUnderway acts state serial may_tell cost_may_take first units setting old)
            → IsClosingMoment serial may_tell setting (view_of_token old.first) under.latest now
            → IsAccounted serial may_tell cost_may_take (acts_by acts state units) (start_by acts state units) setting
            (view_of_run run)
        finished serial may_tell cost_may_take first over units setting fits under at =
            subst (λ (s : Setting). FitsAll plan s old
            → (under : IsUnderway acts state serial may_tell cost_may_take first units s old)
            → IsClosingMoment serial may_tell s (view_of_token old.first) under.latest now
            → IsAccounted serial may_tell cost_may_take (acts_by acts state units) (start_by acts state units) s
            (view_of_run run))
            (setting_is old.board.layout plan setting fits.layout_is fits.plan_is)
            (λ fits under at. accounted serial may_tell cost_may_take first units setting.entries fits under at over)
            fits under at

module _ {I N : Type 0} (acts : N → Acts) (state : N → Tree) (plan : Plan) (now : ℕ) (old : Manager I N) (run : Run)
    (manager : IsManager acts state any_span plan old) (over : IsOver old) (closed : IsClosedRun plan now old run)
  where
    -- the run behind the closing turn of a session of any kind
    pub run_accounted : (serial : Bool) (may_tell : ℕ → Type 0) (cost_may_take : ℕ → ℕ → Type 0) (first : ℕ)
        (units : List N) (setting : Setting) → FitsAll plan setting old
        → (under : IsUnderway acts state serial may_tell cost_may_take first units setting old)
        → IsClosingMoment serial may_tell setting (view_of_token old.first) under.latest now
        → IsAccounted serial may_tell cost_may_take (acts_by acts state units) (start_by acts state units) setting
        (view_of_run run)
    run_accounted serial may_tell cost_may_take first units setting fits under at =
        finished acts state plan old closed.later manager now closed.none closed.left closed.closed closed.turn
        closed.board_of closed.left_of run closed.lists.0 closed.lists.1 serial may_tell cost_may_take first over units
        setting fits under at

    pub run_counted : (setting : Setting) → FitsAll plan setting old → length run.records ≡ frame_count setting
    run_counted setting fits =
        counted acts state plan old closed.later manager now closed.none closed.left closed.closed closed.turn
        closed.board_of closed.left_of run closed.lists.0 closed.lists.1 over setting fits
