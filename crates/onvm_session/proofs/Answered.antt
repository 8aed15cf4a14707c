-- What a session answers that is over, or that a fault stopped.
use Rattle.std.proofs.Common.{◌≡◌, ℕ, ◌-◌, ◌<◌, ◌≤◌, Bool, true, false, inl, inr, List, [], ◌++◌, length, refl, sym, ◌∙◌, ap, subst, arith, append-nil, Some, None, Option}
use Rattle.std.specs.Prelude.{Err, IfErr, IfOk, Ok, Result, nat_lt, slice_get}
use Rattle.std.proofs.lemmas.Bool.{cases_Bool, ltb-false, ltb-true}
use Rattle.onvm_base.specs.declared.limits.TheConstants.{MAX_PORT_FRAMES}
use Rattle.onvm_base.specs.declared.plan.Plan.{Plan}
use Rattle.onvm_core.specs.declared.layout.Layout.{Layout}
use Rattle.onvm_core.specs.Layouts.{IsLayoutOf}
use Rattle.onvm_core.specs.Journals.{Handling}
use Rattle.onvm_core.specs.Logs.{Setting, entries_of_port}
use Rattle.onvm_host.specs.Deeds.{Amounts}
use Rattle.nf_api.specs.Acts.{Acts}
use Rattle.nf_api.specs.Tree.{Tree}
use Rattle.onvm_promises.specs.Entries.{IsRunOf, entries_from}
use Rattle.onvm_promises.specs.Sampling.{is_cost}
use Rattle.rx_feed.specs.declared.fault.FeedFault.{FeedFault}
use Rattle.rx_feed.specs.declared.feed.Feed.{Feed}
use Rattle.rx_feed.specs.declared.feed.Feed.TheVariants.{Live, Made}
use Rattle.rx_feed.proofs.Making.{length-made_frames}
use Rattle.rx_feed.specs.Feeds.{IsPulledOf, no_standing}
use Rattle.rx_feed.specs.Standing.{Standing}
use Rattle.onvm_session.specs.declared.manager.Manager.{Manager}
use Rattle.onvm_session.specs.declared.role.Role.{Role}
use Rattle.onvm_session.specs.declared.role.Role.TheVariants.{Receive, Send, Handle, Tick}
use Rattle.onvm_session.specs.declared.run.Run.{Run}
use Rattle.onvm_session.specs.declared.run.Stop.{Stop}
use Rattle.onvm_session.proofs.AnySpans.{any_spans}
use Rattle.onvm_session.proofs.Beginnings.{new_underway, new_underway_at}
use Rattle.onvm_session.proofs.Counting.{frames_counted}
use Rattle.onvm_session.proofs.Finishing.{run_accounted, run_counted}
use Rattle.onvm_session.proofs.Growing.{all_earlier, got_none, got_some}
use Rattle.onvm_session.proofs.HandingBack.{receives_below}
use Rattle.onvm_session.proofs.OwnRuns.{own_run, own_run_is}
use Rattle.onvm_session.proofs.Tending.{IsTended, back_again, one_layout, stands_at}
use Rattle.onvm_session.specs.Boards.{view_of_token}
use Rattle.onvm_session.specs.Closings.{IsClosedRun}
use Rattle.onvm_session.specs.Endings.{IsClosingMoment}
use Rattle.onvm_session.specs.Leaving.{feeds_of}
use Rattle.onvm_session.specs.Managers.{AllGrow, FitsAll, GoesOn, GoesOnTo, HasFault, IsManager, IsOver, IsUnderway, place_now, round_now}
use Rattle.onvm_session.specs.Moments.{moment_of_round, round_of_turn}
use Rattle.onvm_session.specs.RoleStates.{FitsOne, acts_by, fault_of, standing_of, start_by}
use Rattle.onvm_session.specs.Rooms.{IsNewManager}
use Rattle.onvm_session.specs.Runs.{AllStand, AreHandedBack, HasStopped, IsDone, IsStop, StandsWith, any_moment, any_span, taken_by, told_by, told_fault}
use Rattle.onvm_session.specs.Views.{place_in, turns_in}

-- where a port stands
abbrev pub standing_at : {I N : Type 0} → Option (Role I N) → Standing
standing_at None = no_standing
standing_at (Some role) = standing_of role

abbrev pub standings_in : {I N : Type 0} → Manager I N → ℕ → Standing
standings_in manager port = standing_at (slice_get manager.roles.items port)

few_pulled : {I : Type 0} (feed : Option (Feed I)) (standing : Standing) → IsPulledOf feed standing
    → length standing.pulled ≤ MAX_PORT_FRAMES
few_pulled None standing is = let none = ap (λ (s : Standing). length s.pulled) is in omega (arith, none)
few_pulled (Some (Live source)) standing is = is.within.few
few_pulled (Some (Made g)) standing is =
    let made = ap (λ (s : Standing). length s.pulled) is.0 in
    omega (arith, made, length-made_frames g.seed g.given, is.2, is.3)

-- in a serial session no clock is asked, whatever it may tell
pub serial_done : {I S : Type 0} (name_of : I → List ℕ) (left_of : I → Option (List ℕ)) (takes_of : I → Amounts)
    (acts : ℕ → S → Handling → S → Type 0) (start : ℕ → S) (plan : Plan) (feeds back : List (Feed I))
    (serial : Bool) (may_tell : ℕ → Type 0) (cost_may_take : ℕ → ℕ → Type 0) (outcome : Result Run Stop)
    → serial ≡ true
    → IfOk outcome (λ run. IsDone name_of left_of takes_of true any_moment any_span acts start plan feeds back run)
    → IfOk outcome (λ run.
    IsDone name_of left_of takes_of serial may_tell cost_may_take acts start plan feeds back run)
serial_done name_of left_of takes_of acts start plan feeds back serial may_tell cost_may_take (Ok run) is done =
    subst (λ (b : Bool). IsDone name_of left_of takes_of b may_tell cost_may_take acts start plan feeds back run)
    (sym is)
    (record {
      standings = done.standings;
      stand = done.stand;
      ended = done.ended;
      run_is = done.run_is;
      accounted = done.accounted;
      counted = done.counted;
    })
serial_done name_of left_of takes_of acts start plan feeds back serial may_tell cost_may_take (Err stop) is done = tt

-- a session of either kind between turns, which may be closed at this moment
pub record IsAtEnd {I N : Type 0} (acts : N → Acts) (state : N → Tree) (serial : Bool) (may_tell : ℕ → Type 0)
    (cost_may_take : ℕ → ℕ → Type 0) (began : ℕ) (units : List N) (now : ℕ) (setting : Setting)
    (manager : Manager I N) : Type 0 where
  pub underway : IsUnderway acts state serial may_tell cost_may_take began units setting manager
  pub moment : IsClosingMoment serial may_tell setting (view_of_token manager.first) underway.latest now

module _ {I N : Type 0} (name_of : I → List ℕ) (left_of : I → Option (List ℕ)) (takes_of : I → Amounts) (plan : Plan)
    (given : List (Feed I)) (manager : Manager I N) (tended : IsTended name_of left_of takes_of plan given manager)
    (few : length given ≤ plan.ports) where
  -- A session that is over

  module _ (over : IsOver manager) (setting : Setting)
      (run : IsRunOf plan (λ port. (standings_in manager port).pulled) setting) where
    layout_is : setting.layout ≡ manager.board.layout
    layout_is =
        one_layout plan setting.layout manager.board.layout
        (subst (λ (p : Plan). IsLayoutOf p setting.layout) run.plan_is run.setting_is.layout) tended.layout_of

    fits_as : (r : ℕ) (role : Role I N) → slice_get manager.roles.items r ≡ Some role
        → FitsOne manager.board.layout plan r role setting
    fits_as r (Receive rx) found =
        let enter : entries_of_port r setting.entries
        ≡ entries_from plan (record { 0 = r }) 0 rx.intake.standing.pulled =
        run.enter r
        ∙ ap (λ (role : Option (Role I N)). entries_from plan (record { 0 = r }) 0 (standing_at role).pulled) found in
        record {
          layout_is = layout_is;
          plan_is = run.plan_is;
          front = ([], append-nil (entries_from plan (record { 0 = r }) 0 rx.intake.standing.pulled) ∙ sym enter);
          all = λ ended. enter;
        }
    fits_as r (Send tx) found = (layout_is, run.plan_is)
    fits_as r (Handle core) found = (layout_is, run.plan_is)
    fits_as r (Tick tick) found = (layout_is, run.plan_is)

    -- a run of the frames that were pulled is one of these roles
    pub fits_over : FitsAll plan setting manager
    fits_over = record {
      is = run.setting_is;
      layout_is = layout_is;
      plan_is = run.plan_is;
      fits = fits_as;
    }

  -- The frames that were pulled

  few_of : (port : ℕ) (role : Role I N) → slice_get manager.roles.items port ≡ Some role
      → length (standing_of role).pulled ≤ MAX_PORT_FRAMES
  few_of port (Receive rx) found =
      few_pulled rx.intake.feed rx.intake.standing (tended.fed port (Receive rx) found).pulled
  few_of port (Send tx) found = omega arith
  few_of port (Handle core) found = omega arith
  few_of port (Tick tick) found = omega arith

  none_of : (port : ℕ) (role : Role I N) → slice_get manager.roles.items port ≡ Some role
      → manager.board.layout.ports ≤ port → (standing_of role).pulled ≡ []
  none_of port (Receive rx) found past =
      let below = receives_below manager.board.layout port (sym (tended.kinds port (Receive rx) found)) in
      absurd (omega (arith, below, past))
  none_of port (Send tx) found past = refl
  none_of port (Handle core) found past = refl
  none_of port (Tick tick) found past = refl

  few_at : (port : ℕ) → length (standings_in manager port).pulled ≤ MAX_PORT_FRAMES
  few_at port = elim (cases_Bool (nat_lt port (length manager.roles.items))) [
    | inl under ↦
        let at = got_some manager.roles.items port (ltb-true port (length manager.roles.items) under) in
        subst (λ (role : Option (Role I N)). length (standing_at role).pulled ≤ MAX_PORT_FRAMES) (sym at.1)
        (few_of port at.0 at.1)
    | inr over ↦
        let none = got_none manager.roles.items port (ltb-false port (length manager.roles.items) over) in
        subst (λ (role : Option (Role I N)). length (standing_at role).pulled ≤ MAX_PORT_FRAMES) (sym none) (omega arith)
  ]

  none_at : (port : ℕ) → manager.board.layout.ports ≤ port → (standings_in manager port).pulled ≡ []
  none_at port past = elim (cases_Bool (nat_lt port (length manager.roles.items))) [
    | inl under ↦
        let at = got_some manager.roles.items port (ltb-true port (length manager.roles.items) under) in
        ap (λ (role : Option (Role I N)). (standing_at role).pulled) at.1 ∙ none_of port at.0 at.1 past
    | inr over ↦
        ap (λ (role : Option (Role I N)). (standing_at role).pulled)
        (got_none manager.roles.items port (ltb-false port (length manager.roles.items) over))
  ]

  role_at : (port : ℕ) → port < plan.ports → (role : Role I N) × (slice_get manager.roles.items port ≡ Some role)
  role_at port known = got_some manager.roles.items port (omega (arith, known, tended.many, tended.layout_of.ports))

  all_stand : AllStand name_of left_of takes_of plan given (manager.feeds.items ++ feeds_of manager.roles.items)
  all_stand = record {
    stand = λ port known.
        let at = role_at port known in (
          standing_of at.0,
          stands_at name_of left_of takes_of plan given manager tended few port at.0 at.1 known,
        );
  }

  pub done : (acts : N → Acts) (state : N → Tree) (serial : Bool) (may_tell : ℕ → Type 0)
      (cost_may_take : ℕ → ℕ → Type 0) (began : ℕ) (units : List N) (now : ℕ) (run : Run)
      → IsManager acts state any_span plan manager
      → IsOver manager
      → IsClosedRun plan now manager run
      → ((setting : Setting) → FitsAll plan setting manager
      → IsAtEnd acts state serial (told_by serial may_tell) (taken_by serial cost_may_take) began units now setting
      manager)
      → IsDone name_of left_of takes_of serial may_tell cost_may_take (acts_by acts state units)
      (start_by acts state units) plan given (manager.feeds.items ++ feeds_of manager.roles.items) run
  done acts state serial may_tell cost_may_take began units now run is_manager over closed ends = record {
    standings = standings_in manager;
    stand = λ port known.
        let at = role_at port known in
        subst (λ role. StandsWith name_of left_of takes_of given (manager.feeds.items ++ feeds_of manager.roles.items)
        port (standing_at role)) (sym at.1)
        (stands_at name_of left_of takes_of plan given manager tended few port at.0 at.1 known);
    ended = λ port known.
        let at = role_at port known in
        ap (λ role. (standing_at role).ended) at.1 ∙ over.ended port at.0 at.1;
    run_is = (
      own_run manager.board.layout plan (λ port. (standings_in manager port).pulled),
      own_run_is manager.board.layout plan (λ port. (standings_in manager port).pulled) tended.layout_of none_at few_at,
    );
    accounted = λ setting is.
        let fits = fits_over over setting is in
        let end = ends setting fits in
        run_accounted acts state plan now manager run is_manager over closed serial (told_by serial may_tell)
        (taken_by serial cost_may_take) began units setting fits end.underway end.moment;
    counted = λ setting is.
        run_counted acts state plan now manager run is_manager over closed setting (fits_over over setting is)
        ∙ frames_counted setting is.setting_is;
  }

  -- A session that a fault stopped

  known_by : (port : ℕ) (role : Role I N) (fault : FeedFault) → slice_get manager.roles.items port ≡ Some role
      → fault_of role ≡ Some fault → port < plan.ports
  known_by port (Receive rx) fault found is =
      let below = receives_below manager.board.layout port (sym (tended.kinds port (Receive rx) found)) in
      omega (arith, below, tended.layout_of.ports)
  known_by port (Send tx) fault found is = absurd (cc is)
  known_by port (Handle core) fault found is = absurd (cc is)
  known_by port (Tick tick) fault found is = absurd (cc is)

  pub stopped : (port : ℕ) (fault : FeedFault) → HasFault manager.roles.items port fault
      → HasStopped name_of left_of takes_of plan given (manager.feeds.items ++ feeds_of manager.roles.items) port fault
  stopped port fault has =
      let known = known_by port has.role fault has.at has.fault_is in
      record {
        known = known;
        standing = standing_of has.role;
        stands = stands_at name_of left_of takes_of plan given manager tended few port has.role has.at known;
        fault_is = has.fault_is;
        lower = λ p under.
            let at = role_at p (omega (arith, known, under)) in (
              standing_of at.0,
              stands_at name_of left_of takes_of plan given manager tended few p at.0 at.1 (omega (arith, known, under)),
              has.lower p at.0 under at.1,
            );
      }

  -- The same of what is handed back

  pub is_stop : (stop : Stop) (back : List (Feed I)) → back ≡ manager.feeds.items ++ feeds_of manager.roles.items
      → ((port : ℕ) (fault : FeedFault) → told_fault stop ≡ Some (port, fault)
      → HasFault manager.roles.items port fault)
      → IsStop name_of left_of takes_of plan given back stop
  is_stop stop back is told port fault e =
      subst (λ (feeds : List (Feed I)). HasStopped name_of left_of takes_of plan given feeds port fault) (sym is)
      (stopped port fault (told port fault e))

  -- rounds are done
  pub rounds_done : (acts : N → Acts) (state : N → Tree) (units : List N) (first : Manager I N) (now : ℕ)
      (outcome : Result Run Stop) (back : List (Feed I))
      → IsNewManager name_of left_of takes_of acts state plan units given 0 first
      → AllGrow name_of left_of takes_of first manager
      → GoesOn acts state true any_moment is_cost plan first manager
      → IsManager acts state is_cost plan manager
      → IsOver manager
      → place_now manager ≡ 0 → 0 < round_now manager → now ≡ moment_of_round (round_now manager - 1)
      → back ≡ manager.feeds.items ++ feeds_of manager.roles.items
      → IfOk outcome (λ run. IsClosedRun plan now manager run)
      → (may_tell : ℕ → Type 0) (cost_may_take : ℕ → ℕ → Type 0)
      → IfOk outcome (λ run. IsDone name_of left_of takes_of true may_tell cost_may_take (acts_by acts state units)
      (start_by acts state units) plan given back run)
  rounds_done acts state units first now (Ok run) back new grow on is_manager over place some at is closed may_tell
      cost_may_take =
      subst (λ (feeds : List (Feed I)). IsDone name_of left_of takes_of true may_tell cost_may_take
      (acts_by acts state units) (start_by acts state units) plan given feeds run) (sym is)
      (done acts state true may_tell cost_may_take 0 units now run
      (any_spans acts state is_cost plan manager is_manager) over closed
      (λ setting fits. record {
        underway =
            on.on 0 units setting fits
            (new_underway name_of left_of takes_of acts state plan units given 0 first new refl setting
            (all_earlier name_of left_of takes_of plan setting first manager grow fits));
        moment =
            subst (λ (layout : Layout).
            (place_in layout manager.first.log ≡ 0)
            × (0 < round_of_turn layout (turns_in (view_of_token manager.first)))
            × (now ≡ moment_of_round (round_of_turn layout (turns_in (view_of_token manager.first)) - 1)))
            (sym fits.layout_is) (place, some, at);
      }))
  rounds_done acts state units first now (Err stop) back new grow on is_manager over place some at is closed may_tell
      cost_may_take = tt

  -- phases are done
  pub phases_done : (acts : N → Acts) (state : N → Tree) (may_tell : ℕ → Type 0) (cost_may_take : ℕ → ℕ → Type 0)
      (units : List N) (began : ℕ) (first : Manager I N) (now : ℕ) (outcome : Result Run Stop) (back : List (Feed I))
      → IsNewManager name_of left_of takes_of acts state plan units given began first
      → AllGrow name_of left_of takes_of first manager
      → GoesOnTo acts state may_tell cost_may_take plan began now first manager
      → IsManager acts state cost_may_take plan manager
      → IsOver manager
      → may_tell now
      → back ≡ manager.feeds.items ++ feeds_of manager.roles.items
      → IfOk outcome (λ run. IsClosedRun plan now manager run)
      → IfOk outcome (λ run. IsDone name_of left_of takes_of false may_tell cost_may_take (acts_by acts state units)
      (start_by acts state units) plan given back run)
  phases_done acts state may_tell cost_may_take units began first now (Ok run) back new grow on is_manager over told is
      closed =
      subst (λ (feeds : List (Feed I)). IsDone name_of left_of takes_of false may_tell cost_may_take
      (acts_by acts state units) (start_by acts state units) plan given feeds run) (sym is)
      (done acts state false may_tell cost_may_take began units now run
      (any_spans acts state cost_may_take plan manager is_manager) over closed
      (λ setting fits.
      let at = on.on began units setting fits
      (new_underway_at name_of left_of takes_of acts state plan units given began first new may_tell cost_may_take
      setting (all_earlier name_of left_of takes_of plan setting first manager grow fits)) in
      record { underway = at.underway; moment = (told, at.reached) }))
  phases_done acts state may_tell cost_may_take units began first now (Err stop) back new grow on is_manager over told
      is closed = tt

  pub stopped_as : (stop : Stop) (outcome : Result Run Stop) (back : List (Feed I)) → outcome ≡ Err stop
      → back ≡ manager.feeds.items ++ feeds_of manager.roles.items
      → ((port : ℕ) (fault : FeedFault) → told_fault stop ≡ Some (port, fault)
      → HasFault manager.roles.items port fault)
      → IfErr outcome (λ stop. IsStop name_of left_of takes_of plan given back stop)
  stopped_as stop outcome back is feeds told =
      subst (λ (o : Result Run Stop). IfErr o (λ stop. IsStop name_of left_of takes_of plan given back stop)) (sym is)
      (is_stop stop back feeds told)

  pub back_as : (back : List (Feed I)) → back ≡ manager.feeds.items ++ feeds_of manager.roles.items
      → AreHandedBack name_of given back
  back_as back is =
      subst (λ (feeds : List (Feed I)). AreHandedBack name_of given feeds) (sym is)
      (back_again name_of left_of takes_of plan given manager tended few)

  pub stand_as : (back : List (Feed I)) → back ≡ manager.feeds.items ++ feeds_of manager.roles.items
      → AllStand name_of left_of takes_of plan given back
  stand_as back is =
      subst (λ (feeds : List (Feed I)). AllStand name_of left_of takes_of plan given feeds) (sym is) all_stand
