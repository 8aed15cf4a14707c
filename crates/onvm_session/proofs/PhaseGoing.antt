-- A phase: the session goes on.
use Rattle.std.proofs.Common.{◌≡◌, ℕ, ◌+◌, ◌<◌, ◌≤◌, Bool, true, false, inl, inr, List, [], length, refl, sym, ◌∙◌, ap, subst, arith, Some, Option}
use Rattle.std.specs.Prelude.{◌⊎◌, ◌-◌, nat_lt, slice_get}
use Rattle.std.proofs.lemmas.Bool.{cases_Bool, ltb-true, ltb-false}
use Rattle.std.proofs.lemmas.List.{get_or_past}
use Rattle.onvm_base.specs.declared.plan.Plan.{Plan}
use Rattle.onvm_core.specs.declared.layout.Layout.{Layout}
use Rattle.onvm_core.specs.Blocks.{RoleKind, kind_of}
use Rattle.onvm_core.specs.Blocks.RoleKind.{Handles}
use Rattle.onvm_core.specs.Layouts.{first_role, tick_role}
use Rattle.onvm_core.specs.Logs.{Log, Setting}
use Rattle.onvm_board.specs.Tokens.{TokenView, kept_log, split_token}
use Rattle.onvm_host.specs.Deeds.{Amounts}
use Rattle.nf_api.specs.Acts.{Acts}
use Rattle.nf_api.specs.Tree.{Tree}
use Rattle.onvm_session.proofs.Growing.{all_earlier, got_below, got_some, some_inj}
use Rattle.onvm_session.proofs.KeptByTurns.{phase_keeps}
use Rattle.onvm_session.proofs.ManagerPhases.{HasPasses, IsPhase, as_many, board_layout, role_passes}
use Rattle.onvm_session.proofs.ManagerTurns.{has_states}
use Rattle.onvm_session.proofs.Passing.{so_far_states}
use Rattle.onvm_session.proofs.PhaseTokens.{phase_none, phase_own, phase_view}
use Rattle.onvm_session.proofs.RolePasses.{ready_kind}
use Rattle.onvm_session.proofs.SerialTicking.{up_to_later}
use Rattle.onvm_session.specs.declared.manager.Manager.{Manager}
use Rattle.onvm_session.specs.declared.role.Role.{Role}
use Rattle.onvm_session.specs.declared.role.Role.TheVariants.{Receive, Send, Handle, Tick}
use Rattle.onvm_session.specs.declared.seat.Seat.{Seat}
use Rattle.onvm_session.specs.Boards.{view_of_token}
use Rattle.onvm_session.specs.Managers.{AllGrow, FitsAll, GoesOnTo, IsManager, IsUnderway, IsUnderwayAt, keeps_at, keeps_in, states_in}
use Rattle.onvm_session.specs.RoleStates.{FitsOne, HasStates, IsBoundTo, IsRoleInOrder, StartedAt, acts_by, keeps_of, kind_in, start_by}
use Rattle.onvm_session.specs.Seats.{IsInStep}
use Rattle.onvm_session.specs.Sessions.{AllTold, AreTicksKept, IsRoleSoFar, IsSession, Keeps, after_phase}
use Rattle.onvm_session.specs.Views.{FinalView}

-- Roles alone

-- where each number below n has some moments, all have them at once
module _ (n : ℕ) (holds : ℕ → (ℕ → ℕ) → Type 0) (each : (r : ℕ) → r < n → (moment : ℕ → ℕ) × holds r moment) where
  moments_of_one : (r : ℕ) → (moment : ℕ → ℕ) × (r < n → holds r moment)
  moments_of_one r = elim (cases_Bool (nat_lt r n)) [
    | inl met ↦ let one = each r (ltb-true r n met) in (one.0, λ less. one.1)
    | inr unmet ↦ (λ number. 0, λ less. absurd (omega (arith, less, ltb-false r n unmet)))
  ]

  moments_of_all : (moments : ℕ → ℕ → ℕ) × ((r : ℕ) → r < n → holds r (moments r))
  moments_of_all = (λ r. (moments_of_one r).0, λ r. (moments_of_one r).1)

-- what a role is between passes says of states no more than its own functions'
so_far_with : {I N : Type 0} (acts : N → Acts) (state : N → Tree) (cost_may_take : ℕ → ℕ → Type 0) (units : List N)
    (setting : Setting) (r : ℕ) (role : Role I N) (states now : ℕ → Tree) (moment : ℕ → ℕ) (log : Log) (keeps : Keeps)
    → HasStates acts state setting.layout r role states → HasStates acts state setting.layout r role now
    → IsRoleSoFar (acts_by acts state units) (start_by acts state units) states cost_may_take setting r (kind_in role)
    moment log keeps
    → IsRoleSoFar (acts_by acts state units) (start_by acts state units) now cost_may_take setting r (kind_in role)
    moment log keeps
so_far_with acts state cost_may_take units setting r (Receive rx) states now moment log keeps has has_now is = is
so_far_with acts state cost_may_take units setting r (Send tx) states now moment log keeps has has_now is = is
so_far_with acts state cost_may_take units setting r (Handle core) states now moment log keeps has has_now is =
    so_far_states (acts_by acts state units) (start_by acts state units) states now cost_may_take setting r Handles
    moment log keeps (λ f own. has_now f own.known own.core ∙ sym (has f own.known own.core)) is
so_far_with acts state cost_may_take units setting r (Tick tick) states now moment log keeps has has_now is = is

-- up to a moment is up to a later one
kept_later : (setting : Setting) (first was now : ℕ) (log : Log) (keeps : Keeps) → was ≤ now
    → AreTicksKept setting first was log keeps → AreTicksKept setting first now log keeps
kept_later setting first was now log keeps rises is =
    let last = is.last in
    record {
      so_far = is.so_far;
      never_fall = is.never_fall;
      up_to = up_to_later keeps.samples was now rises is.up_to;
      last = omega (arith, last, rises);
    }

module _ {I N : Type 0} (acts : N → Acts) (state : N → Tree) (may_tell : ℕ → Type 0) (cost_may_take : ℕ → ℕ → Type 0)
  where
    -- a role in step, of these roles
    pub record IsRoleInStep (first : ℕ) (units : List N) (setting : Setting) (now : ℕ) (log : Log) (roles : List (Role I N))
        (r : ℕ) (moment : ℕ → ℕ) : Type 0 where
      pub role : Role I N
      pub latest : ℕ
      pub at : slice_get roles r ≡ Some role
      pub reached : latest ≤ now
      pub step : IsInStep acts state may_tell cost_may_take first units setting r moment latest log role

    -- the session tells of each role that it is in step
    module _ (plan : Plan) (latest first : ℕ) (units : List N) (setting : Setting) (old : Manager I N)
        (manager : IsManager acts state cost_may_take plan old) (layout_is : setting.layout ≡ old.board.layout)
        (under : IsUnderwayAt acts state may_tell cost_may_take first latest units setting old)
      where
        abbrev states : ℕ → Tree
        states = states_in acts state old.board.layout old.roles.items

        abbrev moments : ℕ → ℕ → ℕ
        moments = under.underway.moments

        module _ (r : ℕ) (role : Role I N) (found : slice_get old.roles.items r ≡ Some role) where
          has : HasStates acts state setting.layout r role states
          has =
              subst (λ (l : Layout). HasStates acts state l r role states) (sym layout_is)
              (has_states acts state old.board.layout r role old.roles.items found)

          known : r < first_role setting.layout
          known =
              let below = got_below old.roles.items r role found in
              let many = manager.many in
              subst (λ (l : Layout). r < first_role l) (sym layout_is) (omega (arith, below, many))

          kind_is : kind_in role ≡ kind_of setting.layout r
          kind_is =
              ready_kind acts state cost_may_take old.board plan (split_token r old.first) role
              (manager.ready r role found)
              ∙ ap (λ (l : Layout). kind_of l r) (sym layout_is)

          so_far : IsRoleSoFar (acts_by acts state units) (start_by acts state units) states cost_may_take setting r
              (kind_in role) (moments r) (kept_log r old.first) (keeps_of role)
          so_far =
              subst (λ (kind : RoleKind).
              IsRoleSoFar (acts_by acts state units) (start_by acts state units) states cost_may_take setting r kind
              (moments r) (kept_log r old.first) (keeps_of role)) (sym kind_is)
              (subst (IsRoleSoFar (acts_by acts state units) (start_by acts state units) states cost_may_take setting r
              (kind_of setting.layout r) (moments r) (kept_log r old.first)) (ap keeps_at found)
              (under.underway.session.roles r known))

          pub was_in_step : IsInStep acts state may_tell cost_may_take first units setting r (moments r) latest
              (kept_log r old.first) role
          was_in_step = record {
            in_order = under.underway.in_order r role found;
            started = under.underway.started r role found;
            bound =
                subst (λ (l : Layout). IsBoundTo acts state l r units role) (sym layout_is)
                (under.underway.bound r role found);
            so_far = λ now has_now.
                subst (λ (kind : RoleKind).
                IsRoleSoFar (acts_by acts state units) (start_by acts state units) now cost_may_take setting r kind
                (moments r) (kept_log r old.first) (keeps_of role)) kind_is
                (so_far_with acts state cost_may_take units setting r role states now (moments r) (kept_log r old.first)
                (keeps_of role) has has_now so_far);
            timed = under.underway.session.so_far.timed r;
            ticks = λ own.
                subst (λ (keeps : Keeps). AreTicksKept setting first latest (kept_log r old.first) keeps)
                (ap keeps_at found)
                (subst (λ (n : ℕ).
                AreTicksKept setting first latest (kept_log n old.first) (keeps_in old.roles.items n)) (sym own)
                (kept_later setting first under.underway.latest latest
                (kept_log (tick_role setting.layout) old.first) (keeps_in old.roles.items (tick_role setting.layout))
                under.reached under.underway.session.ticks));
            told = λ own.
                subst (λ (keeps : Keeps). AllTold may_tell keeps.ticks) (ap keeps_at found)
                (subst (λ (n : ℕ). AllTold may_tell (keeps_in old.roles.items n).ticks) (sym own)
                under.underway.session.timed_ticks);
          }

-- All roles

module _ {I N : Type 0} (acts : N → Acts) (state : N → Tree) (may_tell : ℕ → Type 0) (cost_may_take : ℕ → ℕ → Type 0)
    (name_of : I → List ℕ) (left_of : I → Option (List ℕ)) (takes_of : I → Amounts) (plan : Plan)
    (latest now seen : ℕ) (was is : List (Seat I N)) (joined : TokenView) (old new : Manager I N)
    (manager : IsManager acts state cost_may_take plan old)
    (phase : IsPhase acts state may_tell cost_may_take name_of left_of takes_of plan latest now seen was is joined old new)
  where
    layout_now : new.board.layout ≡ old.board.layout
    layout_now =
        board_layout acts state may_tell cost_may_take name_of left_of takes_of plan latest now seen was is joined old new
        manager phase

    passes_of : (r : ℕ) → r < length new.roles.items
        → HasPasses acts state may_tell cost_may_take name_of left_of takes_of plan latest r is old new
    passes_of = role_passes acts state may_tell cost_may_take name_of left_of takes_of plan latest was is old new phase.passes

    many_now : length new.roles.items ≡ first_role old.board.layout
    many_now =
        as_many acts state may_tell cost_may_take name_of left_of takes_of plan latest was is old new phase.passes
        ∙ manager.many

    module _ (first : ℕ) (units : List N) (setting : Setting) (fits : FitsAll plan setting new)
        (under : IsUnderwayAt acts state may_tell cost_may_take first latest units setting old)
      where
        layout_is : setting.layout ≡ old.board.layout
        layout_is = fits.layout_is ∙ layout_now

        abbrev HasStep : ℕ → (ℕ → ℕ) → Type 0
        HasStep r moment =
            IsRoleInStep acts state may_tell cost_may_take first units setting now (kept_log r new.first) new.roles.items
            r moment

        step_of : (r : ℕ) → r < first_role setting.layout → (moment : ℕ → ℕ) × HasStep r moment
        step_of r less =
            let below : r < first_role old.board.layout = subst (λ (l : Layout). r < first_role l) layout_is less in
            let one = passes_of r (omega (arith, below, many_now)) in
            let number : one.behind.number ≡ r = one.passed.number ∙ one.seated.number_is in
            let fits_one : FitsOne old.board.layout plan one.behind.number one.behind.role setting =
            subst (λ (n : ℕ). FitsOne old.board.layout plan n one.behind.role setting) (sym number)
            (subst (λ (l : Layout). FitsOne l plan r one.behind.role setting) layout_now
            (fits.fits r one.behind.role one.role)) in
            let stepped : IsInStep acts state may_tell cost_may_take first units setting one.before.number
            (under.underway.moments r) one.before.latest one.before.token.log one.before.role =
            subst (λ (log : Log).
            IsInStep acts state may_tell cost_may_take first units setting one.before.number (under.underway.moments r)
            one.before.latest log one.before.role) (sym (ap (λ (t : TokenView). t.log) one.seated.token))
            (subst (λ (n : ℕ).
            IsInStep acts state may_tell cost_may_take first units setting one.before.number (under.underway.moments r)
            n (kept_log r old.first) one.before.role) (sym one.seated.latest_is)
            (subst (λ (n : ℕ).
            IsInStep acts state may_tell cost_may_take first units setting n (under.underway.moments r)
            latest (kept_log r old.first) one.before.role) (sym one.seated.number_is)
            (was_in_step acts state may_tell cost_may_take plan latest first units setting old manager layout_is under r
            one.before.role one.seated.role))) in
            let goes = one.passed.on (phase.complete one.place one.behind one.at_place) first units setting
            (under.underway.moments r) fits_one stepped in
            let own : kept_log r new.first ≡ one.behind.token.log =
            subst (λ (n : ℕ). kept_log n new.first ≡ one.behind.token.log) one.number
            (phase_own old.board is seen old.first joined new.first phase.token one.place one.behind one.at_place) in (
              goes.0,
              record {
                role = one.behind.role;
                latest = one.behind.latest;
                at = one.role;
                reached = phase.upto one.place one.behind one.at_place;
                step =
                    subst (λ (log : Log).
                    IsInStep acts state may_tell cost_may_take first units setting r goes.0 one.behind.latest log
                    one.behind.role) (sym own)
                    (subst (λ (n : ℕ).
                    IsInStep acts state may_tell cost_may_take first units setting n goes.0 one.behind.latest
                    one.behind.token.log one.behind.role) number goes.1);
              },
            )

        steps : (moments : ℕ → ℕ → ℕ) × ((r : ℕ) → r < first_role setting.layout → HasStep r (moments r))
        steps = moments_of_all (first_role setting.layout) HasStep step_of

        abbrev moments_now : ℕ → ℕ → ℕ
        moments_now = steps.0

        abbrev states_now : ℕ → Tree
        states_now = states_in acts state new.board.layout new.roles.items

        tick_below : tick_role setting.layout < first_role setting.layout
        tick_below = omega arith

        tick_step : HasStep (tick_role setting.layout) (moments_now (tick_role setting.layout))
        tick_step = steps.1 (tick_role setting.layout) tick_below

        -- behind the last role there is no log
        none_now : (r : ℕ) → first_role setting.layout ≤ r → kept_log r new.first ≡ []
        none_now r behind =
            phase_none old.board is seen old.first joined new.first phase.token r
            (subst (λ (l : Layout). first_role l ≤ r) layout_is behind)

        none_was : (r : ℕ) → first_role setting.layout ≤ r → kept_log r old.first ≡ []
        none_was r behind =
            let past : first_role old.board.layout ≤ r =
            subst (λ (l : Layout). first_role l ≤ r) layout_is behind in
            let kept = manager.kept in
            get_or_past old.first.logs r [] (omega (arith, past, kept))

        timed_now : (r number : ℕ) → number < length (kept_log r new.first) → may_tell (moments_now r number)
        timed_now r number less = elim (cases_Bool (nat_lt r (first_role setting.layout))) [
          | inl met ↦ (steps.1 r (ltb-true r (first_role setting.layout) met)).step.timed number less
          | inr unmet ↦
              let none = ap length (none_now r (ltb-false r (first_role setting.layout) unmet)) in
              absurd (omega (arith, less, none))
        ]

        roles_now : (r : ℕ) → r < first_role setting.layout
            → IsRoleSoFar (acts_by acts state units) (start_by acts state units) states_now cost_may_take setting r
            (kind_of setting.layout r) (moments_now r) (kept_log r new.first) (keeps_in new.roles.items r)
        roles_now r less =
            let one = steps.1 r less in
            subst (IsRoleSoFar (acts_by acts state units) (start_by acts state units) states_now cost_may_take setting r
            (kind_of setting.layout r) (moments_now r) (kept_log r new.first)) (sym (ap keeps_at one.at))
            (one.step.so_far states_now
            (subst (λ (l : Layout). HasStates acts state l r one.role states_now) (sym fits.layout_is)
            (has_states acts state new.board.layout r one.role new.roles.items one.at)))

        session_behind : IsSession false may_tell (acts_by acts state units) (start_by acts state units) states_now
            cost_may_take setting moments_now first tick_step.latest
            (after_phase (first_role setting.layout) seen (λ r. kept_log r new.first) (view_of_token old.first))
            (keeps_in new.roles.items)
        session_behind =
            phase_keeps may_tell (acts_by acts state units) (start_by acts state units)
            (states_in acts state old.board.layout old.roles.items) states_now cost_may_take setting
            under.underway.moments moments_now first under.underway.latest tick_step.latest (view_of_token old.first)
            (keeps_in old.roles.items) (keeps_in new.roles.items) seen (λ r. kept_log r new.first)
            under.underway.session (λ r behind. none_now r behind ∙ sym (none_was r behind)) timed_now roles_now
            (subst (AreTicksKept setting first tick_step.latest (kept_log (tick_role setting.layout) new.first))
            (sym (ap keeps_at tick_step.at)) (tick_step.step.ticks refl))
            (subst (λ (keeps : Keeps). AllTold may_tell keeps.ticks) (sym (ap keeps_at tick_step.at))
            (tick_step.step.told refl))

        view_now : view_of_token new.first
            ≡ after_phase (first_role setting.layout) seen (λ r. kept_log r new.first) (view_of_token old.first)
        view_now =
            phase_view old.board is seen old.first joined new.first phase.token
            ∙ ap (λ (l : Layout). after_phase (first_role l) seen (λ r. kept_log r new.first) (view_of_token old.first))
            (sym layout_is)

        -- a role of these has the step that its number has
        step_at : (r : ℕ) (role : Role I N) → slice_get new.roles.items r ≡ Some role
            → (later : ℕ)
            × IsInStep acts state may_tell cost_may_take first units setting r (moments_now r) later
            (kept_log r new.first) role
        step_at r role found =
            let below = got_below new.roles.items r role found in
            let less : r < first_role setting.layout =
            subst (λ (l : Layout). r < first_role l) (sym layout_is) (omega (arith, below, many_now)) in
            let one = steps.1 r less in (
              one.latest,
              subst (IsInStep acts state may_tell cost_may_take first units setting r (moments_now r) one.latest
                  (kept_log r new.first)) (some_inj one.role role (sym one.at ∙ found)) one.step,
            )

        underway_now : IsUnderwayAt acts state may_tell cost_may_take first now units setting new
        underway_now = record {
          underway = record {
            moments = moments_now;
            latest = tick_step.latest;
            session =
                subst (λ (view : FinalView).
                IsSession false may_tell (acts_by acts state units) (start_by acts state units) states_now
                cost_may_take setting moments_now first tick_step.latest view (keeps_in new.roles.items)) (sym view_now)
                session_behind;
            in_order = λ r role found. (step_at r role found).1.in_order;
            started = λ r role found. (step_at r role found).1.started;
            bound = λ r role found.
                subst (λ (l : Layout). IsBoundTo acts state l r units role) fits.layout_is
                (step_at r role found).1.bound;
          };
          reached = tick_step.reached;
        }

    -- what the session was it is behind the phase
    pub phase_on : GoesOnTo acts state may_tell cost_may_take plan latest now old new
    phase_on = record { on = λ first units setting fits under. underway_now first units setting fits under }

-- Phases after phases

module _ {I N : Type 0} (acts : N → Acts) (state : N → Tree) (may_tell : ℕ → Type 0) (cost_may_take : ℕ → ℕ → Type 0)
    (plan : Plan) where
  pub on_to_same : (now : ℕ) (manager : Manager I N)
      → GoesOnTo acts state may_tell cost_may_take plan now now manager manager
  on_to_same now manager = record { on = λ first units setting fits under. under }

  pub on_to_then : (name_of : I → List ℕ) (left_of : I → Option (List ℕ)) (takes_of : I → Amounts) (was then_at now : ℕ)
      (old manager new : Manager I N) → GoesOnTo acts state may_tell cost_may_take plan was then_at old manager
      → GoesOnTo acts state may_tell cost_may_take plan then_at now manager new
      → AllGrow name_of left_of takes_of manager new
      → GoesOnTo acts state may_tell cost_may_take plan was now old new
  on_to_then name_of left_of takes_of was then_at now old manager new one two grow = record {
    on = λ first units setting fits under.
        two.on first units setting fits
        (one.on first units setting (all_earlier name_of left_of takes_of plan setting manager new grow fits) under);
  }
