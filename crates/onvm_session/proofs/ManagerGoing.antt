-- A turn of a role: the session goes on.
use Rattle.std.proofs.Common.{◌≡◌, ◌≢◌, ℕ, ◌<◌, true, false, List, length, refl, sym, ◌∙◌, ap, subst, Some, Option}
use Rattle.std.specs.Prelude.{◌==◌, slice_get, slice_set}
use Rattle.std.proofs.lemmas.Bool.{eq-eqb, ne_eqb}
use Rattle.onvm_base.specs.declared.plan.Plan.{Plan}
use Rattle.onvm_core.specs.declared.layout.Layout.{Layout}
use Rattle.onvm_core.proofs.Lists.{if_met, if_unmet}
use Rattle.onvm_core.specs.Blocks.{kind_of}
use Rattle.onvm_core.specs.Layouts.{IsLayout, core_role}
use Rattle.onvm_core.specs.Logs.{Log, Setting}
use Rattle.onvm_board.specs.Tokens.{TokenView, kept_log}
use Rattle.nf_api.specs.Acts.{Acts}
use Rattle.nf_api.specs.Tree.{Tree}
use Rattle.onvm_promises.specs.declared.pass.Pass.{Pass}
use Rattle.onvm_promises.specs.Kept.{moment_then}
use Rattle.onvm_session.proofs.KeptByTurns.{turn_keeps}
use Rattle.onvm_session.proofs.ManagerRuns.{each_set}
use Rattle.onvm_session.proofs.ManagerTurns.{IsTurn, below, found_now, found_other, has_states, keeps_are, other_log, own_log, same_layout, view_is}
use Rattle.onvm_session.specs.declared.manager.Manager.{Manager}
use Rattle.onvm_session.specs.declared.role.Role.{Role}
use Rattle.onvm_session.specs.Boards.{view_of_token}
use Rattle.onvm_session.specs.Managers.{FitsAll, GoesOn, IsManager, IsUnderway, OfEach, keeps_at, keeps_in, place_now, round_now, state_at, states_in}
use Rattle.onvm_session.specs.Moments.{moment_of_round, round_of_turn}
use Rattle.onvm_session.specs.RoleStates.{FitsOne, HasStates, IsBoundTo, IsRoleInOrder, StartedAt, acts_by, keeps_of, start_by}
use Rattle.onvm_session.specs.Sessions.{IsRolePass, IsSession, Keeps, OthersKeep, after_turn, with_keeps, with_moment}
use Rattle.onvm_session.specs.Views.{FinalView, place_in, role_at, turns_in}

module _ {I N : Type 0} (acts : N → Acts) (state : N → Tree) (may_tell : ℕ → Type 0) (cost_may_take : ℕ → ℕ → Type 0)
    (plan : Plan) (role now seen : ℕ) (token : TokenView) (answer : Pass) (was is : Role I N) (old new : Manager I N)
    (manager : IsManager acts state cost_may_take plan old)
    (turn : IsTurn acts state cost_may_take plan role now seen token answer was is old new)
    (at_place : role ≡ role_at old.board.layout (place_now old)) (at_moment : now ≡ moment_of_round (round_now old))
  where
    layout_now : new.board.layout ≡ old.board.layout
    layout_now = same_layout acts state cost_may_take plan role now seen token answer was is old new manager turn

    is_now : slice_get new.roles.items role ≡ Some is
    is_now = found_now acts state cost_may_take plan role now seen token answer was is old new manager turn

    known : role < length old.roles.items
    known = below acts state cost_may_take plan role now seen token answer was is old new manager turn

    module _ (first : ℕ) (units : List N) (setting : Setting) (fits : FitsAll plan setting new)
        (underway : IsUnderway acts state true may_tell cost_may_take first units setting old)
      where
        layout_is : setting.layout ≡ old.board.layout
        layout_is = fits.layout_is ∙ layout_now

        abbrev moment_there : ℕ
        moment_there = moment_of_round (round_of_turn setting.layout (turns_in (view_of_token old.first)))

        abbrev states : ℕ → Tree
        states = states_in acts state old.board.layout old.roles.items

        abbrev states_now : ℕ → Tree
        states_now = states_in acts state new.board.layout new.roles.items

        abbrev moments_now : ℕ → ℕ → ℕ
        moments_now = with_moment role
            (moment_then (underway.moments role) (length (kept_log role old.first)) moment_there) underway.moments

        now_there : now ≡ moment_there
        now_there =
            at_moment
            ∙ ap (λ (l : Layout). moment_of_round (round_of_turn l (turns_in (view_of_token old.first)))) (sym layout_is)

        fits_now : FitsOne old.board.layout plan role is setting
        fits_now = subst (λ (l : Layout). FitsOne l plan role is setting) layout_now (fits.fits role is is_now)

        in_order_was : IsRoleInOrder setting role (underway.moments role) (kept_log role old.first) was
        in_order_was = underway.in_order role was turn.at

        promise : IsRolePass (acts_by acts state units) (start_by acts state units) states_now cost_may_take setting role
            (kind_of setting.layout role) first moment_there false (underway.moments role) (kept_log role old.first)
            token.log (keeps_in old.roles.items role) (keeps_of is) answer
        promise =
            let told = turn.pass.promise setting (underway.moments role) first units states_now fits_now in_order_was
            (underway.started role was turn.at) (underway.bound role was turn.at)
            (subst (λ (l : Layout). HasStates acts state l role is states_now) layout_now
            (has_states acts state new.board.layout role is new.roles.items is_now)) in
            subst (λ (keeps : Keeps).
            IsRolePass (acts_by acts state units) (start_by acts state units) states_now cost_may_take setting role
            (kind_of setting.layout role) first moment_there false (underway.moments role) (kept_log role old.first)
            token.log keeps (keeps_of is) answer) (sym (ap keeps_at turn.at))
            (subst (λ (n : ℕ).
            IsRolePass (acts_by acts state units) (start_by acts state units) states_now cost_may_take setting role
            (kind_of setting.layout role) first n false (underway.moments role) (kept_log role old.first)
            token.log (keeps_of was) (keeps_of is) answer) now_there
            (subst (λ (l : Layout).
            IsRolePass (acts_by acts state units) (start_by acts state units) states_now cost_may_take setting role
            (kind_of l role) first now false (underway.moments role) (kept_log role old.first)
            token.log (keeps_of was) (keeps_of is) answer) (sym layout_is) told))

        others_keep : OthersKeep setting role states states_now
        others_keep f other own apart =
            let new_core : core_role new.board.layout f.0 ≡ other =
            ap (λ (l : Layout). core_role l f.0) (sym fits.layout_is) ∙ own.core in
            let old_core : core_role old.board.layout f.0 ≡ other =
            ap (λ (l : Layout). core_role l f.0) (sym layout_is) ∙ own.core in
            ap (λ (r : ℕ). state_at acts state (slice_get new.roles.items r) f.0) new_core
            ∙ ap (λ (at : Option (Role I N)). state_at acts state at f.0)
            (found_other acts state cost_may_take plan role now seen token answer was is old new manager turn other apart)
            ∙ sym (ap (λ (r : ℕ). state_at acts state (slice_get old.roles.items r) f.0) old_core)

        behind : (later : ℕ)
            × IsSession true may_tell (acts_by acts state units) (start_by acts state units) states_now cost_may_take
            setting moments_now first later (after_turn role seen token.log (view_of_token old.first))
            (with_keeps role (keeps_of is) (keeps_in old.roles.items))
        behind =
            turn_keeps may_tell (acts_by acts state units) (start_by acts state units) states states_now cost_may_take
            setting underway.moments first underway.latest (view_of_token old.first) (keeps_in old.roles.items) role seen
            token.log (keeps_of is) answer (subst IsLayout (sym layout_is) manager.ranges) underway.session
            (at_place ∙ ap (λ (l : Layout). role_at l (place_in l old.first.log)) (sym layout_is)) promise
            turn.pass.complete others_keep

        session_now : IsSession true may_tell (acts_by acts state units) (start_by acts state units) states_now
            cost_may_take setting moments_now first behind.0 (view_of_token new.first) (keeps_in new.roles.items)
        session_now =
            subst (λ (view : FinalView).
            IsSession true may_tell (acts_by acts state units) (start_by acts state units) states_now
            cost_may_take setting moments_now first behind.0 view (keeps_in new.roles.items))
            (sym (view_is acts state cost_may_take plan role now seen token answer was is old new manager turn))
            (subst (λ (keeps : ℕ → Keeps).
            IsSession true may_tell (acts_by acts state units) (start_by acts state units) states_now
            cost_may_take setting moments_now first behind.0 (after_turn role seen token.log (view_of_token old.first))
            keeps)
            (sym (keeps_are acts state cost_may_take plan role now seen token answer was is old new manager turn))
            behind.1)

        in_order_own : IsRoleInOrder setting role (moments_now role) (kept_log role new.first) is
        in_order_own =
            let grown : ℕ → ℕ → ℕ =
            λ n. moment_then (underway.moments role) (length (kept_log role old.first)) n in
            let own_moment : moments_now role ≡ grown moment_there =
            if_met (role == role) (grown moment_there) (underway.moments role) (eq-eqb role role refl) in
            subst (λ (log : Log). IsRoleInOrder setting role (moments_now role) log is)
            (sym (own_log acts state cost_may_take plan role now seen token answer was is old new manager turn))
            (subst (λ (moment : ℕ → ℕ). IsRoleInOrder setting role moment token.log is)
            (ap grown now_there ∙ sym own_moment)
            (turn.pass.in_order setting (underway.moments role) fits_now in_order_was))

        in_order_other : (r : ℕ) (other : Role I N) → r ≢ role → slice_get old.roles.items r ≡ Some other
            → IsRoleInOrder setting r (moments_now r) (kept_log r new.first) other
        in_order_other r other apart found =
            let grown : ℕ → ℕ =
            moment_then (underway.moments role) (length (kept_log role old.first)) moment_there in
            subst (λ (log : Log). IsRoleInOrder setting r (moments_now r) log other)
            (sym (other_log acts state cost_may_take plan role now seen token answer was is old new manager turn r apart))
            (subst (λ (moment : ℕ → ℕ). IsRoleInOrder setting r moment (kept_log r old.first) other)
            (sym (if_unmet (r == role) grown (underway.moments r) (ne_eqb r role apart)))
            (underway.in_order r other found))

        underway_now : IsUnderway acts state true may_tell cost_may_take first units setting new
        underway_now = record {
          moments = moments_now;
          latest = behind.0;
          session = session_now;
          in_order =
              subst (OfEach (λ r role. IsRoleInOrder setting r (moments_now r) (kept_log r new.first) role))
              (sym turn.roles)
              (each_set (λ r role. IsRoleInOrder setting r (moments_now r) (kept_log r new.first) role) old.roles.items
              role is known in_order_own in_order_other);
          started =
              subst (OfEach (λ r role. StartedAt first role)) (sym turn.roles)
              (each_set (λ r role. StartedAt first role) old.roles.items role is known
              (turn.pass.first first (underway.started role was turn.at))
              (λ r other apart found. underway.started r other found));
          bound =
              subst (OfEach (λ r role. IsBoundTo acts state new.board.layout r units role)) (sym turn.roles)
              (subst (λ (l : Layout). OfEach (λ r role. IsBoundTo acts state l r units role)
              (slice_set old.roles.items role is)) (sym layout_now)
              (each_set (λ r role. IsBoundTo acts state old.board.layout r units role) old.roles.items role is known
              (turn.pass.bound units (underway.bound role was turn.at))
              (λ r other apart found. underway.bound r other found)));
        }

    -- what the session was it is behind the turn
    pub turn_on : GoesOn acts state true may_tell cost_may_take plan old new
    turn_on = record { on = λ first units setting fits underway. underway_now first units setting fits underway }
