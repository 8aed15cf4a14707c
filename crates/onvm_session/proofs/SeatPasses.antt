-- Passes of a role in a phase: the role stays in step.
use Rattle.std.proofs.Common.{◌≡◌, ℕ, ◌<◌, ◌≤◌, Bool, true, false, not, inl, inr, List, [], length, refl, sym, ◌∙◌, ap, subst, arith, Option, Some, IsSome}
use Rattle.std.specs.Prelude.{max, nat_lt}
use Rattle.std.proofs.lemmas.Bool.{cases_Bool, false≢true, ltb-true, ltb-false}
use Rattle.onvm_base.specs.declared.plan.Plan.{Plan}
use Rattle.onvm_core.specs.declared.layout.Layout.{Layout}
use Rattle.onvm_core.proofs.RoleKinds.{kind_tick}
use Rattle.onvm_core.specs.Blocks.{RoleKind, kind_of}
use Rattle.onvm_core.specs.Blocks.RoleKind.{Ticks}
use Rattle.onvm_core.specs.Layouts.{tick_role}
use Rattle.onvm_core.specs.Logs.{Log, Setting}
use Rattle.onvm_board.specs.Tokens.{BoardView, TokenView}
use Rattle.onvm_host.specs.Deeds.{Amounts}
use Rattle.nf_api.specs.Acts.{Acts}
use Rattle.nf_api.specs.Tree.{Tree}
use Rattle.onvm_promises.specs.declared.pass.Pass.{Pass}
use Rattle.onvm_promises.specs.declared.pass.Pass.TheVariants.{Stopped}
use Rattle.onvm_promises.specs.Answers.{is_complete}
use Rattle.onvm_promises.specs.Kept.{moment_then}
use Rattle.onvm_session.proofs.Growing.{one_earlier}
use Rattle.onvm_session.proofs.KeptByTurns.{timed_pass}
use Rattle.onvm_session.proofs.ManagerRuns.{grows_same, grows_then}
use Rattle.onvm_session.proofs.Passing.{Passed, passed_of}
use Rattle.onvm_session.proofs.TickTurns.{kept_next, told_now}
use Rattle.onvm_session.specs.declared.role.Role.{Role}
use Rattle.onvm_session.specs.declared.role.Role.TheVariants.{Receive, Send, Handle, Tick}
use Rattle.onvm_session.specs.declared.seat.Seat.{Seat}
use Rattle.onvm_session.specs.Managers.{state_at}
use Rattle.onvm_session.specs.RoleStates.{FitsOne, Grows, HasStates, IsBoundTo, IsReady, IsRoleInOrder, IsUpTo, StartedAt, StaysFed, acts_by, fault_of, keeps_of, start_by}
use Rattle.onvm_session.specs.Seats.{HasPassed, IsInStep, IsSeatReady}
use Rattle.onvm_session.specs.Sessions.{IsRolePass, IsRoleSoFar}

-- Answers

-- a pass that wasn't cut short is complete
pub uncut : (complete cut : Bool) → cut ≡ not complete → cut ≡ false → complete ≡ true
uncut true cut is unmet = refl
uncut false cut is unmet = absurd (false≢true (sym unmet ∙ is))

-- the clock may tell the later one of two moments, if it may tell both
pub told_max : (may_tell : ℕ → Type 0) (a b : ℕ) → may_tell a → may_tell b → may_tell (max a b)
told_max may_tell a b one two =
    elim (cases_Bool (nat_lt a b)) [
      | inl met ↦
          let less : a < b = ltb-true a b met in subst may_tell (omega (arith, less)) two
      | inr unmet ↦
          let more : b ≤ a = ltb-false a b unmet in subst may_tell (omega (arith, more)) one
    ]

-- One pass

-- the layout of a run that a role may be of
fits_layout : {I N : Type 0} (layout : Layout) (plan : Plan) (number : ℕ) (role : Role I N) (setting : Setting)
    → FitsOne layout plan number role setting → setting.layout ≡ layout
fits_layout layout plan number (Receive rx) setting fits = fits.layout_is
fits_layout layout plan number (Send tx) setting fits = fits.0
fits_layout layout plan number (Handle core) setting fits = fits.0
fits_layout layout plan number (Tick tick) setting fits = fits.0

-- a role has the states that it tells itself
has_own_states : {I N : Type 0} (acts : N → Acts) (state : N → Tree) (layout : Layout) (number : ℕ) (role : Role I N)
    → HasStates acts state layout number role (state_at acts state (Some role))
has_own_states acts state layout number (Receive rx) = tt
has_own_states acts state layout number (Send tx) = tt
has_own_states acts state layout number (Handle core) = λ f known own. refl
has_own_states acts state layout number (Tick tick) = tt

module _ {I N : Type 0} (acts : N → Acts) (state : N → Tree) (may_tell : ℕ → Type 0) (cost_may_take : ℕ → ℕ → Type 0)
  where
    -- what a pass says, as far as a role that was in step needs it
    pub record IsPhasePass (site : BoardView) (plan : Plan) (number now : ℕ) (before after : Log) (answer : Pass)
        (old new : Role I N) : Type 0 where
      pub promise : (setting : Setting) (moment : ℕ → ℕ) (first : ℕ) (units : List N) (states : ℕ → Tree)
          → FitsOne site.layout plan number new setting
          → IsRoleInOrder setting number moment before old
          → StartedAt first old
          → IsBoundTo acts state site.layout number units old
          → HasStates acts state site.layout number new states
          → IsRolePass (acts_by acts state units) (start_by acts state units) states cost_may_take setting number
          (kind_of site.layout number) first now false moment before after (keeps_of old) (keeps_of new) answer
      pub in_order : (setting : Setting) (moment : ℕ → ℕ) → FitsOne site.layout plan number new setting
          → IsRoleInOrder setting number moment before old
          → IsRoleInOrder setting number (moment_then moment (length before) now) after new
      pub first : (first : ℕ) → StartedAt first old → StartedAt first new
      pub bound : (units : List N) → IsBoundTo acts state site.layout number units old
          → IsBoundTo acts state site.layout number units new

    module _ (site : BoardView) (plan : Plan) (number now : ℕ) (before after : Log) (answer : Pass) (old new : Role I N)
        (pass : IsPhasePass site plan number now before after answer old new) (complete : is_complete answer ≡ true)
        (first latest : ℕ) (units : List N) (setting : Setting) (moment : ℕ → ℕ) (rises : latest ≤ now)
        (answered : may_tell now) (fits : FitsOne site.layout plan number new setting)
        (step : IsInStep acts state may_tell cost_may_take first units setting number moment latest before old)
      where
        layout_is : setting.layout ≡ site.layout
        layout_is = fits_layout site.layout plan number new setting fits

        promised : (states : ℕ → Tree) → HasStates acts state setting.layout number new states
            → IsRolePass (acts_by acts state units) (start_by acts state units) states cost_may_take setting number
            (kind_of setting.layout number) first now false moment before after (keeps_of old) (keeps_of new) answer
        promised states has =
            subst (λ (l : Layout).
            IsRolePass (acts_by acts state units) (start_by acts state units) states cost_may_take setting number
            (kind_of l number) first now false moment before after (keeps_of old) (keeps_of new) answer) (sym layout_is)
            (pass.promise setting moment first units states fits step.in_order step.started
            (subst (λ (l : Layout). IsBoundTo acts state l number units old) layout_is step.bound)
            (subst (λ (l : Layout). HasStates acts state l number new states) layout_is has))

        was_so_far : IsRoleSoFar (acts_by acts state units) (start_by acts state units) (state_at acts state (Some old))
            cost_may_take setting number (kind_of setting.layout number) moment before (keeps_of old)
        was_so_far =
            step.so_far (state_at acts state (Some old)) (has_own_states acts state setting.layout number old)

        passed : (states : ℕ → Tree) → HasStates acts state setting.layout number new states
            → Passed (acts_by acts state units) (start_by acts state units) states cost_may_take setting number
            (kind_of setting.layout number) now moment before after (keeps_of new)
        passed states has =
            passed_of (acts_by acts state units) (start_by acts state units) (state_at acts state (Some old)) states
            cost_may_take setting number (kind_of setting.layout number) first now false moment before after
            (keeps_of old) (keeps_of new) answer was_so_far (promised states has) complete

        own_passed : Passed (acts_by acts state units) (start_by acts state units) (state_at acts state (Some new))
            cost_may_take setting number (kind_of setting.layout number) now moment before after (keeps_of new)
        own_passed = passed (state_at acts state (Some new)) (has_own_states acts state setting.layout number new)

        -- of the tick role
        module _ (own : number ≡ tick_role setting.layout) where
          kind_is : kind_of setting.layout number ≡ Ticks
          kind_is = ap (kind_of setting.layout) own ∙ kind_tick setting.layout

          tick_was : IsRoleSoFar (acts_by acts state units) (start_by acts state units)
              (state_at acts state (Some old)) cost_may_take setting number Ticks moment before (keeps_of old)
          tick_was =
              subst (λ (kind : RoleKind).
              IsRoleSoFar (acts_by acts state units) (start_by acts state units) (state_at acts state (Some old))
              cost_may_take setting number kind moment before (keeps_of old)) kind_is was_so_far

          tick_pass : IsRolePass (acts_by acts state units) (start_by acts state units)
              (state_at acts state (Some new)) cost_may_take setting number Ticks first now false moment before
              after (keeps_of old) (keeps_of new) answer
          tick_pass =
              subst (λ (kind : RoleKind).
              IsRolePass (acts_by acts state units) (start_by acts state units) (state_at acts state (Some new))
              cost_may_take setting number kind first now false moment before after (keeps_of old) (keeps_of new) answer)
              kind_is
              (promised (state_at acts state (Some new)) (has_own_states acts state setting.layout number new))

        pub in_step : IsInStep acts state may_tell cost_may_take first units setting number
            (moment_then moment (length before) now) now after new
        in_step = record {
          in_order = pass.in_order setting moment fits step.in_order;
          started = pass.first first step.started;
          bound =
              subst (λ (l : Layout). IsBoundTo acts state l number units new) (sym layout_is)
              (pass.bound units
              (subst (λ (l : Layout). IsBoundTo acts state l number units old) layout_is step.bound));
          so_far = λ states has. (passed states has).so_far;
          timed =
              subst (λ (log : Log). (n : ℕ) → n < length log → may_tell (moment_then moment (length before) now n))
              (sym own_passed.grown)
              (timed_pass may_tell moment now own_passed.added before step.timed answered);
          ticks = λ own.
              kept_next setting number first latest now false moment before after (keeps_of old) (keeps_of new) answer
              (tick_was own) (tick_pass own) complete (step.ticks own) rises refl;
          told = λ own.
              told_now setting number first latest now false moment before after (keeps_of old) (keeps_of new) answer
              (tick_was own) (tick_pass own) complete (step.ticks own) rises may_tell (step.told own) answered;
        }

-- Passes after passes

module _ {I N : Type 0} (acts : N → Acts) (state : N → Tree) (may_tell : ℕ → Type 0) (cost_may_take : ℕ → ℕ → Type 0)
    (name_of : I → List ℕ) (left_of : I → Option (List ℕ)) (takes_of : I → Amounts) (site : BoardView) (plan : Plan)
  where
    -- no pass leaves a seat as it is
    pub passed_same : (seat : Seat I N) → IsSeatReady acts state may_tell cost_may_take site plan seat
        → is_complete seat.answer ≡ true
        → HasPassed acts state may_tell cost_may_take name_of left_of takes_of site plan seat seat
    passed_same seat ready complete = record {
      number = refl;
      board = refl;
      ready = ready;
      later = omega arith;
      empty_handed = λ empty whole. empty;
      grows = grows_same seat.role;
      fed = λ began fed. fed;
      stopped = λ stopped. absurd (false≢true (subst (λ (a : Pass). is_complete a ≡ true) stopped complete));
      on = λ whole first units setting moment fits step. (moment, step);
    }

    -- one pass
    pub passed_once : (old : Seat I N) (role : Role I N) (token : TokenView) (answer : Pass) (now : ℕ)
        → IsSeatReady acts state may_tell cost_may_take site plan old
        → IsPhasePass acts state may_tell cost_may_take site plan old.token.role now old.token.log token.log answer
        old.role role
        → IsReady acts state cost_may_take site plan token role
        → (token.board ≡ old.token.board) × (token.role ≡ old.token.role)
        → (old.token.hand ≡ [] → is_complete answer ≡ true → token.hand ≡ [])
        → IsUpTo now role → Grows old.role role → StaysFed name_of left_of takes_of old.role role
        → (answer ≡ Stopped → IsSome (fault_of role)) → old.latest ≤ now → may_tell now
        → HasPassed acts state may_tell cost_may_take name_of left_of takes_of site plan old
        (record { number = old.number; role = role; token = token; latest = now; answer = answer })
    passed_once old role token answer now ready pass ready_now same empty upto grows fed stopped rises answered = record {
      number = refl;
      board = same.0;
      ready = record { own = same.1 ∙ ready.own; ready = ready_now; upto = upto; told = answered };
      later = rises;
      empty_handed = empty;
      grows = grows;
      fed = fed;
      stopped = stopped;
      on = λ whole first units setting moment fits step. (
        moment_then moment (length old.token.log) now,
        in_step acts state may_tell cost_may_take site plan old.number now old.token.log token.log answer old.role role
            (subst (λ (n : ℕ).
            IsPhasePass acts state may_tell cost_may_take site plan n now old.token.log token.log answer old.role role)
            ready.own pass) whole first old.latest units setting moment rises answered fits step,
      );
    }

    -- passes behind others that weren't cut short
    pub passed_then : (old between new : Seat I N)
        → HasPassed acts state may_tell cost_may_take name_of left_of takes_of site plan old between
        → is_complete between.answer ≡ true
        → HasPassed acts state may_tell cost_may_take name_of left_of takes_of site plan between new
        → HasPassed acts state may_tell cost_may_take name_of left_of takes_of site plan old new
    passed_then old between new one complete two = record {
      number = two.number ∙ one.number;
      board = two.board ∙ one.board;
      ready = two.ready;
      later = omega (arith, one.later, two.later);
      empty_handed = λ empty whole. two.empty_handed (one.empty_handed empty complete) whole;
      grows = grows_then old.role between.role new.role one.grows two.grows;
      fed = λ began fed. two.fed began (one.fed began fed);
      stopped = two.stopped;
      on = λ whole first units setting moment fits step.
          let fits_between : FitsOne site.layout plan between.number between.role setting =
          subst (λ (n : ℕ). FitsOne site.layout plan n between.role setting) two.number
          (one_earlier site.layout plan new.number between.role new.role setting two.grows fits) in
          let behind = one.on complete first units setting moment fits_between step in
          two.on whole first units setting behind.0 fits behind.1;
    }
