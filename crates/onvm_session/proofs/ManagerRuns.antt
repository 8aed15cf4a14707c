-- What turns do to a manager's roles, and turns after turns.
use Rattle.std.proofs.Common.{◌≡◌, ◌≢◌, ℕ, zero, suc, ◌<◌, Bool, inl, inr, List, [], ◌∷◌, ◌++◌, length, refl, sym, ◌∙◌, ap, subst, arith, append-nil, append_assoc, Some, Option}
use Rattle.std.specs.Prelude.{◌==◌, slice_get, slice_set}
use Rattle.std.proofs.lemmas.Bool.{cases_Bool, eqb-false, eqb-true}
use Rattle.std.proofs.lemmas.List.{length-set}
use Rattle.onvm_base.specs.declared.frame.Frame.{Frame}
use Rattle.onvm_base.specs.declared.plan.Plan.{Plan}
use Rattle.onvm_host.specs.Deeds.{Amounts}
use Rattle.nf_api.specs.Acts.{Acts}
use Rattle.nf_api.specs.Tree.{Tree}
use Rattle.onvm_session.proofs.Growing.{all_earlier, got_below, got_some, some_inj}
use Rattle.onvm_session.specs.declared.manager.Manager.{Manager}
use Rattle.onvm_session.specs.declared.role.Role.{Role}
use Rattle.onvm_session.specs.Managers.{AllGrow, GoesOn, OfEach}
use Rattle.onvm_session.specs.RoleStates.{Grows, IsFed, StaysFed, pulled_in}

-- One role in place of another

pub got_same : {X : Type 0} (xs : List X) (at : ℕ) (x : X) → at < length xs → slice_get (slice_set xs at x) at ≡ Some x
got_same [] at x less = absurd (omega (arith, less))
got_same (y ∷ ys) zero x less = refl
got_same (y ∷ ys) (suc at) x less = got_same ys at x (omega (arith, less))

pub got_other : {X : Type 0} (xs : List X) (at r : ℕ) (x : X) → r ≢ at
    → slice_get (slice_set xs at x) r ≡ slice_get xs r
got_other [] at r x apart = refl
got_other (y ∷ ys) zero zero x apart = absurd (apart refl)
got_other (y ∷ ys) zero (suc r) x apart = refl
got_other (y ∷ ys) (suc at) zero x apart = refl
got_other (y ∷ ys) (suc at) (suc r) x apart = got_other ys at r x (λ e. apart (ap suc e))

-- what holds of each, where it holds of the new one and of the others
pub each_set : {I N : Type 0} (holds : ℕ → Role I N → Type 0) (roles : List (Role I N)) (at : ℕ) (is : Role I N)
    → at < length roles → holds at is
    → ((r : ℕ) (role : Role I N) → r ≢ at → slice_get roles r ≡ Some role → holds r role)
    → OfEach holds (slice_set roles at is)
each_set holds roles at is less own others r role found =
    elim (cases_Bool (r == at)) [
      | inl met ↦
          let same : r ≡ at = eqb-true r at met in
          let found_at : slice_get (slice_set roles at is) at ≡ Some role =
          subst (λ (k : ℕ). slice_get (slice_set roles at is) k ≡ Some role) same found in
          let role_is : is ≡ role = some_inj is role (sym (got_same roles at is less) ∙ found_at) in
          subst (λ (k : ℕ). holds k role) (sym same) (subst (holds at) role_is own)
      | inr unmet ↦
          let apart : r ≢ at = eqb-false r at unmet in
          others r role apart (sym (got_other roles at r is apart) ∙ found)
    ]

-- Growth

pub grows_same : {I N : Type 0} (role : Role I N) → Grows role role
grows_same role = record { kind = refl; more = ([], sym (append-nil (pulled_in role))); ended = λ e. (refl, e) }

pub grows_then : {I N : Type 0} (old role new : Role I N) → Grows old role → Grows role new → Grows old new
grows_then old role new one two = record {
  kind = two.kind ∙ one.kind;
  more = (
    one.more.0 ++ two.more.0,
    two.more.1 ∙ ap (λ (frames : List Frame). frames ++ two.more.0) one.more.1
        ∙ append_assoc (pulled_in old) one.more.0 two.more.0,
  );
  ended = λ e.
      let first = one.ended e in
      let second = two.ended first.1 in
      (second.0 ∙ first.0, second.1);
}

module _ {I N : Type 0} (name_of : I → List ℕ) (left_of : I → Option (List ℕ)) (takes_of : I → Amounts) where
  pub grow_same : (manager : Manager I N) → AllGrow name_of left_of takes_of manager manager
  grow_same manager = record {
    many = refl;
    board = refl;
    feeds = refl;
    grow = λ r role later found found_later.
        subst (Grows role) (some_inj role later (sym found ∙ found_later)) (grows_same role);
    fed = λ feeds are. are;
  }

  pub grow_then : (old manager new : Manager I N) → AllGrow name_of left_of takes_of old manager
      → AllGrow name_of left_of takes_of manager new → AllGrow name_of left_of takes_of old new
  grow_then old manager new one two = record {
    many = two.many ∙ one.many;
    board = two.board ∙ one.board;
    feeds = two.feeds ∙ one.feeds;
    grow = λ r role later found found_later.
        let below = got_below old.roles.items r role found in
        let between = got_some manager.roles.items r (omega (arith, below, one.many)) in
        grows_then role between.0 later (one.grow r role between.0 found between.1)
        (two.grow r between.0 later between.1 found_later);
    fed = λ feeds are. two.fed feeds (one.fed feeds are);
  }

  -- one role grew, and the others stayed
  pub grow_set : (old new : Manager I N) (at : ℕ) (was is : Role I N) → slice_get old.roles.items at ≡ Some was
      → new.roles.items ≡ slice_set old.roles.items at is → new.board ≡ old.board → new.feeds ≡ old.feeds
      → Grows was is → StaysFed name_of left_of takes_of was is → AllGrow name_of left_of takes_of old new
  grow_set old new at was is found roles board feeds grows fed =
      let below = got_below old.roles.items at was found in record {
        many = ap length roles ∙ length-set old.roles.items at is;
        board = board;
        feeds = feeds;
        grow = λ r role later found_role found_later.
            subst (λ (items : List (Role I N)). (role later : Role I N) → slice_get old.roles.items r ≡ Some role
            → slice_get items r ≡ Some later → Grows role later) (sym roles)
            (λ role later found_role found_later.
            each_set (λ k other. (first : Role I N) → slice_get old.roles.items k ≡ Some first → Grows first other)
            old.roles.items at is below
            (λ first found_first. subst (λ (one : Role I N). Grows one is)
            (some_inj was first (sym found ∙ found_first)) grows)
            (λ k other apart found_other first found_first. subst (Grows first)
            (some_inj first other (sym found_first ∙ found_other)) (grows_same first))
            r later found_later role found_role)
            role later found_role found_later;
        fed = λ given are.
            subst (OfEach (λ r role. IsFed name_of left_of takes_of (slice_get given r) role)) (sym roles)
            (each_set (λ r role. IsFed name_of left_of takes_of (slice_get given r) role) old.roles.items at is below
            (fed (slice_get given at) (are at was found)) (λ r role apart found_role. are r role found_role));
      }

-- Turns after turns

module _ {I N : Type 0} (acts : N → Acts) (state : N → Tree) (serial : Bool) (may_tell : ℕ → Type 0)
    (cost_may_take : ℕ → ℕ → Type 0) (plan : Plan) where
  pub on_same : (manager : Manager I N) → GoesOn acts state serial may_tell cost_may_take plan manager manager
  on_same manager = record { on = λ first units setting fits underway. underway }

  pub on_then : (name_of : I → List ℕ) (left_of : I → Option (List ℕ)) (takes_of : I → Amounts)
      (old manager new : Manager I N) → GoesOn acts state serial may_tell cost_may_take plan old manager
      → GoesOn acts state serial may_tell cost_may_take plan manager new
      → AllGrow name_of left_of takes_of manager new
      → GoesOn acts state serial may_tell cost_may_take plan old new
  on_then name_of left_of takes_of old manager new one two grow = record {
    on = λ first units setting fits underway.
        two.on first units setting fits
        (one.on first units setting (all_earlier name_of left_of takes_of plan setting manager new grow fits) underway);
  }
