-- The shares of a core's functions, from its loads.
use Rattle.std.proofs.Common.{◌≡◌, ℕ, zero, suc, ◌+◌, ◌<◌, ◌≤◌, inl, inr, List, [], ◌∷◌, length, get_or, refl, sym, ◌∙◌, ap, subst, arith, All, Some, Option}
use Rattle.std.specs.Prelude.{map, option_map, slice_get}
use Rattle.std.proofs.lemmas.Bool.Decides.{eqb_tells}
use Rattle.std.proofs.lemmas.List.{length-map}
use Rattle.std.proofs.lemmas.List.Elements.{All-nil, All-cons}
use Rattle.std.proofs.lemmas.Option.{get_or_from_slice_get, same_Some, slice_get-map, slice_get_within}
use Rattle.onvm_base.specs.declared.function.FunctionPlan.{FunctionPlan}
use Rattle.onvm_base.specs.declared.ids.FnId.{FnId}
use Rattle.onvm_base.specs.declared.plan.Plan.{Plan}
use Rattle.load_estimate.specs.declared.sample.Sample.{Sample}
use Rattle.load_estimate.specs.declared.tick.Share.{Share}
use Rattle.load_estimate.specs.Windows.{WindowState}
use Rattle.cpu_shares.specs.declared.load.Load.{Load}
use Rattle.cpu_shares.specs.Shares.{AreLoads, ArePriorities, IsLoad, load_of, share_of, shares_of, total_of}
use Rattle.cpu_shares.proofs.Listed.{no_load, slice_get-shares_in}
use Rattle.nf_registry.specs.Places.{residents, residents_from}
use Rattle.onvm_promises.specs.Lines.{core_loads, function_load, function_share}
use Rattle.tick_pass.specs.Telling.{AreCurrent, AreLoaded, load_at, priority_at, priority_in}
use Rattle.tick_pass.proofs.Residing.{number}

-- what holds of each function holds of those of a core
pub of_residents : (P : FnId → Type 0) (n core : ℕ) (functions : List FunctionPlan)
    → ((f : ℕ) → n ≤ f → f < n + length functions → P (number f)) → All P (residents_from n core functions)
of_residents P n core [] each = All-nil P
of_residents P n core (function ∷ functions) each =
    let rest : All P (residents_from (n + 1) core functions) =
    of_residents P (n + 1) core functions (λ f from upto. each f (omega arith) (omega arith)) in
    elim (eqb_tells function.core core) [
      | inl met ↦
          rw met.0 (All-cons P (number n) (residents_from (n + 1) core functions) (each n (omega arith) (omega arith)) rest)
      | inr unmet ↦ rw unmet.0 rest
    ]

pub few_residents : (n core : ℕ) (functions : List FunctionPlan)
    → length (residents_from n core functions) ≤ length functions
few_residents n core [] = omega arith
few_residents n core (function ∷ functions) =
    let rest = few_residents (n + 1) core functions in
    elim (eqb_tells function.core core) [
      | inl met ↦ rw met.0 (omega (arith, rest))
      | inr unmet ↦ rw unmet.0 (omega (arith, rest))
    ]

all_map : {A B : Type 0} (P : B → Type 0) (value : A → B) (xs : List A) → All (λ x. P (value x)) xs
    → All P (map value xs)
all_map P value [] all = All-nil P
all_map P value (x ∷ xs) all =
    All-cons P (value x) (map value xs) (all 0 x (omega arith))
    (all_map P value xs (λ k d lt. all (suc k) d (omega arith)))

same_map : {A B : Type 0} (one other : A → B) (xs : List A) → All (λ x. one x ≡ other x) xs
    → map one xs ≡ map other xs
same_map one other [] all = refl
same_map one other (x ∷ xs) all =
    ap (λ y. y ∷ map one xs) (all 0 x (omega arith))
    ∙ ap (λ ys. other x ∷ ys) (same_map one other xs (λ k d lt. all (suc k) d (omega arith)))

found_at : {A : Type 0} (xs : List A) (n : ℕ) → n < length xs → (x : A) × (slice_get xs n ≡ Some x)
found_at [] n within = absurd (omega arith)
found_at (x ∷ xs) zero within = (x, refl)
found_at (x ∷ xs) (suc n) within = found_at xs n (omega arith)

priority_ranged : (plan : Plan) (f : ℕ) → f < length plan.functions
    → (1 ≤ priority_at plan.functions (number f)) × (priority_at plan.functions (number f) ≤ 1024)
priority_ranged plan f known =
    let found = found_at plan.functions f known in
    let function : FunctionPlan = found.0 in
    let there : get_or plan.functions f function ≡ function =
    get_or_from_slice_get plan.functions f function function found.1 in
    let fits = plan.kept.functions_are f function known in
    let is : priority_at plan.functions (number f) ≡ function.priority = ap priority_in found.1 in
    let ranged : (1 ≤ function.priority) × (function.priority ≤ 1024) =
    subst (λ (g : FunctionPlan). (1 ≤ g.priority) × (g.priority ≤ 1024)) there fits.priority in
    (omega (arith, is, ranged.0), omega (arith, is, ranged.1))

module _ (plan : Plan) (windows : List WindowState) (core : ℕ) (loaded : AreLoaded plan windows) where
  pub loads_are : AreLoads (map (load_at windows) (residents core plan.functions))
  loads_are = record {
    few =
        let few = few_residents 0 core plan.functions in
        let most : length plan.functions ≤ 32 = plan.kept.function_count.1 in
        omega (arith, length-map (residents core plan.functions) (load_at windows), few, most);
    each =
        all_map IsLoad (load_at windows) (residents core plan.functions)
        (of_residents (λ f. IsLoad (load_at windows f)) 0 core plan.functions
        (λ f from upto. loaded.each (number f) (omega arith)));
  }

  pub priorities_are : ArePriorities (map (load_at windows) (residents core plan.functions))
      (map (priority_at plan.functions) (residents core plan.functions))
  priorities_are = record {
    as_many =
        length-map (residents core plan.functions) (priority_at plan.functions)
        ∙ sym (length-map (residents core plan.functions) (load_at windows));
    each =
        all_map (λ (priority : ℕ). (1 ≤ priority) × (priority ≤ 1024)) (priority_at plan.functions)
        (residents core plan.functions)
        (of_residents (λ f. (1 ≤ priority_at plan.functions f) × (priority_at plan.functions f ≤ 1024)) 0 core
        plan.functions
        (λ f from upto. priority_ranged plan f (omega arith)));
  }

-- an entry of the list of shares is the function's share
pub share_is : (plan : Plan) (samples : List Sample) (now : ℕ) (windows : List WindowState) (function : FunctionPlan)
    (f at : ℕ) (loads : List Load) (priorities : List ℕ) (share : Option Share)
    → AreCurrent plan samples now windows → slice_get plan.functions f ≡ Some function
    → loads ≡ map (load_at windows) (residents function.core plan.functions)
    → priorities ≡ map (priority_at plan.functions) (residents function.core plan.functions)
    → slice_get (residents function.core plan.functions) at ≡ Some (number f)
    → slice_get (shares_of loads priorities) at ≡ Some share
    → share ≡ function_share plan samples now f function
share_is plan samples now windows function f at loads priorities share current known loads_is priorities_is place is =
    let core : ℕ = function.core in
    let own : List FnId = residents core plan.functions in
    let load_there : slice_get loads at ≡ Some (load_at windows (number f)) =
    ap (λ ls. slice_get ls at) loads_is ∙ slice_get-map (load_at windows) own at
    ∙ ap (option_map (load_at windows)) place in
    let priority_there : slice_get priorities at ≡ Some (priority_at plan.functions (number f)) =
    ap (λ ps. slice_get ps at) priorities_is ∙ slice_get-map (priority_at plan.functions) own at
    ∙ ap (option_map (priority_at plan.functions)) place in
    let as_many : length priorities ≡ length loads =
    ap length priorities_is ∙ length-map own (priority_at plan.functions) ∙ sym (length-map own (load_at windows))
    ∙ sym (ap length loads_is) in
    let entry : share ≡ share_of (get_or priorities at 0) (load_of (get_or loads at no_load)) (total_of loads) =
    same_Some share (share_of (get_or priorities at 0) (load_of (get_or loads at no_load)) (total_of loads))
    (sym is
    ∙ slice_get-shares_in (total_of loads) loads priorities at
    (slice_get_within loads at (load_at windows (number f)) load_there) as_many) in
    let priority : get_or priorities at 0 ≡ function.priority =
    get_or_from_slice_get priorities at (priority_at plan.functions (number f)) 0 priority_there
    ∙ ap priority_in known in
    let load : get_or loads at no_load ≡ function_load plan samples now f =
    get_or_from_slice_get loads at (load_at windows (number f)) no_load load_there
    ∙ current (number f) (slice_get_within plan.functions f function known) in
    let all : loads ≡ core_loads plan samples now core =
    loads_is
    ∙ same_map (load_at windows) (λ g. function_load plan samples now g.0) own
    (of_residents (λ g. load_at windows g ≡ function_load plan samples now g.0) 0 core plan.functions
    (λ g from upto. current (number g) (omega arith))) in
    entry
    ∙ ap (λ p. share_of p (load_of (get_or loads at no_load)) (total_of loads)) priority
    ∙ ap (λ l. share_of function.priority (load_of l) (total_of loads)) load
    ∙ ap (λ ls. share_of function.priority (load_of (function_load plan samples now f)) (total_of ls)) all
