-- The functions of a core, one after the other.
use Rattle.std.proofs.Common.{◌≡◌, ℕ, suc, ◌+◌, ◌<◌, ◌≤◌, List, [], ◌∷◌, ◌++◌, length, drop, get_or, refl, sym, ◌∙◌, ap, arith, append_assoc, append-nil, add-one}
use Rattle.std.specs.Prelude.{◌==◌, if◌then◌else◌, map, slice_get, Some, ◌≢◌}
use Rattle.std.proofs.lemmas.Bool.{ne_eqb, eq-eqb}
use Rattle.std.proofs.Math.Seq.{drop-cons}
use Rattle.onvm_base.specs.declared.ids.FnId.{FnId}
use Rattle.onvm_base.specs.declared.function.FunctionPlan.{FunctionPlan}
use Rattle.onvm_core.proofs.Lists.{if_met, if_unmet, get_front}
use Rattle.nf_registry.specs.Places.{residents, residents_from}
use Rattle.nf_registry.proofs.Appending.{slice_get-append_seam}

-- the function of this number
abbrev pub number : ℕ → FnId
number f = record { 0 = f }

-- the functions of a core from a place on, by the function at that place
step_of : (at core : ℕ) (functions : List FunctionPlan) (function : FunctionPlan) → at < length functions
    → function ≡ get_or functions at function
    → residents_from at core (drop at functions)
    ≡ (if function.core == core then number at ∷ residents_from (at + 1) core (drop (at + 1) functions)
    else residents_from (at + 1) core (drop (at + 1) functions))
step_of at core functions function within is =
    ap (residents_from at core) (drop-cons functions at function within)
    ∙ ap (λ (f : FunctionPlan). residents_from at core (f ∷ drop (suc at) functions)) (sym is)
    ∙ ap (λ n. if function.core == core then number at ∷ residents_from (at + 1) core (drop n functions)
    else residents_from (at + 1) core (drop n functions)) (sym (add-one at))

pub one_more : (at core : ℕ) (functions : List FunctionPlan) (function : FunctionPlan) → at < length functions
    → function ≡ get_or functions at function → function.core ≡ core
    → residents_from at core (drop at functions) ≡ number at ∷ residents_from (at + 1) core (drop (at + 1) functions)
one_more at core functions function within is own =
    step_of at core functions function within is
    ∙ if_met (function.core == core) (number at ∷ residents_from (at + 1) core (drop (at + 1) functions))
    (residents_from (at + 1) core (drop (at + 1) functions)) (eq-eqb function.core core own)

pub no_more : (at core : ℕ) (functions : List FunctionPlan) (function : FunctionPlan) → at < length functions
    → function ≡ get_or functions at function → function.core ≢ core
    → residents_from at core (drop at functions) ≡ residents_from (at + 1) core (drop (at + 1) functions)
no_more at core functions function within is other =
    step_of at core functions function within is
    ∙ if_unmet (function.core == core) (number at ∷ residents_from (at + 1) core (drop (at + 1) functions))
    (residents_from (at + 1) core (drop (at + 1) functions)) (ne_eqb function.core core other)

-- What was gathered of them

pub gathered : {A : Type 0} (value : FnId → A) (got all : List A) (at core : ℕ) (functions : List FunctionPlan)
    (function : FunctionPlan) (new : A) → at < length functions → function ≡ get_or functions at function
    → function.core ≡ core → new ≡ value (number at)
    → got ++ map value (residents_from at core (drop at functions)) ≡ all
    → (got ++ new ∷ []) ++ map value (residents_from (at + 1) core (drop (at + 1) functions)) ≡ all
gathered value got all at core functions function new within is own same so_far =
    append_assoc got (new ∷ []) (map value (residents_from (at + 1) core (drop (at + 1) functions)))
    ∙ ap (λ x. got ++ (x ∷ map value (residents_from (at + 1) core (drop (at + 1) functions)))) same
    ∙ ap (λ rest. got ++ map value rest) (sym (one_more at core functions function within is own)) ∙ so_far

pub passed_over : {A : Type 0} (value : FnId → A) (got all : List A) (at core : ℕ) (functions : List FunctionPlan)
    (function : FunctionPlan) → at < length functions → function ≡ get_or functions at function
    → function.core ≢ core → got ++ map value (residents_from at core (drop at functions)) ≡ all
    → got ++ map value (residents_from (at + 1) core (drop (at + 1) functions)) ≡ all
passed_over value got all at core functions function within is other so_far =
    ap (λ rest. got ++ map value rest) (sym (no_more at core functions function within is other)) ∙ so_far

pub gathered_all : {A : Type 0} (value : FnId → A) (got all : List A) (at core : ℕ) (functions : List FunctionPlan)
    → drop at functions ≡ [] → got ++ map value (residents_from at core (drop at functions)) ≡ all → got ≡ all
gathered_all value got all at core functions none so_far =
    sym (append-nil got) ∙ ap (λ rest. got ++ map value (residents_from at core rest)) (sym none) ∙ so_far

-- How many of them stand before a place

pub record IsPlaced (core place at : ℕ) (functions : List FunctionPlan) : Type 0 where
  pub front : List FnId
  pub parts : front ++ residents_from at core (drop at functions) ≡ residents core functions
  pub long : length front ≡ place
  pub few : place ≤ at

pub placed_first : (core : ℕ) (functions : List FunctionPlan) → IsPlaced core 0 0 functions
placed_first core functions = record { front = []; parts = refl; long = refl; few = omega arith }

pub placed_more : (core place at : ℕ) (functions : List FunctionPlan) (function : FunctionPlan) → at < length functions
    → function ≡ get_or functions at function → function.core ≡ core → IsPlaced core place at functions
    → IsPlaced core (place + 1) (at + 1) functions
placed_more core place at functions function within is own placed =
    record {
      front = placed.front ++ number at ∷ [];
      parts =
          append_assoc placed.front (number at ∷ []) (residents_from (at + 1) core (drop (at + 1) functions))
          ∙ ap (λ rest. placed.front ++ rest) (sym (one_more at core functions function within is own)) ∙ placed.parts;
      long = length_more placed.front (number at) ∙ ap (λ n. n + 1) placed.long;
      few = omega (arith, placed.few);
    }
  where
    length_more : (xs : List FnId) (x : FnId) → length (xs ++ x ∷ []) ≡ length xs + 1
    length_more [] x = refl
    length_more (y ∷ ys) x = let more = length_more ys x in omega (arith, more)

pub placed_same : (core place at : ℕ) (functions : List FunctionPlan) (function : FunctionPlan) → at < length functions
    → function ≡ get_or functions at function → function.core ≢ core → IsPlaced core place at functions
    → IsPlaced core place (at + 1) functions
placed_same core place at functions function within is other placed =
    record {
      front = placed.front;
      parts = ap (λ rest. placed.front ++ rest) (sym (no_more at core functions function within is other)) ∙ placed.parts;
      long = placed.long;
      few = omega (arith, placed.few);
    }

pub placed_at : (core place at : ℕ) (functions : List FunctionPlan) (function : FunctionPlan) → at < length functions
    → function ≡ get_or functions at function → function.core ≡ core → IsPlaced core place at functions
    → slice_get (residents core functions) place ≡ Some (number at)
placed_at core place at functions function within is own placed =
    let whole : (placed.front ++ number at ∷ []) ++ residents_from (at + 1) core (drop (at + 1) functions)
    ≡ residents core functions =
    append_assoc placed.front (number at ∷ []) (residents_from (at + 1) core (drop (at + 1) functions))
    ∙ ap (λ rest. placed.front ++ rest) (sym (one_more at core functions function within is own)) ∙ placed.parts in
    ap (λ xs. slice_get xs place) (sym whole)
    ∙ get_front (placed.front ++ number at ∷ []) (residents_from (at + 1) core (drop (at + 1) functions)) place (number at)
    (ap (slice_get (placed.front ++ number at ∷ [])) (sym placed.long) ∙ slice_get-append_seam placed.front (number at))
