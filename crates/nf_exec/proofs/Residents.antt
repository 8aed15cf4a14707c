-- The functions of a core, by their numbers in the plan.
use Rattle.std.proofs.Common.{◌≡◌, ℕ, zero, suc, ◌+◌, ◌<◌, ◌≤◌, true, false, inl, inr, List, [], ◌∷◌, length, Some, refl, sym, ap, ◌∙◌, subst, arith}
use Rattle.std.specs.Prelude.{◌≢◌, ◌⊎◌, ◌==◌, slice_get, slice_index_or}
use Rattle.std.proofs.lemmas.Bool.{eq-eqb, ne_eqb}
use Rattle.std.proofs.lemmas.Bool.Decides.{eqb_tells}
use Rattle.std.proofs.lemmas.Option.{none-some, same_Some}
use Rattle.onvm_base.specs.declared.function.FunctionPlan.{FunctionPlan}
use Rattle.onvm_base.specs.declared.ids.FnId.{FnId}
use Rattle.onvm_core.proofs.Lists.{if_met, if_unmet}
use Rattle.nf_registry.specs.Places.{residents_from}

abbrev pub number : ℕ → FnId
number n = record { 0 = n }

own_step : (n core : ℕ) (f : FunctionPlan) (fs : List FunctionPlan) → f.core ≡ core
    → residents_from n core (f ∷ fs) ≡ number n ∷ residents_from (n + 1) core fs
own_step n core f fs e =
    if_met (f.core == core) (number n ∷ residents_from (n + 1) core fs) (residents_from (n + 1) core fs)
    (eq-eqb f.core core e)

other_step : (n core : ℕ) (f : FunctionPlan) (fs : List FunctionPlan) → f.core ≢ core
    → residents_from n core (f ∷ fs) ≡ residents_from (n + 1) core fs
other_step n core f fs e =
    if_unmet (f.core == core) (number n ∷ residents_from (n + 1) core fs) (residents_from (n + 1) core fs)
    (ne_eqb f.core core e)

-- a function of the core, by its number counted from n
pub record IsResident (n core : ℕ) (fs : List FunctionPlan) (d : FnId) : Type 0 where
  pub k : ℕ
  pub function : FunctionPlan
  pub found : slice_get fs k ≡ Some function
  pub number_is : d.0 ≡ n + k
  pub own : function.core ≡ core

resident_next : (n core : ℕ) (f : FunctionPlan) (fs : List FunctionPlan) (d : FnId) → IsResident (n + 1) core fs d
    → IsResident n core (f ∷ fs) d
resident_next n core f fs d is = record {
  k = suc is.k;
  function = is.function;
  found = is.found;
  number_is = omega (arith, is.number_is);
  own = is.own;
}

pub resident_at : (n core : ℕ) (fs : List FunctionPlan) (i : ℕ) (d : FnId) → i < length (residents_from n core fs)
    → d ≡ slice_index_or (residents_from n core fs) i d → IsResident n core fs d
resident_at n core [] i d less d_is = absurd (omega (arith, less))
resident_at n core (f ∷ fs) i d less d_is =
    by_core (λ j below at. resident_at (n + 1) core fs j d below at) (eqb_tells f.core core)
  where
    here : ((j : ℕ) → j < length (residents_from (n + 1) core fs) → d ≡ slice_index_or (residents_from (n + 1) core fs) j d
        → IsResident (n + 1) core fs d)
        → (i : ℕ) → i < length (number n ∷ residents_from (n + 1) core fs)
        → d ≡ slice_index_or (number n ∷ residents_from (n + 1) core fs) i d → f.core ≡ core
        → IsResident n core (f ∷ fs) d
    here rest zero less d_is e = record {
      k = 0;
      function = f;
      found = refl;
      number_is = (let same = ap (λ (h : FnId). h.0) d_is in omega (arith, same));
      own = e;
    }
    here rest (suc j) less d_is e = resident_next n core f fs d (rest j (omega (arith, less)) d_is)

    by_core : ((j : ℕ) → j < length (residents_from (n + 1) core fs) → d ≡ slice_index_or (residents_from (n + 1) core fs) j d
        → IsResident (n + 1) core fs d)
        → (((f.core == core) ≡ true) × (f.core ≡ core)) ⊎ (((f.core == core) ≡ false) × (f.core ≢ core))
        → IsResident n core (f ∷ fs) d
    by_core rest (inl met) =
        let e = own_step n core f fs met.1 in
        here rest i (subst (λ (xs : List FnId). i < length xs) e less)
        (subst (λ (xs : List FnId). d ≡ slice_index_or xs i d) e d_is) met.1
    by_core rest (inr unmet) =
        let e = other_step n core f fs unmet.1 in
        resident_next n core f fs d
        (rest i (subst (λ (xs : List FnId). i < length xs) e less)
        (subst (λ (xs : List FnId). d ≡ slice_index_or xs i d) e d_is))

pub residents_rise : (n core : ℕ) (fs : List FunctionPlan) (i j : ℕ) (d e : FnId) → i < j
    → j < length (residents_from n core fs) → d ≡ slice_index_or (residents_from n core fs) i d
    → e ≡ slice_index_or (residents_from n core fs) j e → d.0 < e.0
residents_rise n core [] i j d e order less d_is e_is = absurd (omega (arith, less))
residents_rise n core (f ∷ fs) i j d e order less d_is e_is =
    by_core (λ k l under below at there. residents_rise (n + 1) core fs k l d e under below at there)
    (eqb_tells f.core core)
  where
    here : ((i j : ℕ) → i < j → j < length (residents_from (n + 1) core fs)
        → d ≡ slice_index_or (residents_from (n + 1) core fs) i d
        → e ≡ slice_index_or (residents_from (n + 1) core fs) j e → d.0 < e.0)
        → (i j : ℕ) → i < j → j < length (number n ∷ residents_from (n + 1) core fs)
        → d ≡ slice_index_or (number n ∷ residents_from (n + 1) core fs) i d
        → e ≡ slice_index_or (number n ∷ residents_from (n + 1) core fs) j e → d.0 < e.0
    here rest i zero order less d_is e_is = absurd (omega (arith, order))
    here rest zero (suc j) order less d_is e_is =
        let is = resident_at (n + 1) core fs j e (omega (arith, less)) e_is in
        let same = ap (λ (h : FnId). h.0) d_is in
        omega (arith, is.number_is, same)
    here rest (suc i) (suc j) order less d_is e_is =
        rest i j (omega (arith, order)) (omega (arith, less)) d_is e_is

    by_core : ((i j : ℕ) → i < j → j < length (residents_from (n + 1) core fs)
        → d ≡ slice_index_or (residents_from (n + 1) core fs) i d
        → e ≡ slice_index_or (residents_from (n + 1) core fs) j e → d.0 < e.0)
        → (((f.core == core) ≡ true) × (f.core ≡ core)) ⊎ (((f.core == core) ≡ false) × (f.core ≢ core))
        → d.0 < e.0
    by_core rest (inl met) =
        let same = own_step n core f fs met.1 in
        here rest i j order (subst (λ (xs : List FnId). j < length xs) same less)
        (subst (λ (xs : List FnId). d ≡ slice_index_or xs i d) same d_is)
        (subst (λ (xs : List FnId). e ≡ slice_index_or xs j e) same e_is)
    by_core rest (inr unmet) =
        let same = other_step n core f fs unmet.1 in
        rest i j order (subst (λ (xs : List FnId). j < length xs) same less)
        (subst (λ (xs : List FnId). d ≡ slice_index_or xs i d) same d_is)
        (subst (λ (xs : List FnId). e ≡ slice_index_or xs j e) same e_is)

pub resident_there : (n core : ℕ) (fs : List FunctionPlan) (k : ℕ) (function : FunctionPlan)
    → slice_get fs k ≡ Some function → function.core ≡ core
    → (i : ℕ) × (i < length (residents_from n core fs)) × (number (n + k) ≡ slice_index_or (residents_from n core fs) i (number (n + k)))
resident_there n core [] k function found own = absurd (none-some function found)
resident_there n core (f ∷ fs) k function found own =
    by_core (λ j at. resident_there (n + 1) core fs j function at own) (eqb_tells f.core core)
  where
    rest_of : ((j : ℕ) → slice_get fs j ≡ Some function → (i : ℕ) × (i < length (residents_from (n + 1) core fs))
        × (number (n + 1 + j) ≡ slice_index_or (residents_from (n + 1) core fs) i (number (n + 1 + j))))
        → (k : ℕ) → slice_get (f ∷ fs) k ≡ Some function → 0 < k
        → (i : ℕ) × (i < length (residents_from (n + 1) core fs))
        × (number (n + k) ≡ slice_index_or (residents_from (n + 1) core fs) i (number (n + k)))
    rest_of rest zero found some = absurd (omega (arith, some))
    rest_of rest (suc j) found some =
        let same : n + 1 + j ≡ n + suc j = omega arith in
        subst (λ m. (i : ℕ) × (i < length (residents_from (n + 1) core fs))
        × (number m ≡ slice_index_or (residents_from (n + 1) core fs) i (number m))) same
        (rest j found)

    here : ((j : ℕ) → slice_get fs j ≡ Some function → (i : ℕ) × (i < length (residents_from (n + 1) core fs))
        × (number (n + 1 + j) ≡ slice_index_or (residents_from (n + 1) core fs) i (number (n + 1 + j))))
        → (k : ℕ) → slice_get (f ∷ fs) k ≡ Some function
        → (i : ℕ) × (i < length (number n ∷ residents_from (n + 1) core fs))
        × (number (n + k) ≡ slice_index_or (number n ∷ residents_from (n + 1) core fs) i (number (n + k)))
    here rest zero found = (let same : n + 0 ≡ n = omega arith in (0, omega arith, ap number same))
    here rest (suc j) found =
        let more = rest_of rest (suc j) found (omega arith) in
        let within = more.1 in
        (suc more.0, omega (arith, within), more.2)

    first_own : (k : ℕ) → slice_get (f ∷ fs) k ≡ Some function → f.core ≢ core → 0 < k
    first_own zero found other = absurd (other (ap (λ (h : FunctionPlan). h.core) (same_Some f function found) ∙ own))
    first_own (suc j) found other = omega arith

    by_core : ((j : ℕ) → slice_get fs j ≡ Some function → (i : ℕ) × (i < length (residents_from (n + 1) core fs))
        × (number (n + 1 + j) ≡ slice_index_or (residents_from (n + 1) core fs) i (number (n + 1 + j))))
        → (((f.core == core) ≡ true) × (f.core ≡ core)) ⊎ (((f.core == core) ≡ false) × (f.core ≢ core))
        → (i : ℕ) × (i < length (residents_from n core (f ∷ fs)))
        × (number (n + k) ≡ slice_index_or (residents_from n core (f ∷ fs)) i (number (n + k)))
    by_core rest (inl met) =
        subst (λ (xs : List FnId). (i : ℕ) × (i < length xs) × (number (n + k) ≡ slice_index_or xs i (number (n + k))))
        (sym (own_step n core f fs met.1)) (here rest k found)
    by_core rest (inr unmet) =
        subst (λ (xs : List FnId). (i : ℕ) × (i < length xs) × (number (n + k) ≡ slice_index_or xs i (number (n + k))))
        (sym (other_step n core f fs unmet.1)) (rest_of rest k found (first_own k found unmet.1))

pub residents_few : (n core : ℕ) (fs : List FunctionPlan) → length (residents_from n core fs) ≤ length fs
residents_few n core [] = omega arith
residents_few n core (f ∷ fs) =
    by_core (residents_few (n + 1) core fs) (eqb_tells f.core core)
  where
    by_core : length (residents_from (n + 1) core fs) ≤ length fs
        → (((f.core == core) ≡ true) × (f.core ≡ core)) ⊎ (((f.core == core) ≡ false) × (f.core ≢ core))
        → length (residents_from n core (f ∷ fs)) ≤ length (f ∷ fs)
    by_core more (inl met) =
        let long = ap (λ (xs : List FnId). length xs) (own_step n core f fs met.1) in
        omega (arith, more, long)
    by_core more (inr unmet) =
        let long = ap (λ (xs : List FnId). length xs) (other_step n core f fs unmet.1) in
        omega (arith, more, long)
