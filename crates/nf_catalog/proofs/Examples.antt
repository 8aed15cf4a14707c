-- The plan of the tests keeps the rules of a plan.
use Rattle.std.proofs.Common.{◌≡◌, ◌∙◌, sym, ap, subst, refl, ℕ, zero, suc, ◌+◌, ◌<◌, ◌≤◌, Bool, true, false, Some, List, [], ◌∷◌, length, All, arith}
use Rattle.std.specs.List.{slice_get}
use Rattle.std.proofs.lemmas.Bool.{true≢false}
use Rattle.std.proofs.lemmas.Option.{none-some, same_Some, slice_get_within}
use Rattle.onvm_base.specs.Plan.{AreDifferent, AreSizes, IsChainPlan, IsFunction, IsKind, IsName, IsPlan, Sizes, is_name_character}
use Rattle.onvm_base.specs.declared.chain.ChainPlan.{ChainPlan}
use Rattle.onvm_base.specs.declared.rules.RulePlan.{RulePlan}
use Rattle.onvm_base.specs.declared.function.FunctionPlan.{FunctionPlan}
use Rattle.onvm_base.specs.declared.function.Kind.{Kind}
use Rattle.onvm_base.specs.declared.function.Kind.TheVariants as kind
use Rattle.nf_catalog.specs.Examples.{function_of, two_guests}

abbrev is_guest : Kind → Bool
is_guest (kind.Guest name) = true
is_guest _ = false

abbrev name_in : Kind → List ℕ
name_in (kind.Guest name) = name
name_in _ = []

other : {P : Type 0} (name : List ℕ) (given : Kind) → is_guest given ≡ false → kind.Guest name ≡ given → P
other name given is same = absurd (true≢false (ap is_guest same ∙ is))

guest_kind : (name : List ℕ) → IsName name → IsKind (kind.Guest name)
guest_kind name is =
    record {
      filter_length = λ tests same. other name _ refl same;
      filter_tests = λ tests same. other name _ refl same;
      tag_vlan = λ vlan priority same. other name _ refl same;
      tag_priority = λ vlan priority same. other name _ refl same;
      route_length = λ table same. other name _ refl same;
      route_prefixes = λ table same. other name _ refl same;
      balance_length = λ services same. other name _ refl same;
      police_rate = λ rate depth same. other name _ refl same;
      police_depth = λ rate depth same. other name _ refl same;
      nat_inside = λ inside outside ports same. other name _ refl same;
      nat_ports = λ inside outside ports same. other name _ refl same;
      guest_name = λ guest same. subst IsName (ap name_in same) is;
    }

one_of : {A : Type 0} (P : A → Type 0) (x : A) → P x → All P (x ∷ [])
one_of P x p zero d lt = p
one_of P x p (suc k) d lt = absurd (omega arith)

two_of : {A : Type 0} (P : A → Type 0) (x y : A) → P x → P y → All P (x ∷ y ∷ [])
two_of P x y p q zero d lt = p
two_of P x y p q (suc zero) d lt = q
two_of P x y p q (suc (suc k)) d lt = absurd (omega arith)

short_name : (c : ℕ) → is_name_character c ≡ true → IsName (c ∷ [])
short_name c is =
    record { length_of = (omega arith, omega arith); characters = one_of (λ d. is_name_character d ≡ true) c is }

guest_function : (service name : ℕ) → 1 ≤ service → service ≤ 255 → is_name_character (48 + service) ≡ true
    → is_name_character name ≡ true → IsFunction 1 (function_of service (kind.Guest (name ∷ [])))
guest_function service name from upto digit letter =
    record {
      name = short_name (48 + service) digit;
      service = (from, upto);
      core = omega arith;
      kind = guest_kind (name ∷ []) (short_name name letter);
      priority = (omega arith, omega arith);
      weight = (omega arith, omega arith);
      cost = omega arith;
    }

pub functions_are : All (IsFunction 1) two_guests
functions_are =
    two_of (IsFunction 1) _ _ (guest_function 1 98 (omega arith) (omega arith) refl refl)
    (guest_function 2 97 (omega arith) (omega arith) refl refl)

abbrev head_of : List ℕ → ℕ
head_of [] = 0
head_of (c ∷ cs) = c

two_differ : AreDifferent (function_of 1 (kind.Guest (98 ∷ []))) (function_of 2 (kind.Guest (97 ∷ [])))
two_differ =
    record {
      names = λ same. absurd (omega (arith, ap head_of same));
      services = λ same. absurd (omega (arith, same));
      guests = λ guest first second.
          absurd (omega (arith, ap (λ k. head_of (name_in k)) first, ap (λ k. head_of (name_in k)) second));
    }

pub functions_differ : (i j : ℕ) (f g : FunctionPlan) → i < j → slice_get two_guests i ≡ Some f
    → slice_get two_guests j ≡ Some g → AreDifferent f g
functions_differ zero zero f g lt here there = absurd (omega arith)
functions_differ zero (suc zero) f g lt here there =
    subst (λ (h : FunctionPlan). AreDifferent h g) (same_Some _ f here)
    (subst (λ (h : FunctionPlan). AreDifferent (function_of 1 (kind.Guest (98 ∷ []))) h) (same_Some _ g there) two_differ)
functions_differ zero (suc (suc j)) f g lt here there = absurd (none-some g there)
functions_differ (suc i) zero f g lt here there = absurd (omega arith)
functions_differ (suc zero) (suc zero) f g lt here there = absurd (omega arith)
functions_differ (suc (suc i)) (suc zero) f g lt here there = absurd (omega arith)
functions_differ (suc i) (suc (suc j)) f g lt here there = absurd (none-some g there)

-- the numbers of the plan
abbrev pub sizes : Sizes
sizes =
    record {
      version = 1;
      ports = 1;
      transmit = 1;
      cores = 1;
      buffers = 1024;
      ring = 128;
      output = 128;
      burst = 32;
      high = 96;
      low = 32;
      age = 100000;
      window = 100000000;
      tick = 10000000;
    }

sizes_are : AreSizes sizes
sizes_are =
    record {
      version = refl;
      ports = (omega arith, omega arith);
      transmit = (omega arith, omega arith);
      cores = (omega arith, omega arith);
      buffers = (omega arith, omega arith);
      ring = (omega arith, omega arith);
      output = (omega arith, omega arith);
      burst = (omega arith, omega arith);
      low = omega arith;
      marks = omega arith;
      high = omega arith;
      age = omega arith;
      window = (omega arith, omega arith);
      tick = (omega arith, omega arith);
    }

pub is_plan : (functions : List FunctionPlan) (chains : List ChainPlan) (rules : List RulePlan) → functions ≡ two_guests
    → length chains ≡ 1 → All (IsChainPlan 1 two_guests) chains → rules ≡ []
    → IsPlan sizes functions chains rules (record { 0 = 0 })
is_plan functions chains rules are one right none =
    subst (λ fs. IsPlan sizes fs chains rules (record { 0 = 0 })) (sym are)
    (subst (λ rs. IsPlan sizes two_guests chains rs (record { 0 = 0 })) (sym none)
    (record {
      sizes_are = sizes_are;
      function_count = (omega arith, omega arith);
      functions_are = functions_are;
      functions_differ = functions_differ;
      chain_count = (omega (arith, one), omega (arith, one));
      chains_are = right;
      chains_differ = λ i j c d below here there. absurd (omega (arith, one, slice_get_within chains j d there));
      rule_count = omega arith;
      rules_are = λ k d lt. absurd (omega arith);
      default_is = omega (arith, one);
    }))
