-- The plan of the tests keeps the rules of a plan.
use Rattle.std.proofs.Common.{◌≡◌, ◌∙◌, sym, ap, subst, refl, ℕ, zero, suc, ◌<◌, Bool, true, false, Some, List, [], ◌∷◌, length, All, arith}
use Rattle.std.specs.List.{slice_get}
use Rattle.std.proofs.lemmas.Bool.{true≢false}
use Rattle.std.proofs.lemmas.Option.{slice_get_within}
use Rattle.onvm_base.specs.Plan.{AreDifferent, AreSizes, IsChainPlan, IsFunction, IsKind, IsPlan, Sizes, is_name_character}
use Rattle.onvm_base.specs.declared.chain.ChainPlan.{ChainPlan}
use Rattle.onvm_base.specs.declared.rules.RulePlan.{RulePlan}
use Rattle.onvm_base.specs.declared.function.FunctionPlan.{FunctionPlan}
use Rattle.onvm_base.specs.declared.function.Kind.{Kind}
use Rattle.onvm_base.specs.declared.function.Kind.TheVariants as kind
use Rattle.entry_throttle.specs.Examples.{one_function}

abbrev is_forward : Kind → Bool
is_forward kind.Forward = true
is_forward _ = false

other : {P : Type 0} (given : Kind) → is_forward given ≡ false → kind.Forward ≡ given → P
other given is same = absurd (true≢false (ap is_forward same ∙ is))

forward_kind : IsKind kind.Forward
forward_kind =
    record {
      filter_length = λ tests same. other _ refl same;
      filter_tests = λ tests same. other _ refl same;
      tag_vlan = λ vlan priority same. other _ refl same;
      tag_priority = λ vlan priority same. other _ refl same;
      route_length = λ table same. other _ refl same;
      route_prefixes = λ table same. other _ refl same;
      balance_length = λ services same. other _ refl same;
      police_rate = λ rate depth same. other _ refl same;
      police_depth = λ rate depth same. other _ refl same;
      nat_inside = λ inside outside ports same. other _ refl same;
      nat_ports = λ inside outside ports same. other _ refl same;
      guest_name = λ guest same. other _ refl same;
    }

one_of : {A : Type 0} (P : A → Type 0) (x : A) → P x → All P (x ∷ [])
one_of P x p zero d lt = p
one_of P x p (suc k) d lt = absurd (omega arith)

functions_are : All (IsFunction 1) one_function
functions_are =
    one_of (IsFunction 1) _
    (record {
      name = record {
        length_of = (omega arith, omega arith);
        characters = one_of (λ c. is_name_character c ≡ true) 102 refl;
      };
      service = (omega arith, omega arith);
      core = omega arith;
      kind = forward_kind;
      priority = (omega arith, omega arith);
      weight = (omega arith, omega arith);
      cost = omega arith;
    })

functions_differ : (i j : ℕ) (f g : FunctionPlan) → i < j → slice_get one_function i ≡ Some f
    → slice_get one_function j ≡ Some g → AreDifferent f g
functions_differ i j f g lt here there =
    let within = slice_get_within one_function j g there in absurd (omega (arith, within, lt))

-- the numbers of the plan
abbrev pub sizes : Sizes
sizes =
    record {
      version = 1;
      ports = 1;
      transmit = 1;
      cores = 1;
      buffers = 8;
      ring = 8;
      output = 8;
      burst = 8;
      high = 4;
      low = 2;
      age = 3000;
      window = 100000000;
      tick = 10000000;
    }

sizes_are : AreSizes sizes
sizes_are =
    record {
      version = refl;
      ports = (omega arith, omega arith);
      transmit = (omega arith, omega arith);
      cores = (omega arith, omega arith);
      buffers = (omega arith, omega arith);
      ring = (omega arith, omega arith);
      output = (omega arith, omega arith);
      burst = (omega arith, omega arith);
      low = omega arith;
      marks = omega arith;
      high = omega arith;
      age = omega arith;
      window = (omega arith, omega arith);
      tick = (omega arith, omega arith);
    }

pub is_plan : (functions : List FunctionPlan) (chains : List ChainPlan) (rules : List RulePlan) → functions
    ≡ one_function
    → length chains ≡ 1 → All (IsChainPlan 1 one_function) chains → rules ≡ []
    → IsPlan sizes functions chains rules (record { 0 = 0 })
is_plan functions chains rules are one right ruleless =
    subst (λ fs. IsPlan sizes fs chains rules (record { 0 = 0 })) (sym are)
    (subst (λ rs. IsPlan sizes one_function chains rs (record { 0 = 0 })) (sym ruleless)
    (record {
      sizes_are = sizes_are;
      function_count = (omega arith, omega arith);
      functions_are = functions_are;
      functions_differ = functions_differ;
      chain_count = (omega (arith, one), omega (arith, one));
      chains_are = right;
      chains_differ = λ i j c d below here there. absurd (omega (arith, one, slice_get_within chains j d there));
      rule_count = omega arith;
      rules_are = λ k d lt. absurd (omega arith);
      default_is = omega (arith, one);
    }))
