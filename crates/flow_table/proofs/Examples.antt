-- The plan of the tests keeps the rules of a plan.
use Rattle.std.proofs.Common.{◌≡◌, ◌≢◌, ◌∙◌, sym, ap, subst, refl, ℕ, zero, suc, ◌<◌, ◌≤◌, Bool, true, false, Some, List, [], ◌∷◌, length, All, arith}
use Rattle.std.specs.List.{slice_get}
use Rattle.std.proofs.lemmas.Bool.{true≢false}
use Rattle.std.proofs.lemmas.Option.{none-some, same_Some}
use Rattle.onvm_base.specs.Plan.{AreDifferent, AreSizes, IsChainPlan, IsFunction, IsKind, IsName, IsPlan, IsRule, IsStep, Sizes, is_name_character}
use Rattle.onvm_base.specs.declared.chain.ChainPlan.{ChainPlan}
use Rattle.onvm_base.specs.declared.chain.ChainStep.{ChainStep}
use Rattle.onvm_base.specs.declared.chain.ChainStep.TheVariants as step
use Rattle.onvm_base.specs.declared.function.FunctionPlan.{FunctionPlan}
use Rattle.onvm_base.specs.declared.function.Kind.{Kind}
use Rattle.onvm_base.specs.declared.function.Kind.TheVariants as kind
use Rattle.onvm_base.specs.declared.ids.ChainId.{ChainId}
use Rattle.onvm_base.specs.declared.rules.RulePlan.{RulePlan}
use Rattle.flow_table.specs.Examples.{chain_named, one_function, two_chains}

abbrev is_forward : Kind → Bool
is_forward kind.Forward = true
is_forward _ = false

other : {P : Type 0} (given : Kind) → is_forward given ≡ false → kind.Forward ≡ given → P
other given is same = absurd (true≢false (ap is_forward same ∙ is))

forward_kind : IsKind kind.Forward
forward_kind =
    record {
      filter_length = λ tests same. other _ refl same;
      filter_tests = λ tests same. other _ refl same;
      tag_vlan = λ vlan priority same. other _ refl same;
      tag_priority = λ vlan priority same. other _ refl same;
      route_length = λ table same. other _ refl same;
      route_prefixes = λ table same. other _ refl same;
      balance_length = λ services same. other _ refl same;
      police_rate = λ rate depth same. other _ refl same;
      police_depth = λ rate depth same. other _ refl same;
      nat_inside = λ inside outside ports same. other _ refl same;
      nat_ports = λ inside outside ports same. other _ refl same;
      guest_name = λ guest same. other _ refl same;
    }

one_of : {A : Type 0} (P : A → Type 0) (x : A) → P x → All P (x ∷ [])
one_of P x p zero d lt = p
one_of P x p (suc k) d lt = absurd (omega arith)

two_of : {A : Type 0} (P : A → Type 0) (x y : A) → P x → P y → All P (x ∷ y ∷ [])
two_of P x y p q zero d lt = p
two_of P x y p q (suc zero) d lt = q
two_of P x y p q (suc (suc k)) d lt = absurd (omega arith)

pub three_of : {A : Type 0} (P : A → Type 0) (x y z : A) → P x → P y → P z → All P (x ∷ y ∷ z ∷ [])
three_of P x y z p q r zero d lt = p
three_of P x y z p q r (suc zero) d lt = q
three_of P x y z p q r (suc (suc zero)) d lt = r
three_of P x y z p q r (suc (suc (suc k))) d lt = absurd (omega arith)

short_name : (c : ℕ) → is_name_character c ≡ true → IsName (c ∷ [])
short_name c is =
    record { length_of = (omega arith, omega arith); characters = one_of (λ d. is_name_character d ≡ true) c is }

functions_are : All (IsFunction 1) one_function
functions_are =
    one_of (IsFunction 1) _ (record {
      name = short_name 102 refl;
      service = (omega arith, omega arith);
      core = omega arith;
      kind = forward_kind;
      priority = (omega arith, omega arith);
      weight = (omega arith, omega arith);
      cost = omega arith;
    })

functions_differ : (i j : ℕ) (f g : FunctionPlan) → i < j → slice_get one_function i ≡ Some f
    → slice_get one_function j ≡ Some g → AreDifferent f g
functions_differ i zero f g lt here there = absurd (omega arith)
functions_differ i (suc j) f g lt here there = absurd (none-some g there)

abbrev is_out : ChainStep → Bool
is_out (step.Out port) = true
is_out (step.To service) = false

abbrev port_in : ChainStep → ℕ
port_in (step.Out port) = port
port_in (step.To service) = 0

chain_is : (name : ℕ) → is_name_character name ≡ true → IsChainPlan 2 one_function (chain_named name)
chain_is name letter =
    record {
      name = short_name name letter;
      length_of = (omega arith, omega arith);
      steps = one_of (IsStep 2 one_function) _ (record {
        service = λ service same. absurd (true≢false (ap is_out same));
        port = λ port same. omega (arith, ap port_in same);
      });
    }

abbrev first_letter : List ℕ → ℕ
first_letter [] = 0
first_letter (c ∷ cs) = c

abbrev letter_of : ChainPlan → ℕ
letter_of chain = first_letter chain.name

chains_differ : (i j : ℕ) (c d : ChainPlan) → i < j → slice_get two_chains i ≡ Some c
    → slice_get two_chains j ≡ Some d → c.name ≢ d.name
chains_differ i zero c d lt here there = absurd (omega arith)
chains_differ zero (suc zero) c d lt here there = λ same.
    omega (arith, ap letter_of (same_Some _ c here), ap letter_of (same_Some _ d there), ap first_letter same)
chains_differ (suc i) (suc zero) c d lt here there = absurd (omega arith)
chains_differ i (suc (suc j)) c d lt here there = absurd (none-some d there)

-- the numbers of the plan
abbrev pub sizes : Sizes
sizes =
    record {
      version = 1;
      ports = 2;
      transmit = 1;
      cores = 1;
      buffers = 1024;
      ring = 128;
      output = 128;
      burst = 32;
      high = 96;
      low = 32;
      age = 100000;
      window = 100000000;
      tick = 10000000;
    }

sizes_are : AreSizes sizes
sizes_are =
    record {
      version = refl;
      ports = (omega arith, omega arith);
      transmit = (omega arith, omega arith);
      cores = (omega arith, omega arith);
      buffers = (omega arith, omega arith);
      ring = (omega arith, omega arith);
      output = (omega arith, omega arith);
      burst = (omega arith, omega arith);
      low = omega arith;
      marks = omega arith;
      high = omega arith;
      age = omega arith;
      window = (omega arith, omega arith);
      tick = (omega arith, omega arith);
    }

pub is_plan : (functions : List FunctionPlan) (chains : List ChainPlan) (rules : List RulePlan) (default : ChainId)
    → functions ≡ one_function → chains ≡ two_chains → length rules ≤ 256 → All (IsRule 2) rules → default.0 < 2
    → IsPlan sizes functions chains rules default
is_plan functions chains rules default functions_is chains_is count are low =
    subst (λ (fs : List FunctionPlan). IsPlan sizes fs chains rules default) (sym functions_is)
    (subst (λ (cs : List ChainPlan). IsPlan sizes one_function cs rules default) (sym chains_is)
    (record {
      sizes_are = sizes_are;
      function_count = (omega arith, omega arith);
      functions_are = functions_are;
      functions_differ = functions_differ;
      chain_count = (omega arith, omega arith);
      chains_are = two_of (IsChainPlan 2 one_function) _ _ (chain_is 97 refl) (chain_is 98 refl);
      chains_differ = chains_differ;
      rule_count = count;
      rules_are = are;
      default_is = low;
    }))
