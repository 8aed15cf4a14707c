-- The plan of the tests keeps the rules of a plan.
use Rattle.std.proofs.Common.{◌≡◌, ◌≢◌, ◌∙◌, ap, subst, refl, ℕ, zero, suc, ◌<◌, ◌≤◌, Bool, true, false, Some, List, [], ◌∷◌, length, All, arith}
use Rattle.std.specs.List.{slice_get}
use Rattle.std.proofs.lemmas.Bool.{true≢false}
use Rattle.std.proofs.lemmas.Option.{none-some, same_Some}
use Rattle.onvm_base.specs.Plan.{AreDifferent, AreSizes, IsChainPlan, IsFunction, IsKind, IsName, IsPlan, IsStep, Sizes, is_name_character}
use Rattle.onvm_base.specs.Services.{instances}
use Rattle.onvm_base.specs.declared.chain.ChainPlan.{ChainPlan}
use Rattle.onvm_base.specs.declared.chain.ChainStep.{ChainStep}
use Rattle.onvm_base.specs.declared.chain.ChainStep.TheVariants as step
use Rattle.onvm_base.specs.declared.function.FunctionPlan.{FunctionPlan}
use Rattle.onvm_base.specs.declared.function.Kind.{Kind}
use Rattle.onvm_base.specs.declared.function.Kind.TheVariants as kind
use Rattle.onvm_base.specs.declared.rules.RulePlan.{RulePlan}
use Rattle.nf_registry.specs.Examples.{chain_of, function_of, three_functions, two_chains}

-- ---- lists of two and three

one_of : {A : Type 0} (P : A → Type 0) (x : A) → P x → All P (x ∷ [])
one_of P x p zero d less = p
one_of P x p (suc k) d less = absurd (omega arith)

two_of : {A : Type 0} (P : A → Type 0) (x y : A) → P x → P y → All P (x ∷ y ∷ [])
two_of P x y p q zero d less = p
two_of P x y p q (suc zero) d less = q
two_of P x y p q (suc (suc k)) d less = absurd (omega arith)

three_of : {A : Type 0} (P : A → Type 0) (x y z : A) → P x → P y → P z → All P (x ∷ y ∷ z ∷ [])
three_of P x y z p q r zero d less = p
three_of P x y z p q r (suc zero) d less = q
three_of P x y z p q r (suc (suc zero)) d less = r
three_of P x y z p q r (suc (suc (suc k))) d less = absurd (omega arith)

paired : {A : Type 0} (R : A → A → Type 0) (x y f g : A) → R x y → Some x ≡ Some f → Some y ≡ Some g → R f g
paired R x y f g r here there = subst (λ h. R h g) (same_Some x f here) (subst (λ h. R x h) (same_Some y g there) r)

two_differ : {A : Type 0} (R : A → A → Type 0) (x y : A) → R x y → (i j : ℕ) (f g : A) → i < j → slice_get (x ∷ y ∷ []) i ≡ Some f
    → slice_get (x ∷ y ∷ []) j ≡ Some g → R f g
two_differ R x y r i zero f g less here there = absurd (omega arith)
two_differ R x y r zero (suc zero) f g less here there = paired R x y f g r here there
two_differ R x y r (suc i) (suc zero) f g less here there = absurd (omega arith)
two_differ R x y r i (suc (suc j)) f g less here there = absurd (none-some g there)

three_differ : {A : Type 0} (R : A → A → Type 0) (x y z : A) → R x y → R x z → R y z → (i j : ℕ) (f g : A) → i < j
    → slice_get (x ∷ y ∷ z ∷ []) i ≡ Some f → slice_get (x ∷ y ∷ z ∷ []) j ≡ Some g → R f g
three_differ R x y z r s t i zero f g less here there = absurd (omega arith)
three_differ R x y z r s t zero (suc zero) f g less here there = paired R x y f g r here there
three_differ R x y z r s t (suc i) (suc zero) f g less here there = absurd (omega arith)
three_differ R x y z r s t zero (suc (suc zero)) f g less here there = paired R x z f g s here there
three_differ R x y z r s t (suc zero) (suc (suc zero)) f g less here there = paired R y z f g t here there
three_differ R x y z r s t (suc (suc i)) (suc (suc zero)) f g less here there = absurd (omega arith)
three_differ R x y z r s t i (suc (suc (suc j))) f g less here there = absurd (none-some g there)

-- ---- functions

abbrev is_forward : Kind → Bool
is_forward kind.Forward = true
is_forward _ = false

other : {P : Type 0} (given : Kind) → is_forward given ≡ false → kind.Forward ≡ given → P
other given is same = absurd (true≢false (ap is_forward same ∙ is))

forward_kind : IsKind kind.Forward
forward_kind =
    record {
      filter_length = λ tests same. other _ refl same;
      filter_tests = λ tests same. other _ refl same;
      tag_vlan = λ vlan priority same. other _ refl same;
      tag_priority = λ vlan priority same. other _ refl same;
      route_length = λ table same. other _ refl same;
      route_prefixes = λ table same. other _ refl same;
      balance_length = λ services same. other _ refl same;
      police_rate = λ rate depth same. other _ refl same;
      police_depth = λ rate depth same. other _ refl same;
      nat_inside = λ inside outside ports same. other _ refl same;
      nat_ports = λ inside outside ports same. other _ refl same;
      guest_name = λ guest same. other _ refl same;
    }

letter_name : (c : ℕ) → is_name_character c ≡ true → IsName (c ∷ [])
letter_name c is = record { length_of = (omega arith, omega arith); characters = one_of (λ d. is_name_character d ≡ true) c is }

one_function : (letter service core : ℕ) → is_name_character letter ≡ true → 1 ≤ service → service ≤ 255 → core < 2
    → IsFunction 2 (function_of letter service core)
one_function letter service core is from upto less =
    record {
      name = letter_name letter is;
      service = (from, upto);
      core = less;
      kind = forward_kind;
      priority = (omega arith, omega arith);
      weight = (omega arith, omega arith);
      cost = omega arith;
    }

functions_are : All (IsFunction 2) three_functions
functions_are =
    three_of (IsFunction 2) _ _ _ (one_function 97 5 0 refl (omega arith) (omega arith) (omega arith))
    (one_function 98 6 1 refl (omega arith) (omega arith) (omega arith)) (one_function 99 7 0 refl (omega arith) (omega arith) (omega arith))

abbrev head_of : List ℕ → ℕ
head_of [] = 0
head_of (c ∷ cs) = c

unlike : (letter service core later another elsewhere : ℕ) → letter < later → service < another
    → AreDifferent (function_of letter service core) (function_of later another elsewhere)
unlike letter service core later another elsewhere before below =
    record {
      names = λ same. absurd (omega (arith, ap head_of same));
      services = λ same. absurd (omega (arith, same));
      guests = λ guest is. other _ refl is;
    }

functions_differ : (i j : ℕ) (f g : FunctionPlan) → i < j → slice_get three_functions i ≡ Some f
    → slice_get three_functions j ≡ Some g → AreDifferent f g
functions_differ =
    three_differ AreDifferent _ _ _ (unlike 97 5 0 98 6 1 (omega arith) (omega arith)) (unlike 97 5 0 99 7 0 (omega arith) (omega arith))
    (unlike 98 6 1 99 7 0 (omega arith) (omega arith))

-- ---- chains

abbrev StepRule : ChainStep → Type 0
StepRule (step.To service) = instances service three_functions ≢ []
StepRule (step.Out port) = port < 1

by_rule : (s : ChainStep) → StepRule s → IsStep 1 three_functions s
by_rule s h = record { service = λ service e. subst StepRule e h; port = λ port e. subst StepRule e h }

some : (n : ℕ) (ns : List ℕ) → n ∷ ns ≢ []
some n ns e = absurd (omega (arith, ap length e))

first_chain : IsChainPlan 1 three_functions (chain_of 120 (step.To 5 ∷ step.To 6 ∷ []))
first_chain = record {
  name = letter_name 120 refl;
  length_of = (omega arith, omega arith);
  steps = two_of (IsStep 1 three_functions) _ _ (by_rule (step.To 5) (some 0 [])) (by_rule (step.To 6) (some 1 []));
}

second_chain : IsChainPlan 1 three_functions (chain_of 121 (step.Out 0 ∷ step.To 7 ∷ step.To 6 ∷ []))
second_chain = record {
  name = letter_name 121 refl;
  length_of = (omega arith, omega arith);
  steps = three_of (IsStep 1 three_functions) _ _ _ (by_rule (step.Out 0) (omega arith)) (by_rule (step.To 7) (some 2 [])) (by_rule (step.To 6) (some 1 []));
}

chains_differ : (i j : ℕ) (c d : ChainPlan) → i < j → slice_get two_chains i ≡ Some c → slice_get two_chains j ≡ Some d → c.name ≢ d.name
chains_differ = two_differ (λ c d. c.name ≢ d.name) _ _ (λ same. absurd (omega (arith, ap head_of same)))

-- ---- the plan

-- the numbers of the plan
abbrev pub sizes : Sizes
sizes =
    record {
      version = 1;
      ports = 1;
      transmit = 2;
      cores = 2;
      buffers = 1024;
      ring = 128;
      output = 128;
      burst = 32;
      high = 96;
      low = 32;
      age = 100000;
      window = 100000000;
      tick = 10000000;
    }

sizes_are : AreSizes sizes
sizes_are =
    record {
      version = refl;
      ports = (omega arith, omega arith);
      transmit = (omega arith, omega arith);
      cores = (omega arith, omega arith);
      buffers = (omega arith, omega arith);
      ring = (omega arith, omega arith);
      output = (omega arith, omega arith);
      burst = (omega arith, omega arith);
      low = omega arith;
      marks = omega arith;
      high = omega arith;
      age = omega arith;
      window = (omega arith, omega arith);
      tick = (omega arith, omega arith);
    }

pub is_plan : (functions : List FunctionPlan) (chains : List ChainPlan) (rules : List RulePlan) → functions ≡ three_functions
    → chains ≡ two_chains → rules ≡ [] → IsPlan sizes functions chains rules (record { 0 = 0 })
is_plan functions chains rules are is none =
    rw (are, is, none)
    (record {
      sizes_are = sizes_are;
      function_count = (omega arith, omega arith);
      functions_are = functions_are;
      functions_differ = functions_differ;
      chain_count = (omega arith, omega arith);
      chains_are = two_of (IsChainPlan 1 three_functions) _ _ first_chain second_chain;
      chains_differ = chains_differ;
      rule_count = omega arith;
      rules_are = λ k d less. absurd (omega arith);
      default_is = omega arith;
    })
