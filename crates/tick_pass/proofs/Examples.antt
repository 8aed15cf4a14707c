-- The plan of the tests keeps the rules of a plan.
use Rattle.std.proofs.Common.{◌≡◌, ◌∙◌, sym, ap, subst, refl, ℕ, zero, suc, ◌+◌, ◌-◌, ◌<◌, ◌≤◌, Bool, true, false, Some, List, [], ◌∷◌, ◌++◌, length, All, arith}
use Rattle.std.specs.List.{slice_get}
use Rattle.std.specs.Prelude.{map, replicate, slice_index, slice_index_or}
use Rattle.std.proofs.lemmas.Bool.{true≢false}
use Rattle.std.proofs.lemmas.Option.{none-some, same_Some, slice_get_within}
use Rattle.onvm_base.specs.Plan.{AreDifferent, AreSizes, IsChainPlan, IsFunction, IsKind, IsName, IsPlan, Sizes, is_name_character}
use Rattle.onvm_base.specs.declared.chain.ChainPlan.{ChainPlan}
use Rattle.onvm_base.specs.declared.rules.RulePlan.{RulePlan}
use Rattle.onvm_base.specs.declared.function.FunctionPlan.{FunctionPlan}
use Rattle.onvm_base.specs.declared.function.Kind.{Kind}
use Rattle.onvm_base.specs.declared.function.Kind.TheVariants as kind
use Rattle.onvm_base.specs.declared.limits.TheConstants.{MAX_FUNCTIONS}
use Rattle.onvm_base.specs.declared.plan.Plan.{Plan}
use Rattle.onvm_core.specs.declared.layout.Layout.{Layout}
use Rattle.onvm_core.specs.Layouts.{IsLayoutOf, producer}
use Rattle.onvm_core.specs.Logs.{Log}
use Rattle.desc_ring.specs.Arrays.{mail_of}
use Rattle.tick_pass.specs.Examples.{IsSmall, function_of, two_functions}

abbrev is_forward : Kind → Bool
is_forward kind.Forward = true
is_forward _ = false

other : {P : Type 0} (given : Kind) → kind.Forward ≡ given → is_forward given ≡ false → P
other given same is = absurd (true≢false (ap is_forward same ∙ is))

forward_kind : IsKind kind.Forward
forward_kind =
    record {
      filter_length = λ tests same. other _ same refl;
      filter_tests = λ tests same. other _ same refl;
      tag_vlan = λ vlan priority same. other _ same refl;
      tag_priority = λ vlan priority same. other _ same refl;
      route_length = λ table same. other _ same refl;
      route_prefixes = λ table same. other _ same refl;
      balance_length = λ services same. other _ same refl;
      police_rate = λ rate depth same. other _ same refl;
      police_depth = λ rate depth same. other _ same refl;
      nat_inside = λ inside outside ports same. other _ same refl;
      nat_ports = λ inside outside ports same. other _ same refl;
      guest_name = λ guest same. other _ same refl;
    }

one_of : {A : Type 0} (P : A → Type 0) (x : A) → P x → All P (x ∷ [])
one_of P x p zero d lt = p
one_of P x p (suc k) d lt = absurd (omega arith)

two_of : {A : Type 0} (P : A → Type 0) (x y : A) → P x → P y → All P (x ∷ y ∷ [])
two_of P x y p q zero d lt = p
two_of P x y p q (suc zero) d lt = q
two_of P x y p q (suc (suc k)) d lt = absurd (omega arith)

short_name : (c : ℕ) → is_name_character c ≡ true → IsName (c ∷ [])
short_name c is =
    record { length_of = (omega arith, omega arith); characters = one_of (λ d. is_name_character d ≡ true) c is }

forward_function : (service priority : ℕ) → 1 ≤ service → service ≤ 255 → is_name_character (48 + service) ≡ true
    → 1 ≤ priority → priority ≤ 1024 → IsFunction 1 (function_of service priority)
forward_function service priority from upto digit some most =
    record {
      name = short_name (48 + service) digit;
      service = (from, upto);
      core = omega arith;
      kind = forward_kind;
      priority = (some, most);
      weight = (omega arith, omega arith);
      cost = omega arith;
    }

pub functions_are : All (IsFunction 1) two_functions
functions_are =
    two_of (IsFunction 1) _ _ (forward_function 1 1 (omega arith) (omega arith) refl (omega arith) (omega arith))
    (forward_function 2 3 (omega arith) (omega arith) refl (omega arith) (omega arith))

abbrev head_of : List ℕ → ℕ
head_of [] = 0
head_of (c ∷ cs) = c

two_differ : AreDifferent (function_of 1 1) (function_of 2 3)
two_differ =
    record {
      names = λ same. absurd (omega (arith, ap head_of same));
      services = λ same. absurd (omega (arith, same));
      guests = λ guest first second. other _ first refl;
    }

pub functions_differ : (i j : ℕ) (f g : FunctionPlan) → i < j → slice_get two_functions i ≡ Some f
    → slice_get two_functions j ≡ Some g → AreDifferent f g
functions_differ zero zero f g lt here there = absurd (omega arith)
functions_differ zero (suc zero) f g lt here there =
    subst (λ (h : FunctionPlan). AreDifferent h g) (same_Some _ f here)
    (subst (λ (h : FunctionPlan). AreDifferent (function_of 1 1) h) (same_Some _ g there) two_differ)
functions_differ zero (suc (suc j)) f g lt here there = absurd (none-some g there)
functions_differ (suc i) zero f g lt here there = absurd (omega arith)
functions_differ (suc zero) (suc zero) f g lt here there = absurd (omega arith)
functions_differ (suc (suc i)) (suc zero) f g lt here there = absurd (omega arith)
functions_differ (suc i) (suc (suc j)) f g lt here there = absurd (none-some g there)

-- the numbers of the plan
abbrev pub sizes : Sizes
sizes =
    record {
      version = 1;
      ports = 1;
      transmit = 1;
      cores = 1;
      buffers = 4;
      ring = 8;
      output = 8;
      burst = 8;
      high = 6;
      low = 2;
      age = 100000;
      window = 100000000;
      tick = 1000;
    }

sizes_are : AreSizes sizes
sizes_are =
    record {
      version = refl;
      ports = (omega arith, omega arith);
      transmit = (omega arith, omega arith);
      cores = (omega arith, omega arith);
      buffers = (omega arith, omega arith);
      ring = (omega arith, omega arith);
      output = (omega arith, omega arith);
      burst = (omega arith, omega arith);
      low = omega arith;
      marks = omega arith;
      high = omega arith;
      age = omega arith;
      window = (omega arith, omega arith);
      tick = (omega arith, omega arith);
    }

pub is_plan : (functions : List FunctionPlan) (chains : List ChainPlan) (rules : List RulePlan) → functions ≡ two_functions
    → length chains ≡ 1 → All (IsChainPlan 1 two_functions) chains → rules ≡ []
    → IsPlan sizes functions chains rules (record { 0 = 0 })
is_plan functions chains rules are one right none =
    subst (λ fs. IsPlan sizes fs chains rules (record { 0 = 0 })) (sym are)
    (subst (λ rs. IsPlan sizes two_functions chains rs (record { 0 = 0 })) (sym none)
    (record {
      sizes_are = sizes_are;
      function_count = (omega arith, omega arith);
      functions_are = functions_are;
      functions_differ = functions_differ;
      chain_count = (omega (arith, one), omega (arith, one));
      chains_are = right;
      chains_differ = λ i j c d below here there. absurd (omega (arith, one, slice_get_within chains j d there));
      rule_count = omega arith;
      rules_are = λ k d lt. absurd (omega arith);
      default_is = omega (arith, one);
    }))

-- The board of the tests

both_on_core_0 : (f : ℕ) → f < 2
    → slice_index (map (λ g. g.core) two_functions ++ replicate (MAX_FUNCTIONS - length two_functions) 0) f ≡ 0
both_on_core_0 zero less = refl
both_on_core_0 (suc zero) less = refl
both_on_core_0 (suc (suc f)) less = absurd (omega (arith, less))

-- its core is role 2
pub core_is : (plan : Plan) (layout : Layout) → IsSmall plan → IsLayoutOf plan layout → (f : ℕ) → f < 2
    → producer layout (mail_of f) ≡ 2
core_is plan layout small of f less =
    let core : slice_index layout.core_of f ≡ 0 =
    ap (λ cores. slice_index cores f) (of.core_of
    ∙ ap (λ (fs : List FunctionPlan). map (λ g. g.core) fs ++ replicate (MAX_FUNCTIONS - length fs) 0) small.functions)
    ∙ both_on_core_0 f less in
    omega (arith, core, of.ports, small.ports, of.transmit, small.transmit)

-- a new board's first token has kept no log
pub none_kept : (n i : ℕ) → ◌≡◌ {A = Log} (slice_index_or (replicate n []) i []) []
none_kept zero i = refl
none_kept (suc n) zero = refl
none_kept (suc n) (suc i) = none_kept n i
