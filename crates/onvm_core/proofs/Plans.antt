-- Small plans that keep the rules, so that there are plans.
use Rattle.std.proofs.Common.{◌≡◌, ◌≢◌, ℕ, ◌<◌, ◌≤◌, true, List, [], ◌∷◌, refl, subst, arith, Some}
use Rattle.std.specs.Prelude.{slice_get, All}
use Rattle.std.proofs.lemmas.List.Elements.{All-cons, All-nil}
use Rattle.std.proofs.lemmas.Option.{slice_get_within}
use Rattle.onvm_base.specs.declared.chain.ChainPlan.{ChainPlan}
use Rattle.onvm_base.specs.declared.chain.ChainStep.TheVariants.{To as Service, Out as Port}
use Rattle.onvm_base.specs.declared.function.FunctionPlan.{FunctionPlan}
use Rattle.onvm_base.specs.declared.function.Kind.TheVariants.{Forward, Filter, Tag, Route, Balance, Police, Nat, Guest}
use Rattle.onvm_base.specs.declared.plan.Plan.{Plan}
use Rattle.onvm_base.specs.Plan.{IsFrom, AreDifferent, IsChainPlan, IsFunction, IsKind, IsName, IsRule, IsStep, is_name_character}
use Rattle.onvm_base.specs.Services.{instances}

pub one : {A : Type 0} (P : A → Type 0) (x : A) → P x → All P (x ∷ [])
one P x px = All-cons P x [] px (All-nil P)

pub two : {A : Type 0} (P : A → Type 0) (x y : A) → P x → P y → All P (x ∷ y ∷ [])
two P x y px py = All-cons P x (y ∷ []) px (one P y py)

-- a name of one letter
pub is_letter : (c : ℕ) → is_name_character c ≡ true → IsName (c ∷ [])
is_letter c letter =
    record { length_of = (omega arith, omega arith); characters = one (λ k. is_name_character k ≡ true) c letter }

pub forwards : IsKind Forward
forwards = record {
  filter_length = λ tests e. absurd (let off : Forward ≡ Filter tests = e in cc);
  filter_tests = λ tests e. absurd (let off : Forward ≡ Filter tests = e in cc);
  tag_vlan = λ vlan priority e. absurd (let off : Forward ≡ Tag vlan priority = e in cc);
  tag_priority = λ vlan priority e. absurd (let off : Forward ≡ Tag vlan priority = e in cc);
  route_length = λ table e. absurd (let off : Forward ≡ Route table = e in cc);
  route_prefixes = λ table e. absurd (let off : Forward ≡ Route table = e in cc);
  balance_length = λ services e. absurd (let off : Forward ≡ Balance services = e in cc);
  police_rate = λ rate depth e. absurd (let off : Forward ≡ Police rate depth = e in cc);
  police_depth = λ rate depth e. absurd (let off : Forward ≡ Police rate depth = e in cc);
  nat_inside = λ inside outside ports e. absurd (let off : Forward ≡ Nat inside outside ports = e in cc);
  nat_ports = λ inside outside ports e. absurd (let off : Forward ≡ Nat inside outside ports = e in cc);
  guest_name = λ guest e. absurd (let off : Forward ≡ Guest guest = e in cc);
}

-- a forwarding function of this one-letter name and service, on core 0
abbrev pub forwarding : ℕ → ℕ → FunctionPlan
forwarding letter service =
    record { name = letter ∷ []; service = service; core = 0; kind = Forward; priority = 1; weight = 1024; cost = 100 }

pub is_forwarding : (letter service : ℕ) → is_name_character letter ≡ true → 1 ≤ service → service ≤ 255
    → IsFunction 1 (forwarding letter service)
is_forwarding letter service named some few = record {
  name = is_letter letter named;
  service = (some, few);
  core = omega arith;
  kind = forwards;
  priority = (omega arith, omega arith);
  weight = (omega arith, omega arith);
  cost = omega arith;
}

-- a chain through one service and then out of port 0
abbrev pub through : ℕ → ℕ → ChainPlan
through letter service = record { name = letter ∷ []; steps = Service service ∷ Port 0 ∷ [] }

pub is_through : (letter service : ℕ) (functions : List FunctionPlan)
    → is_name_character letter ≡ true → instances service functions ≢ []
    → IsChainPlan 1 functions (through letter service)
is_through letter service functions named offered = record {
  name = is_letter letter named;
  length_of = (omega arith, omega arith);
  steps = two (IsStep 1 functions) (Service service) (Port 0)
      (record {
        service = λ other e. let same : service ≡ other = cc in subst (λ s. instances s functions ≢ []) same offered;
        port = λ port e. absurd (let off : Service service ≡ Port port = e in cc);
      })
      (record {
        service = λ other e. absurd (let off : Port 0 ≡ Service other = e in cc);
        port = λ port e. let same : 0 ≡ port = cc in omega (arith, same);
      });
}

-- no two places below 1
pub no_pair : {A : Type 0} (x y : A) (i j : ℕ) → i < j → slice_get (x ∷ []) j ≡ Some y → ⊥
no_pair x y i j less e = omega (arith, less, slice_get_within (x ∷ []) j y e)

-- the plan of the smallest chain file
abbrev pub smallest : Plan
smallest = record {
  version = 1;
  ports = 1;
  transmit = 1;
  cores = 1;
  buffers = 1024;
  ring = 128;
  output = 128;
  burst = 32;
  high = 96;
  low = 32;
  age = 100000;
  window = 100000000;
  tick = 10000000;
  functions = forwarding 102 1 ∷ [];
  chains = through 97 1 ∷ [];
  rules = [];
  default = record { 0 = 0 };
  kept = record {
    sizes_are = record {
      version = refl;
      ports = (omega arith, omega arith);
      transmit = (omega arith, omega arith);
      cores = (omega arith, omega arith);
      buffers = (omega arith, omega arith);
      ring = (omega arith, omega arith);
      output = (omega arith, omega arith);
      burst = (omega arith, omega arith);
      low = omega arith;
      marks = omega arith;
      high = omega arith;
      age = omega arith;
      window = (omega arith, omega arith);
      tick = (omega arith, omega arith);
    };
    function_count = (omega arith, omega arith);
    functions_are = one (IsFunction 1) (forwarding 102 1) (is_forwarding 102 1 refl (omega arith) (omega arith));
    functions_differ = λ i j f g less at_i at_j. absurd (no_pair (forwarding 102 1) g i j less at_j);
    chain_count = (omega arith, omega arith);
    chains_are =
        one (IsChainPlan 1 (forwarding 102 1 ∷ [])) (through 97 1)
        (is_through 97 1 (forwarding 102 1 ∷ []) refl (λ e. cc));
    chains_differ = λ i j c d less at_i at_j. absurd (no_pair (through 97 1) d i j less at_j);
    rule_count = omega arith;
    rules_are = All-nil (IsRule 1);
    default_is = omega arith;
  };
}

pub differ_is : AreDifferent (forwarding 102 1) (forwarding 103 2)
differ_is = record {
  names = λ e. let n : ◌≡◌ {A = ℕ} 102 103 = cc in omega (arith, n);
  services = λ e. omega (arith, e);
  guests = λ guest e. absurd (let off : Forward ≡ Guest guest = e in cc);
}

same_some : {A : Type 0} (x y : A) → Some x ≡ Some y → x ≡ y
same_some x y e = cc

-- at two different places of a list of two stand the first and the second
pub pairs : {A : Type 0} (R : A → A → Type 0) (x y : A)
    → R x y → (i j : ℕ) (f g : A) → i < j → slice_get (x ∷ y ∷ []) i ≡ Some f → slice_get (x ∷ y ∷ []) j ≡ Some g
    → R f g
pairs {A} R x y related i j f g less at_i at_j =
    let second : j ≡ 1 = omega (arith, less, slice_get_within (x ∷ y ∷ []) j g at_j) in
    let first : i ≡ 0 = omega (arith, less, second) in
    let is_x : x ≡ f = same_some x f (subst (λ k. slice_get (x ∷ y ∷ []) k ≡ Some f) first at_i) in
    let is_y : y ≡ g = same_some y g (subst (λ k. slice_get (x ∷ y ∷ []) k ≡ Some g) second at_j) in
    subst (λ b. R f b) is_y (subst (λ a. R a y) is_x related)

-- two functions, each behind a chain of its own; three buffers, rings of two
abbrev pub narrow_by : (burst : ℕ) → IsFrom 1 1024 burst → Plan
narrow_by burst few = record {
  version = 1;
  ports = 1;
  transmit = 1;
  cores = 1;
  buffers = 3;
  ring = 2;
  output = 2;
  burst = burst;
  high = 2;
  low = 1;
  age = 0;
  window = 100000000;
  tick = 10000000;
  functions = forwarding 102 1 ∷ forwarding 103 2 ∷ [];
  chains = through 97 1 ∷ through 98 2 ∷ [];
  rules = [];
  default = record { 0 = 0 };
  kept = record {
    sizes_are = record {
      version = refl;
      ports = (omega arith, omega arith);
      transmit = (omega arith, omega arith);
      cores = (omega arith, omega arith);
      buffers = (omega arith, omega arith);
      ring = (omega arith, omega arith);
      output = (omega arith, omega arith);
      burst = few;
      low = omega arith;
      marks = omega arith;
      high = omega arith;
      age = omega arith;
      window = (omega arith, omega arith);
      tick = (omega arith, omega arith);
    };
    function_count = (omega arith, omega arith);
    functions_are =
        two (IsFunction 1) (forwarding 102 1) (forwarding 103 2) (is_forwarding 102 1 refl (omega arith) (omega arith))
        (is_forwarding 103 2 refl (omega arith) (omega arith));
    functions_differ = pairs AreDifferent (forwarding 102 1) (forwarding 103 2) differ_is;
    chain_count = (omega arith, omega arith);
    chains_are = two (IsChainPlan 1 (forwarding 102 1 ∷ forwarding 103 2 ∷ [])) (through 97 1) (through 98 2)
        (is_through 97 1 (forwarding 102 1 ∷ forwarding 103 2 ∷ []) refl (λ e. cc))
        (is_through 98 2 (forwarding 102 1 ∷ forwarding 103 2 ∷ []) refl (λ e. cc));
    chains_differ =
        pairs (λ c d. c.name ≢ d.name) (through 97 1) (through 98 2)
        (λ e. let n : ◌≡◌ {A = ℕ} 97 98 = cc in omega (arith, n));
    rule_count = omega arith;
    rules_are = All-nil (IsRule 2);
    default_is = omega arith;
  };
}

abbrev pub narrow : Plan
narrow = narrow_by 32 (omega arith, omega arith)

-- the same with a burst of one
abbrev pub hasty : Plan
hasty = narrow_by 1 (omega arith, omega arith)
