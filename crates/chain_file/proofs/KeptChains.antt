-- The chains that are read keep the rules of a plan.
use Rattle.std.proofs.Common.{◌≡◌, ◌≢◌, ℕ, zero, suc, ◌+◌, ◌-◌, ◌≤◌, ◌<◌, Bool, true, false, not, nat_eq, nat_le, ◌&&◌, ◌||◌, List, [], ◌∷◌, length, take, slice_get, Option, Some, None, is_some, All, codes, bytes_eq, if◌then◌else◌, refl, sym, ap, ◌∙◌, subst, arith, ℤ}
use Rattle.std.specs.Prelude.{option_and_then, option_map}
use Rattle.serde_json.specs.Data.{Data}
use Rattle.serde_json.specs.Find.{as_i64, as_number, as_u64, get}
use Rattle.onvm_base.specs.declared.limits.TheConstants.{MAX_CHAIN_STEPS}
use Rattle.onvm_base.specs.declared.chain.ChainPlan.{ChainPlan}
use Rattle.onvm_base.specs.declared.chain.ChainStep.{ChainStep}
use Rattle.onvm_base.specs.declared.chain.ChainStep.TheVariants as step
use Rattle.onvm_base.specs.declared.function.FunctionPlan.{FunctionPlan}
use Rattle.onvm_base.specs.Plan.{IsChainPlan, IsStep}
use Rattle.onvm_base.specs.Services.{instances, instances_from}
use Rattle.chain_file.specs.declared.fault.Cause.{Cause}
use Rattle.chain_file.specs.declared.fault.Cause.TheVariants.{Shape, Twice, Unknown}
use Rattle.chain_file.specs.Causes.{unless}
use Rattle.chain_file.specs.Chains.{chain_cause, chain_name, chain_of, has_service, no_service, place_of, step_in, step_out, step_target, step_to, to_from}
use Rattle.chain_file.specs.File.{chain_cause_at, chain_cause_in, chains_of, step_cause_at, steps_cause_at}
use Rattle.chain_file.specs.Kinds.{either}
use Rattle.chain_file.specs.Values.{list_at, only, right, under, wrong}
use Rattle.chain_file.proofs.KeptFunctions.{text_differs}
use Rattle.chain_file.proofs.KeptLists.{all_from_places, all_judged, list_at_right, mapped_length, no_cause, no_some, same_some, slice_get-map, slice_get-map_back, slice_get-take, unless_none}
use Rattle.chain_file.proofs.KeptNames.{both_true, name_at_right}
use Rattle.chain_file.proofs.Ranges.{number_in-IsFrom}

-- ---- services

some_instance : (n service : ℕ) (f : FunctionPlan) (fs : List FunctionPlan) (same : Bool) → nat_eq f.service service ≡ same
    → (same || has_service fs service) ≡ true → (has_service fs service ≡ true → instances_from (n + 1) service fs ≢ [])
    → instances_from n service (f ∷ fs) ≢ []
some_instance n service f fs true is e rest none = let off : n ∷ instances_from (n + 1) service fs ≡ [] = rw is at none in cc
some_instance n service f fs false is e rest none = rest e (rw is at none)

offered : (n service : ℕ) (fs : List FunctionPlan) → has_service fs service ≡ true → instances_from n service fs ≢ []
offered n service [] e = λ none. let off : false ≡ true = e in cc
offered n service (f ∷ fs) e = some_instance n service f fs (nat_eq f.service service) refl e (offered (n + 1) service fs)

-- ---- steps

-- a step's rule, step by step
abbrev StepRule : (ports : ℕ) → List FunctionPlan → ChainStep → Type 0
StepRule ports functions (step.To service) = instances service functions ≢ []
StepRule ports functions (step.Out port) = port < ports

by_rule : (ports : ℕ) (functions : List FunctionPlan) (s : ChainStep) → StepRule ports functions s → IsStep ports functions s
by_rule ports functions s h = record {
  service = λ service e. subst (StepRule ports functions) e h;
  port = λ port e. subst (StepRule ports functions) e h;
}

to_by : (ports : ℕ) (functions : List FunctionPlan) (n : ℕ) (test : Bool) → (nat_le n 255 && has_service functions n) ≡ test
    → (if test then right (step.To n) else wrong Unknown (step.To 0)).cause ≡ None
    → StepRule ports functions (if test then right (step.To n) else wrong Unknown (step.To 0)).value
to_by ports functions n true is e = offered 0 n functions (both_true (nat_le n 255) (has_service functions n) is).1
to_by ports functions n false is e = absurd (no_some Unknown e)

to_from_right : (ports : ℕ) (functions : List FunctionPlan) (n : Option ℕ) (z : Option ℤ) → (to_from functions n z).cause ≡ None
    → StepRule ports functions (to_from functions n z).value
to_from_right ports functions (Some n) z e = to_by ports functions n (nat_le n 255 && has_service functions n) refl e
to_from_right ports functions None z e = absurd (no_some (no_service z) e)

out_right : (ports : ℕ) (functions : List FunctionPlan) (d : Data) → 1 ≤ ports → StepRule ports functions (step_out ports d).value
out_right ports functions d some = let within = number_in-IsFrom 0 (ports - 1) d (omega arith) in omega (arith, within.1)

either_right : (ports : ℕ) (functions : List FunctionPlan) (t o : Option Data) → 1 ≤ ports
    → (either (step_to functions) (step_out ports) t o).cause ≡ None
    → StepRule ports functions (either (step_to functions) (step_out ports) t o).value
either_right ports functions (Some d) None some e =
    to_from_right ports functions (option_and_then as_u64 (as_number d)) (option_and_then as_i64 (as_number d)) e
either_right ports functions None (Some d) some e = out_right ports functions d some
either_right ports functions None None some e = absurd (no_some Shape e)
either_right ports functions (Some d) (Some b) some e = absurd (no_some Shape e)

step_right : (ports : ℕ) (functions : List FunctionPlan) (d : Data) → 1 ≤ ports → (step_in ports functions d).cause ≡ None
    → IsStep ports functions (step_in ports functions d).value
unfolding step_in
step_right ports functions d some e =
    let causes = only (codes "to" ∷ codes "out" ∷ []) [] d ∷ (step_target ports functions d).cause ∷ [] in
    by_rule ports functions (step_target ports functions d).value
    (either_right ports functions (get (codes "to") d) (get (codes "out") d) some (no_cause causes e 1))

-- ---- one chain

abbrev chain_causes : (before : List ChainPlan) → Data → List (Option Cause)
chain_causes before d =
    only (codes "name" ∷ codes "steps" ∷ []) [] d
    ∷ (chain_name d).cause
    ∷ list_at 1 MAX_CHAIN_STEPS (get (codes "steps") d)
    ∷ unless (not (is_some (place_of before (chain_name d).value))) Twice
    ∷ []

record RightChain (before : List ChainPlan) (d : Data) : Type 0 where
  name : (chain_name d).cause ≡ None
  steps : list_at 1 MAX_CHAIN_STEPS (get (codes "steps") d) ≡ None
  once : is_some (place_of before (chain_name d).value) ≡ false

not_true : (b : Bool) → not b ≡ true → b ≡ false
not_true true e = absurd (grind arith)
not_true false e = refl

right_chain : (before : List ChainPlan) (d : Data) → chain_cause before d ≡ None → RightChain before d
unfolding chain_cause
right_chain before d e =
    let causes = chain_causes before d in
    record {
      name = no_cause causes e 1;
      steps = no_cause causes e 2;
      once = not_true (is_some (place_of before (chain_name d).value))
          (unless_none (not (is_some (place_of before (chain_name d).value))) Twice (no_cause causes e 3));
    }

chain_right : (ports : ℕ) (functions : List FunctionPlan) (before : List ChainPlan) (d : Data) → 1 ≤ ports
    → chain_cause before d ≡ None → ((j : ℕ) → step_cause_at ports functions (under (codes "steps") d) j ≡ None)
    → IsChainPlan ports functions (chain_of ports functions d)
chain_right ports functions before d some e none =
    let r = right_chain before d e in
    record {
      name = name_at_right (get (codes "name") d) r.name;
      length_of = mapped_length (λ s. (step_in ports functions s).value) (under (codes "steps") d) 1 MAX_CHAIN_STEPS
          (list_at_right 1 MAX_CHAIN_STEPS (get (codes "steps") d) r.steps);
      steps = all_judged (IsStep ports functions) (λ s. (step_in ports functions s).value)
          (λ others s. (step_in ports functions s).cause)
          (λ others s right. step_right ports functions s some right)
          (under (codes "steps") d) none;
    }

-- ---- all chains

pub chains_right : (ports : ℕ) (functions : List FunctionPlan) (ds : List Data) → 1 ≤ ports
    → ((k : ℕ) → chain_cause_at ports functions ds k ≡ None) → ((k j : ℕ) → steps_cause_at ports functions ds k j ≡ None)
    → All (IsChainPlan ports functions) (chains_of ports functions ds)
chains_right ports functions ds some chains steps =
    all_from_places (IsChainPlan ports functions) (chains_of ports functions ds) (λ k c e.
    let m = slice_get-map_back (λ d. chain_of ports functions d) ds k c e in
    let cause = sym (ap (option_and_then (chain_cause_in ports functions (take k ds))) m.here) ∙ chains k in
    subst (IsChainPlan ports functions) m.is
    (chain_right ports functions (chains_of ports functions (take k ds)) m.it some cause
    (λ j. sym (ap (option_and_then (λ d. step_cause_at ports functions (under (codes "steps") d) j)) m.here) ∙ steps k j)))

not_placed_by : (c : ChainPlan) (cs : List ChainPlan) (name : List ℕ) (same : Bool) → bytes_eq c.name name ≡ same
    → is_some (if same then Some 0 else option_map (λ n. n + 1) (place_of cs name)) ≡ false
    → (bytes_eq c.name name ≡ false) × (is_some (place_of cs name) ≡ false)
not_placed_by c cs name true is e = absurd (grind arith)
not_placed_by c cs name false is e = (is, mapped_none (place_of cs name) e)
  where
    mapped_none : (o : Option ℕ) → is_some (option_map (λ n. n + 1) o) ≡ false → is_some o ≡ false
    mapped_none None e = refl
    mapped_none (Some n) e = absurd (grind arith)

not_named : (cs : List ChainPlan) (name : List ℕ) (k : ℕ) (c : ChainPlan) → is_some (place_of cs name) ≡ false
    → slice_get cs k ≡ Some c → c.name ≢ name
not_named [] name k c e here = absurd (no_some c (sym here))
not_named (d ∷ cs) name zero c e here =
    let two = not_placed_by d cs name (bytes_eq d.name name) refl e in
    subst (λ b. b.name ≢ name) (same_some d c here) (text_differs d.name name two.0)
not_named (d ∷ cs) name (suc k) c e here =
    let two = not_placed_by d cs name (bytes_eq d.name name) refl e in
    not_named cs name k c two.1 here

pub chains_differ : (ports : ℕ) (functions : List FunctionPlan) (ds : List Data) → ((k : ℕ) → chain_cause_at ports functions ds k ≡ None)
    → (i j : ℕ) (b c : ChainPlan) → i < j → slice_get (chains_of ports functions ds) i ≡ Some b
    → slice_get (chains_of ports functions ds) j ≡ Some c → b.name ≢ c.name
chains_differ ports functions ds none i j b c less is_b is_c =
    let value = λ (d : Data). chain_of ports functions d in
    let made_b = slice_get-map_back value ds i b is_b in
    let made_c = slice_get-map_back value ds j c is_c in
    let before = chains_of ports functions (take j ds) in
    let cause = sym (ap (option_and_then (chain_cause_in ports functions (take j ds))) made_c.here) ∙ none j in
    let r = right_chain before made_c.it cause in
    let here : slice_get before i ≡ Some (value made_b.it) =
    slice_get-map value (take j ds) i made_b.it (slice_get-take ds i j made_b.it less made_b.here) in
    let unlike = not_named before (value made_c.it).name i (value made_b.it) r.once here in
    subst (λ (h : ChainPlan). b.name ≢ h.name) made_c.is
    (subst (λ (h : ChainPlan). h.name ≢ (value made_c.it).name) made_b.is unlike)

-- ---- places

more_place : (o : Option ℕ) (k n : ℕ) → ((m : ℕ) → o ≡ Some m → m < n) → option_map (λ m. m + 1) o ≡ Some k → k < suc n
more_place None k n h e = absurd (no_some k (sym e))
more_place (Some m) k n h e = let same : m + 1 ≡ k = same_some (m + 1) k e in let less = h m refl in omega (arith, same, less)

place_by : (cs : List ChainPlan) (name : List ℕ) (k : ℕ) (same : Bool) → ((m : ℕ) → place_of cs name ≡ Some m → m < length cs)
    → (if same then Some 0 else option_map (λ n. n + 1) (place_of cs name)) ≡ Some k → k < suc (length cs)
place_by cs name k true h e = let same : 0 ≡ k = same_some 0 k e in omega (arith, same)
place_by cs name k false h e = more_place (place_of cs name) k (length cs) h e

pub place_within : (cs : List ChainPlan) (name : List ℕ) (k : ℕ) → place_of cs name ≡ Some k → k < length cs
place_within [] name k e = absurd (no_some k (sym e))
place_within (c ∷ cs) name k e = place_by cs name k (bytes_eq c.name name) (λ m h. place_within cs name m h) e
