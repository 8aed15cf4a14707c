-- What is read of a file without a cause is a plan.
use Rattle.std.proofs.Common.{◌≡◌, ℕ, ◌<◌, Bool, true, false, List, [], ◌∷◌, length, Option, Some, None, All, codes, if◌then◌else◌, refl, arith}
use Rattle.std.specs.Prelude.{option_and_then}
use Rattle.std.proofs.lemmas.List.{length-map}
use Rattle.serde_json.specs.Data.{Data}
use Rattle.serde_json.specs.Find.{as_str, get}
use Rattle.onvm_base.specs.declared.limits.TheConstants.{MAX_CHAINS, MAX_FUNCTIONS, MAX_RULES}
use Rattle.onvm_base.specs.declared.chain.ChainPlan.{ChainPlan}
use Rattle.onvm_base.specs.declared.function.FunctionPlan.{FunctionPlan}
use Rattle.onvm_base.specs.declared.ids.ChainId.{ChainId}
use Rattle.onvm_base.specs.declared.rules.RulePlan.{RulePlan}
use Rattle.chain_file.specs.declared.top.Sizes.{Sizes}
use Rattle.onvm_base.specs.Plan.{AreTests, IsFrom, IsPlan, IsRule}
use Rattle.chain_file.specs.declared.fault.Cause.TheVariants.{Shape, Unknown}
use Rattle.chain_file.specs.Chains.{chain_of, place_of}
use Rattle.chain_file.specs.File.{ChainsAreRight, FunctionsAreRight, RulesAreRight, TopIsRight, chain_list, default_of, function_list, rule_cause_at, rule_list, rules_of, sizes_of}
use Rattle.chain_file.specs.Functions.{function_in}
use Rattle.chain_file.specs.Matches.{tests_in}
use Rattle.chain_file.specs.Rules.{chain_at, chain_at_place, chain_named, no_tests, rule_in}
use Rattle.chain_file.specs.Top.{lists_cause, list_or_none, rings_in, roles_in, times_in, top_in, top_keys}
use Rattle.chain_file.specs.Values.{is_name, list_at, must, name_at, only, under, wrong}
use Rattle.chain_file.proofs.KeptChains.{chains_differ, chains_right, place_within}
use Rattle.chain_file.proofs.KeptFunctions.{functions_differ, functions_right}
use Rattle.chain_file.proofs.KeptLists.{all_judged, list_at_right, mapped_length, no_cause, no_some}
use Rattle.chain_file.proofs.KeptTests.{tests_right}
use Rattle.chain_file.specs.File.{plan_sizes}
use Rattle.chain_file.proofs.Sizing.{are_sizes}
use Rattle.chain_file.proofs.Untold.{top_few}

-- ---- rules

placed : (cs : List ChainPlan) (o : Option ℕ) → ((k : ℕ) → o ≡ Some k → k < length cs) → (chain_at_place o).cause ≡ None
    → (chain_at_place o).value.0 < length cs
placed cs None h e = absurd (no_some Unknown e)
placed cs (Some k) h e = h k refl

named_by : (cs : List ChainPlan) (name : List ℕ) (test : Bool)
    → (if test then chain_at_place (place_of cs name) else wrong Shape (record { 0 = 0 })).cause ≡ None
    → (if test then chain_at_place (place_of cs name) else wrong Shape (record { 0 = 0 })).value.0 < length cs
named_by cs name true e = placed cs (place_of cs name) (place_within cs name) e
named_by cs name false e = absurd (no_some Shape e)

text_named : (cs : List ChainPlan) (text : Option (List ℕ)) → (chain_named cs text).cause ≡ None → (chain_named cs text).value.0 < length cs
text_named cs None e = absurd (no_some Shape e)
text_named cs (Some name) e = named_by cs name (is_name name) e

pub chain_at_right : (cs : List ChainPlan) (key : List ℕ) (d : Data) → (chain_at cs key d).cause ≡ None → (chain_at cs key d).value.0 < length cs
chain_at_right cs key d e = text_named cs (option_and_then as_str (get key d)) e

must_tests : (o : Option Data) → (must tests_in no_tests o).cause ≡ None → AreTests (must tests_in no_tests o).value
must_tests None e = absurd (no_some Shape e)
must_tests (Some d) e = tests_right d e

rule_right : (cs : List ChainPlan) (d : Data) → (rule_in cs d).cause ≡ None → IsRule (length cs) (rule_in cs d).value
unfolding rule_in
rule_right cs d e =
    let causes = only (codes "chain" ∷ codes "match" ∷ []) [] d ∷ (chain_at cs (codes "chain") d).cause
    ∷ (must tests_in no_tests (get (codes "match") d)).cause ∷ [] in
    record {
      chain = chain_at_right cs (codes "chain") d (no_cause causes e 1);
      tests = must_tests (get (codes "match") d) (no_cause causes e 2);
    }

rules_right : (cs : List ChainPlan) (ds : List Data) → ((k : ℕ) → rule_cause_at cs ds k ≡ None) → All (IsRule (length cs)) (rules_of cs ds)
rules_right cs ds none =
    all_judged (IsRule (length cs)) (λ d. (rule_in cs d).value) (λ before d. (rule_in cs d).cause)
    (λ before d e. rule_right cs d e) ds none

-- ---- the lists

record HasSome (d : Data) : Type 0 where
  functions : IsFrom 1 MAX_FUNCTIONS (length (under (codes "functions") d))
  chains : IsFrom 1 MAX_CHAINS (length (under (codes "chains") d))

top_some : (captures : ℕ) (d : Data) → (top_in captures d).cause ≡ None → HasSome d
unfolding top_in
top_some captures d e =
    let causes = only top_keys [] d ∷ (roles_in captures d).cause ∷ (rings_in d).cause ∷ (times_in d).cause ∷ lists_cause d ∷ [] in
    let lists = list_at 1 MAX_FUNCTIONS (get (codes "functions") d) ∷ list_at 1 MAX_CHAINS (get (codes "chains") d)
    ∷ list_or_none 0 MAX_RULES (get (codes "rules") d) ∷ (name_at (get (codes "default") d)).cause ∷ [] in
    let right = no_cause causes e 4 in
    record {
      functions = list_at_right 1 MAX_FUNCTIONS (get (codes "functions") d) (no_cause lists right 0);
      chains = list_at_right 1 MAX_CHAINS (get (codes "chains") d) (no_cause lists right 1);
    }

-- ---- the plan

pub plan_is_kept : (captures : ℕ) (guests : List (List ℕ)) (d : Data) → TopIsRight captures d → FunctionsAreRight captures guests d
    → ChainsAreRight captures guests d → RulesAreRight captures guests d → (default_of captures guests d).cause ≡ None
    → IsPlan (plan_sizes (sizes_of captures d)) (function_list captures guests d) (chain_list captures guests d)
    (rule_list captures guests d) (default_of captures guests d).value
plan_is_kept captures guests d top functions chains rules default =
    let sizes = are_sizes captures d top in
    let some = top_some captures d top in
    let few = top_few captures d top in
    let cores = (sizes_of captures d).cores in
    let ports = (sizes_of captures d).ports in
    let fs = function_list captures guests d in
    let cs = chain_list captures guests d in
    record {
      sizes_are = sizes;
      function_count = mapped_length (λ d. (function_in cores guests d).value) (under (codes "functions") d) 1 MAX_FUNCTIONS some.functions;
      functions_are = functions_right cores guests (under (codes "functions") d) sizes.cores.0 functions;
      functions_differ = functions_differ cores guests (under (codes "functions") d) functions;
      chain_count = mapped_length (λ d. chain_of ports fs d) (under (codes "chains") d) 1 MAX_CHAINS some.chains;
      chains_are = chains_right ports fs (under (codes "chains") d) sizes.ports.0 chains.chains chains.steps;
      chains_differ = chains_differ ports fs (under (codes "chains") d) chains.chains;
      rule_count = omega (arith, few.rules, length-map (under (codes "rules") d) (λ d. (rule_in cs d).value));
      rules_are = rules_right cs (under (codes "rules") d) rules;
      default_is = chain_at_right cs (codes "default") d default;
    }

-- what was read of each part is the plan
pub kept_by : (captures : ℕ) (guests : List (List ℕ)) (d : Data) (t : Sizes) (fs : List FunctionPlan) (cs : List ChainPlan)
    (rs : List RulePlan) (default : ChainId)
    → t ≡ sizes_of captures d → fs ≡ function_list captures guests d → cs ≡ chain_list captures guests d
    → rs ≡ rule_list captures guests d → default ≡ (default_of captures guests d).value
    → TopIsRight captures d → FunctionsAreRight captures guests d → ChainsAreRight captures guests d
    → RulesAreRight captures guests d → (default_of captures guests d).cause ≡ None
    → IsPlan (plan_sizes t) fs cs rs default
kept_by captures guests d t fs cs rs default is_t is_fs is_cs is_rs is_default top functions chains rules right =
    rw (is_t, is_fs, is_cs, is_rs, is_default) (plan_is_kept captures guests d top functions chains rules right)
