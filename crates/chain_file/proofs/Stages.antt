-- What the stages of a reading say of the file, once the top object, the functions and the chains are the file's.
use Rattle.std.proofs.Common.{◌≡◌, ℕ, ◌≤◌, List, length, None, codes, ap, ◌∙◌, subst, arith}
use Rattle.std.proofs.lemmas.List.{length-map}
use Rattle.serde_json.specs.Data.{Data}
use Rattle.onvm_base.specs.declared.limits.TheConstants.{MAX_CHAINS}
use Rattle.onvm_base.specs.declared.chain.ChainPlan.{ChainPlan}
use Rattle.onvm_base.specs.declared.function.FunctionPlan.{FunctionPlan}
use Rattle.chain_file.specs.declared.fault.FileFault.{FileFault}
use Rattle.chain_file.specs.declared.judged.Judged.{Judged}
use Rattle.chain_file.specs.declared.top.Sizes.{Sizes}
use Rattle.chain_file.specs.Chains.{chain_of}
use Rattle.chain_file.specs.File.{functions_of, chains_of, function_list, chain_list, sizes_of, function_cause_at, chain_cause_at, steps_cause_at, TellsFirst, TellsFirstChain, function_place, FunctionsAreRight, ChainsAreRight}
use Rattle.chain_file.specs.Top.{top_in}
use Rattle.chain_file.specs.Values.{under}

pub same_functions : (captures : ℕ) (guests : List (List ℕ)) (d : Data) (t : Judged Sizes) → t ≡ top_in captures d
    → functions_of t.value.cores guests (under (codes "functions") d) ≡ function_list captures guests d
same_functions captures guests d t e = ap (λ u. functions_of u.value.cores guests (under (codes "functions") d)) e

pub right_functions : (captures : ℕ) (guests : List (List ℕ)) (d : Data) (t : Judged Sizes) → t ≡ top_in captures d
    → ((k : ℕ) → function_cause_at t.value.cores guests (under (codes "functions") d) k ≡ None) → FunctionsAreRight captures guests d
right_functions captures guests d t e right =
    subst (λ u. (k : ℕ) → function_cause_at u.value.cores guests (under (codes "functions") d) k ≡ None) e right

pub told_functions : (captures : ℕ) (guests : List (List ℕ)) (d : Data) (t : Judged Sizes) (fault : FileFault) → t ≡ top_in captures d
    → TellsFirst function_place (function_cause_at t.value.cores guests (under (codes "functions") d)) fault
    → TellsFirst function_place (function_cause_at (sizes_of captures d).cores guests (under (codes "functions") d)) fault
told_functions captures guests d t fault e told =
    subst (λ u. TellsFirst function_place (function_cause_at u.value.cores guests (under (codes "functions") d)) fault) e told

pub same_chains : (captures : ℕ) (guests : List (List ℕ)) (d : Data) (t : Judged Sizes) (fs : List FunctionPlan) → t ≡ top_in captures d
    → fs ≡ function_list captures guests d → chains_of t.value.ports fs (under (codes "chains") d) ≡ chain_list captures guests d
same_chains captures guests d t fs e are =
    ap (λ u. chains_of u.value.ports fs (under (codes "chains") d)) e
    ∙ ap (λ gs. chains_of (sizes_of captures d).ports gs (under (codes "chains") d)) are

pub told_chains : (captures : ℕ) (guests : List (List ℕ)) (d : Data) (t : Judged Sizes) (fs : List FunctionPlan) (fault : FileFault)
    → t ≡ top_in captures d → fs ≡ function_list captures guests d → TellsFirstChain t.value.ports fs (under (codes "chains") d) fault
    → TellsFirstChain (sizes_of captures d).ports (function_list captures guests d) (under (codes "chains") d) fault
told_chains captures guests d t fs fault e are told =
    subst (λ gs. TellsFirstChain (sizes_of captures d).ports gs (under (codes "chains") d) fault) are
    (subst (λ u. TellsFirstChain u.value.ports fs (under (codes "chains") d) fault) e told)

pub right_chains : (captures : ℕ) (guests : List (List ℕ)) (d : Data) (t : Judged Sizes) (fs : List FunctionPlan)
    → t ≡ top_in captures d → fs ≡ function_list captures guests d
    → ((k : ℕ) → chain_cause_at t.value.ports fs (under (codes "chains") d) k ≡ None)
    → ((k j : ℕ) → steps_cause_at t.value.ports fs (under (codes "chains") d) k j ≡ None)
    → ChainsAreRight captures guests d
right_chains captures guests d t fs e are chains steps = record {
  chains = subst (λ gs. (k : ℕ) → chain_cause_at (sizes_of captures d).ports gs (under (codes "chains") d) k ≡ None) are
      (subst (λ u. (k : ℕ) → chain_cause_at u.value.ports fs (under (codes "chains") d) k ≡ None) e chains);
  steps = subst (λ gs. (k j : ℕ) → steps_cause_at (sizes_of captures d).ports gs (under (codes "chains") d) k j ≡ None) are
      (subst (λ u. (k j : ℕ) → steps_cause_at u.value.ports fs (under (codes "chains") d) k j ≡ None) e steps);
}

pub few_chains : (ports : ℕ) (fs : List FunctionPlan) (ds : List Data) (cs : List ChainPlan) → cs ≡ chains_of ports fs ds → length ds ≤ MAX_CHAINS → length cs ≤ MAX_CHAINS
few_chains ports fs ds cs are few = omega (arith, ap length are, length-map ds (λ d. chain_of ports fs d))
