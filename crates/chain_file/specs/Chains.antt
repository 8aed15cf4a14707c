-- Chains and their steps.
use Rattle.std.specs.Prelude.{ℕ, ◌+◌, ◌-◌, ◌==◌, ◌&&◌, nat_le, if◌then◌else◌, Bool, not, ℤ, Option, Some, None, option_map, option_and_then, is_some, List, [], ◌∷◌, map, codes, bytes_eq}
use Rattle.std.specs.List.{list_any}
use Rattle.serde_json.specs.Data.{Data}
use Rattle.serde_json.specs.Find.{get, as_number, as_u64, as_i64}
use Rattle.onvm_base.specs.declared.limits.TheConstants.{MAX_CHAIN_STEPS}
use Rattle.onvm_base.specs.declared.chain.ChainStep.{ChainStep}
use Rattle.onvm_base.specs.declared.chain.ChainStep.TheVariants as step
use Rattle.onvm_base.specs.declared.chain.ChainPlan.{ChainPlan}
use Rattle.onvm_base.specs.declared.function.FunctionPlan.{FunctionPlan}
use Rattle.chain_file.specs.declared.fault.Cause.{Cause}
use Rattle.chain_file.specs.declared.fault.Cause.TheVariants.{Shape, Unknown, Twice}
use Rattle.chain_file.specs.declared.judged.Judged.{Judged}
use Rattle.chain_file.specs.Causes.{first_of, unless}
use Rattle.chain_file.specs.Kinds.{either}
use Rattle.chain_file.specs.Values.{right, wrong, number_in, of_one, list_at, name_at, under, only}

-- the place of the first chain of a name
abbrev pub place_of : List ChainPlan → List ℕ → Option ℕ
place_of [] name = None
place_of (chain ∷ chains) name = if bytes_eq chain.name name then Some 0 else option_map (λ n. n + 1) (place_of chains name)

abbrev pub has_service : List FunctionPlan → ℕ → Bool
has_service functions service = list_any (λ f. f.service == service) functions

abbrev pub no_service : Option ℤ → Cause
no_service None = Shape
no_service (Some z) = Unknown

-- a number is a service that a function has only up to 255
abbrev pub to_number : List FunctionPlan → ℕ → Judged ChainStep
to_number functions n = if nat_le n 255 && has_service functions n then right (step.To n) else wrong Unknown (step.To 0)

abbrev pub to_from : List FunctionPlan → Option ℕ → Option ℤ → Judged ChainStep
to_from functions (Some n) z = to_number functions n
to_from functions None z = wrong (no_service z) (step.To 0)

-- to a service that a function has
abbrev pub step_to : List FunctionPlan → Data → Judged ChainStep
step_to functions d = to_from functions (option_and_then as_u64 (as_number d)) (option_and_then as_i64 (as_number d))

-- out of a port that is there
abbrev pub step_out : (ports : ℕ) → Data → Judged ChainStep
step_out ports d = of_one (λ n. step.Out n) (number_in 0 (ports - 1) d)

abbrev pub step_target : (ports : ℕ) → List FunctionPlan → Data → Judged ChainStep
step_target ports functions d = either (step_to functions) (step_out ports) (get (codes "to") d) (get (codes "out") d)

unfoldable pub step_in : (ports : ℕ) → List FunctionPlan → Data → Judged ChainStep
step_in ports functions d = record {
  cause = first_of (only (codes "to" ∷ codes "out" ∷ []) [] d ∷ (step_target ports functions d).cause ∷ []);
  value = (step_target ports functions d).value;
}

abbrev pub chain_name : Data → Judged (List ℕ)
chain_name d = name_at (get (codes "name") d)

-- what is wrong with a chain behind these, its steps aside
unfoldable pub chain_cause : (before : List ChainPlan) → Data → Option Cause
chain_cause before d = first_of (
    only (codes "name" ∷ codes "steps" ∷ []) [] d
    ∷ (chain_name d).cause
    ∷ list_at 1 MAX_CHAIN_STEPS (get (codes "steps") d)
    ∷ unless (not (is_some (place_of before (chain_name d).value))) Twice
    ∷ []
    )

abbrev pub chain_of : (ports : ℕ) → List FunctionPlan → Data → ChainPlan
chain_of ports functions d = record {
  name = (chain_name d).value;
  steps = map (λ s. (step_in ports functions s).value) (under (codes "steps") d);
}
