-- The plan that the tests are about.
use Rattle.std.specs.Prelude.{ℕ, List, [], ◌∷◌}
use Rattle.onvm_base.specs.declared.chain.ChainPlan.{ChainPlan}
use Rattle.onvm_base.specs.declared.chain.ChainStep.{ChainStep}
use Rattle.onvm_base.specs.declared.chain.ChainStep.TheVariants as step
use Rattle.onvm_base.specs.declared.function.FunctionPlan.{FunctionPlan}
use Rattle.onvm_base.specs.declared.function.Kind.TheVariants as kind

-- a function that forwards, whose name is one letter
abbrev pub function_of : (letter service core : ℕ) → FunctionPlan
function_of letter service core = record {
  name = letter ∷ [];
  service = service;
  core = core;
  kind = kind.Forward;
  priority = 1;
  weight = 1024;
  cost = 100;
}

-- of the services 5, 6 and 7. The second alone is on core 1
abbrev pub three_functions : List FunctionPlan
three_functions = function_of 97 5 0 ∷ function_of 98 6 1 ∷ function_of 99 7 0 ∷ []

abbrev pub chain_of : (letter : ℕ) → List ChainStep → ChainPlan
chain_of letter steps = record { name = letter ∷ []; steps = steps }

-- to service 5 and then to service 6; and out of port 0, with steps to the services 7 and 6 behind it
abbrev pub two_chains : List ChainPlan
two_chains = chain_of 120 (step.To 5 ∷ step.To 6 ∷ []) ∷ chain_of 121 (step.Out 0 ∷ step.To 7 ∷ step.To 6 ∷ []) ∷ []
