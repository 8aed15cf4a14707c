-- Parts of the plan that the tests are about.
use Rattle.std.specs.Prelude.{ℕ, List, [], ◌∷◌}
use Rattle.onvm_base.specs.declared.chain.ChainPlan.{ChainPlan}
use Rattle.onvm_base.specs.declared.chain.ChainStep.TheVariants.{Out}
use Rattle.onvm_base.specs.declared.function.FunctionPlan.{FunctionPlan}
use Rattle.onvm_base.specs.declared.function.Kind.TheVariants.{Forward}

-- a function f, which forwards
abbrev pub one_function : List FunctionPlan
one_function =
    record {
      name = 102 ∷ [];
      service = 1;
      core = 0;
      kind = Forward;
      priority = 1;
      weight = 1024;
      cost = 100;
    }
    ∷ []

-- a chain with this name that leaves by port 0
abbrev pub chain_named : ℕ → ChainPlan
chain_named name = record { name = name ∷ []; steps = Out 0 ∷ [] }

-- a, and then b
abbrev pub two_chains : List ChainPlan
two_chains = chain_named 97 ∷ chain_named 98 ∷ []
