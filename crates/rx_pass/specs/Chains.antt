-- Chains of a plan.
use Rattle.std.specs.Prelude.{ℕ, ◌<◌, length}
use Rattle.onvm_base.specs.declared.ids.ChainId.{ChainId}
use Rattle.onvm_base.specs.declared.plan.Plan.{Plan}

-- the plan has the chain
abbrev pub IsChainOfPlan : Plan → ChainId → Type 0
IsChainOfPlan plan chain = chain.0 < length plan.chains
