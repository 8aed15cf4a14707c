use Rattle.std.proofs.Common.{◌≡◌, ℕ, length, slice_get, Some}
use Rattle.onvm_base.specs.declared.chain.ChainPlan.{ChainPlan}
use Rattle.nf_registry.specs.Masks.{HasBits}
use Rattle.nf_registry.proofs.masks.masks_of.Given as goal

abbrev pub invariant-loop-chain : goal.invariant-loop-chain
invariant-loop-chain l = record {
  lengths : length l.masks.items ≡ l.chain-index;
  bits : (at : ℕ) (chain : ChainPlan) (mask : ℕ) → slice_get l.plan.chains at ≡ Some chain
      → slice_get l.masks.items at ≡ Some mask → HasBits chain.steps l.plan.functions mask;
}
