use Rattle.std.proofs.Common.{◌≡◌, ◌-◌, ◌≤◌, ◌++◌, length, take}
use Rattle.std.specs.Prelude.{map, replicate}
use Rattle.onvm_base.specs.declared.limits.TheConstants.{MAX_FUNCTIONS}
use Rattle.onvm_core.proofs.layout.Layout.of.Given as goal

abbrev pub invariant-loop-at : goal.invariant-loop-at
invariant-loop-at l = record {
  filled : l.core_of ≡ map (λ f. f.core) (take l.at l.plan.functions) ++ replicate (MAX_FUNCTIONS - l.at) 0;
  within : l.at ≤ length l.plan.functions;
}
