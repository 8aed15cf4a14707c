use Rattle.std.proofs.Common.{◌≡◌, ◌+◌, ◌≤◌, length, reverse, take}
use Rattle.onvm_core.specs.History.{pushed_on, popped_from}
use Rattle.onvm_core.proofs.scan.ring_counts.Given as goal

abbrev pub invariant-loop-step : goal.invariant-loop-step
invariant-loop-step l = record {
  pushed : l.pushed ≡ length (pushed_on l.ring (reverse (take l.step-index l.steps)));
  popped : l.popped ≡ length (popped_from l.ring (reverse (take l.step-index l.steps)));
  few : l.pushed + l.popped ≤ l.step-index;
}
