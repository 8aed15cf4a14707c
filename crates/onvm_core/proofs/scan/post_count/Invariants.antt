use Rattle.std.proofs.Common.{◌≡◌, ◌≤◌, reverse, take}
use Rattle.onvm_core.specs.History.{post_count}
use Rattle.onvm_core.proofs.scan.post_count.Given as goal

abbrev pub invariant-loop-step : goal.invariant-loop-step
invariant-loop-step l = record {
  count : l.count ≡ post_count l.word (reverse (take l.step-index l.steps));
  few : l.count ≤ l.step-index;
}
