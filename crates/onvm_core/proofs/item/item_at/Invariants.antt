use Rattle.std.proofs.Common.{◌≡◌, ◌≤◌, length, reverse, take}
use Rattle.onvm_core.specs.History.{pushed_on}
use Rattle.onvm_core.proofs.item.item_at.Given as goal

abbrev pub invariant-loop-step : goal.invariant-loop-step
invariant-loop-step l = record {
  seen : l.seen ≡ length (pushed_on l.ring (reverse (take l.step-index l.steps)));
  few : l.seen ≤ l.at;
  small : l.seen ≤ l.step-index;
}
