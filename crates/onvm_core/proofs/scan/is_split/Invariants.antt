use Rattle.std.proofs.Common.{◌≡◌, reverse, take}
use Rattle.onvm_core.specs.History.{is_split}
use Rattle.onvm_core.proofs.scan.is_split.Given as goal

abbrev pub invariant-loop-step : goal.invariant-loop-step
invariant-loop-step l = l.split ≡ is_split l.role (reverse (take l.step-index l.steps))
