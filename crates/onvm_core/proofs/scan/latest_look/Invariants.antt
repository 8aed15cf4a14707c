use Rattle.std.proofs.Common.{◌≡◌, reverse, take}
use Rattle.onvm_core.specs.History.{latest_look}
use Rattle.onvm_core.proofs.scan.latest_look.Given as goal

abbrev pub invariant-loop-step : goal.invariant-loop-step
invariant-loop-step l = l.latest ≡ latest_look l.role (reverse (take l.step-index l.steps))
