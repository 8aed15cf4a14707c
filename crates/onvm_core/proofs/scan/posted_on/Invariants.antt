use Rattle.std.proofs.Common.{◌≡◌, reverse, take}
use Rattle.onvm_core.specs.History.{posted_on}
use Rattle.onvm_core.proofs.scan.posted_on.Given as goal

abbrev pub invariant-loop-step : goal.invariant-loop-step
invariant-loop-step l = l.last ≡ posted_on l.word (reverse (take l.step-index l.steps))
