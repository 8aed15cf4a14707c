use Rattle.std.proofs.Common.{◌≡◌, reverse, take}
use Rattle.onvm_core.specs.History.{place_of}
use Rattle.onvm_core.proofs.scan.place_of.Given as goal

abbrev pub invariant-loop-step : goal.invariant-loop-step
invariant-loop-step l = l.there ≡ place_of l.buf.0 (reverse (take l.step-index l.steps))
