use Rattle.std.proofs.Common.{◌≡◌, drop}
use Rattle.nf_registry.specs.Masks.{names}
use Rattle.nf_registry.proofs.masks.is_named.Given as goal

abbrev pub invariant-loop-step : goal.invariant-loop-step
invariant-loop-step l = names (drop l.step-index l.steps) l.service ≡ names l.steps l.service
