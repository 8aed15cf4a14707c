use Rattle.nf_catalog.proofs.Assembling.{AreFirst}
use Rattle.nf_catalog.proofs.assembly.units.Given as goal

abbrev pub invariant-loop-function : goal.invariant-loop-function
invariant-loop-function g l =
    AreFirst l.plan.functions l.fn.guests.items l.function-index l.units l.guests.items
