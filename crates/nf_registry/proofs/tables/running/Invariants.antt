use Rattle.std.proofs.Common.{◌≡◌, ◌++◌, drop}
use Rattle.nf_registry.specs.Places.{residents, residents_from}
use Rattle.nf_registry.proofs.tables.running.Given as goal

abbrev pub invariant-loop-at : goal.invariant-loop-at
invariant-loop-at l = l.list ++ residents_from l.at l.core (drop l.at l.functions) ≡ residents l.core l.functions
