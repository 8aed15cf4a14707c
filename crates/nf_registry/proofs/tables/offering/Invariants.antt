use Rattle.std.proofs.Common.{◌≡◌, ◌++◌, drop}
use Rattle.onvm_base.specs.Services.{instances, instances_from}
use Rattle.nf_registry.proofs.tables.offering.Given as goal

abbrev pub invariant-loop-at : goal.invariant-loop-at
invariant-loop-at l =
    l.list ++ instances_from l.at l.service (drop l.at l.functions) ≡ instances l.service l.functions
