use Rattle.std.proofs.Common.{arith}
use Rattle.nf_route.proofs.Parting.{PartFirst-all, PartFirst-more}
use Rattle.nf_route.proofs.bounds.unsorted_bounds.Goals as goal

pub loop-entry-preserved : goal.loop-entry-preserved
loop-entry-preserved c =
    PartFirst-more _ _ _ _ _ c.in_ok-push_ends.ensures.kept c.in_ok-push_ends.ensures.part c.loop-entry.invariant

pub returns : goal.returns
returns c = PartFirst-all _ _ _ (omega arith) c.loop-entry.invariant
