use Rattle.nf_route.proofs.Parting.{PartFirst}
use Rattle.nf_route.proofs.bounds.unsorted_bounds.Given as goal

-- the bounds so far part the prefixes that were looked at
abbrev pub invariant-loop-entry : goal.invariant-loop-entry
invariant-loop-entry l = PartFirst l.entries l.entry-index l.bounds.items
