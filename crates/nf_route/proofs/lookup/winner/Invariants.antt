use Rattle.nf_route.proofs.Leading.{IsBest}
use Rattle.nf_route.proofs.lookup.winner.Given as goal

-- the best so far wins among the entries that were looked at
abbrev pub invariant-loop-entry : goal.invariant-loop-entry
invariant-loop-entry l = IsBest l.entries l.target l.entry-index l.best
