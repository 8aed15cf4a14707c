use Rattle.std.proofs.Common.{take}
use Rattle.nf_route.proofs.Ranging.{BeginAt}
use Rattle.nf_route.proofs.ranges.ranges_of.Given as goal

-- the ranges so far begin at the bounds that were looked at
abbrev pub invariant-loop-bound : goal.invariant-loop-bound
invariant-loop-bound l = BeginAt l.entries (take l.bound-index l.bound-items) l.ranges.items
