use Rattle.tick_pass.proofs.Residing.{IsPlaced}
use Rattle.tick_pass.proofs.loads.place_of.Given as goal

abbrev pub invariant-loop-other : goal.invariant-loop-other
invariant-loop-other l = IsPlaced l.core l.place l.other l.functions
