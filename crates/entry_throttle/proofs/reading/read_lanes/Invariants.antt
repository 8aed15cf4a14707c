use Rattle.std.proofs.Common.{◌≡◌, length}
use Rattle.onvm_core.specs.Logs.{Setting}
use Rattle.desc_ring.specs.Ends.{LeavesEnds}
use Rattle.entry_throttle.specs.Feeders.{AreEach}
use Rattle.entry_throttle.specs.Lanes.{AreOwnEnds, HasMarks, HasReadLanes, KeepsEnough, OnlyLooked}
use Rattle.entry_throttle.proofs.Lanes.{Changed}
use Rattle.entry_throttle.proofs.reading.read_lanes.Given as goal

abbrev pub invariant-loop-f : goal.invariant-loop-f
invariant-loop-f l = record {
  read : (setting : Setting) → HasMarks setting l.board.layout l.limits.high l.limits.low l.limits.age
      → HasReadLanes setting l.fn.token.role l.ages l.now l.f l.fn.marks l.marks l.fn.token.log l.token.log;
  changed : Changed l.fn.marks l.marks l.f l.changed;
  ends : AreOwnEnds l.board l.ends l.token;
  enough : AreEach (λ f kept. KeepsEnough l.token f l.limits.high kept) l.ages;
  leaves : LeavesEnds l.board l.fn.token l.token;
  looked : OnlyLooked l.fn.token l.token;
  long : length l.marks ≡ length l.fn.marks;
}
