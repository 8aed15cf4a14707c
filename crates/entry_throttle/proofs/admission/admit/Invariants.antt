use Rattle.std.proofs.Common.{◌≡◌}
use Rattle.desc_ring.specs.Ends.{LeavesEnds}
use Rattle.entry_throttle.specs.Admissions.{FoundNone}
use Rattle.entry_throttle.proofs.admission.admit.Given as goal

abbrev pub invariant-loop-feeder : goal.invariant-loop-feeder
invariant-loop-feeder l = record {
  none_found : FoundNone l.feeder l.mask l.fn.token l.token;
  board : l.token.board ≡ l.fn.token.board;
  role : l.token.role ≡ l.fn.token.role;
  ends : LeavesEnds l.board l.fn.token l.token;
  hand : l.token.hand ≡ l.fn.token.hand;
}
