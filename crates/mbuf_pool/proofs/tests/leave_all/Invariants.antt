use Rattle.std.proofs.Common.{◌≡◌, ◌≤◌, []}
use Rattle.desc_ring.specs.Ends.{IsHeadOf}
use Rattle.mbuf_pool.proofs.tests.leave_all.Given as goal

abbrev pub invariant-loop-number : goal.invariant-loop-number
invariant-loop-number l = record {
  role : l.token.role ≡ l.fn.token.role;
  board : l.token.board ≡ l.fn.token.board;
  head : IsHeadOf l.board l.lane l.token;
  hand : l.token.hand ≡ [];
  few : l.left ≤ l.number;
}
