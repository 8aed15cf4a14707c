use Rattle.std.proofs.Common.{◌≡◌, ◌<◌, []}
use Rattle.onvm_board.specs.Tokens.{IsTail, IsMailRing}
use Rattle.onvm_board.proofs.tests.mail.post.Given as goal

abbrev pub invariant-loop : goal.invariant-loop
invariant-loop l = record {
  tail : IsTail l.board l.spot l.token;
  mail : IsMailRing l.spot.ring;
  some : 0 < l.next;
  few : l.next < 102;
  role : l.token.role ≡ l.fn.end.token.role;
  hand : l.token.hand ≡ [];
}
