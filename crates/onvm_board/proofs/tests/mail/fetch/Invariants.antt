use Rattle.std.proofs.Common.{◌≡◌, []}
use Rattle.onvm_board.specs.Tokens.{IsHead, IsMailRing}
use Rattle.onvm_board.proofs.tests.mail.fetch.Given as goal

abbrev pub invariant-loop : goal.invariant-loop
invariant-loop l = record {
  head : IsHead l.board l.spot l.token;
  mail : IsMailRing l.spot.ring;
  role : l.token.role ≡ l.fn.end.token.role;
  hand : l.token.hand ≡ [];
}
