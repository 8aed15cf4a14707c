use Rattle.std.proofs.Common.{◌≡◌, []}
use Rattle.onvm_board.specs.Tokens.{IsHead}
use Rattle.onvm_board.proofs.tests.buffers.drain.Given as goal

abbrev pub invariant-loop : goal.invariant-loop
invariant-loop l = record {
  head : IsHead l.board l.spot l.token;
  ring : l.spot.ring ≡ l.fn.end.spot.ring;
  role : l.token.role ≡ l.fn.end.token.role;
  hand : l.token.hand ≡ [];
}
