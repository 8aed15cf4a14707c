use Rattle.std.proofs.Common.{◌≡◌, ◌<◌, []}
use Rattle.onvm_board.specs.Tokens.{IsTail}
use Rattle.onvm_board.proofs.tests.buffers.feed.Given as goal

abbrev pub invariant-loop : goal.invariant-loop
invariant-loop l = record {
  tail : IsTail l.board l.spot l.token;
  ring : l.spot.ring ≡ l.fn.end.spot.ring;
  few : l.next < 102;
  role : l.token.role ≡ 0;
  hand : l.token.hand ≡ [];
}
