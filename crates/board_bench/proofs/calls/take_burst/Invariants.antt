use Rattle.std.proofs.Common.{◌≡◌, []}
use Rattle.board_bench.proofs.calls.take_burst.Given as goal

abbrev pub invariant-loop : goal.invariant-loop
invariant-loop l = record {
  board : l.token.board ≡ l.fn.token.board;
  role : l.token.role ≡ l.fn.token.role;
  hand : l.token.hand ≡ [];
}
