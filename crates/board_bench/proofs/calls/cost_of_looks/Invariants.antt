use Rattle.std.proofs.Common.{◌≡◌}
use Rattle.board_bench.proofs.calls.cost_of_looks.Given as goal

abbrev pub invariant-loop : goal.invariant-loop
invariant-loop g l = record {
  board : l.token.board ≡ l.fn.token.board;
  role : l.token.role ≡ l.fn.token.role;
}
