use Rattle.std.proofs.Common.{◌≡◌}
use Rattle.board_bench.proofs.calls.post_burst.Given as goal

abbrev pub invariant-loop-value : goal.invariant-loop-value
invariant-loop-value l = record {
  board : l.token.board ≡ l.fn.token.board;
  role : l.token.role ≡ l.fn.token.role;
}
