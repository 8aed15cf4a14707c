use Rattle.std.proofs.Common.{◌≡◌, length}
use Rattle.board_bench.proofs.locked.cells.Given as goal

abbrev pub invariant-loop-number : goal.invariant-loop-number
invariant-loop-number l = record {
  long : length l.cells.items ≡ l.number;
}
