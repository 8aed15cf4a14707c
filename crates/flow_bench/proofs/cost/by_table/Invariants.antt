use Rattle.std.proofs.Common.{◌≡◌}
use Rattle.flow_bench.proofs.cost.by_table.Given as goal

abbrev pub invariant-loop-one : goal.invariant-loop-one
invariant-loop-one l = l.table ≡ l.fn.table
