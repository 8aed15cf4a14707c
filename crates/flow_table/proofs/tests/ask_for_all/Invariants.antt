use Rattle.std.proofs.Common.{◌≡◌}
use Rattle.flow_table.proofs.tests.ask_for_all.Given as goal

abbrev pub invariant-loop-source : goal.invariant-loop-source
invariant-loop-source g l = l.table ≡ l.fn.table
