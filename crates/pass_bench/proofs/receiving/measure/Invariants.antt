use Rattle.std.proofs.Common.{◌≡◌}
use Rattle.pass_bench.proofs.receiving.measure.Given as goal

abbrev pub invariant-loop-rules : goal.invariant-loop-rules
invariant-loop-rules l = l.stock.frames ≡ l.fn.stock.frames
