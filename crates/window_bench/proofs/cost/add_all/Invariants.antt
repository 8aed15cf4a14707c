use Rattle.std.proofs.Common.{◌≡◌}
use Rattle.window_bench.proofs.cost.add_all.Given as goal

-- all samples come at one moment
abbrev pub invariant-loop-time : goal.invariant-loop-time
invariant-loop-time l = l.window.latest ≡ 0
