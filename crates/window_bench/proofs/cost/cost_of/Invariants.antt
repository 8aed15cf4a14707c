use Rattle.std.proofs.Common.{◌≡◌}
use Rattle.window_bench.proofs.cost.cost_of.Given as goal

-- all samples come at one moment
abbrev pub invariant-loop : goal.invariant-loop
invariant-loop g l = l.window.latest ≡ 0
