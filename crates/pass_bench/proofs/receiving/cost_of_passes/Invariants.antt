use Rattle.pass_bench.specs.Receiving.{IsDock}
use Rattle.pass_bench.proofs.receiving.cost_of_passes.Given as goal

abbrev pub invariant-loop : goal.invariant-loop
invariant-loop g l = IsDock l.dock
