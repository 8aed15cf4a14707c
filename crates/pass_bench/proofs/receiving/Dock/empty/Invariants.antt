use Rattle.pass_bench.specs.Receiving.{IsDock}
use Rattle.pass_bench.proofs.receiving.Dock.empty.Given as goal

abbrev pub invariant-loop : goal.invariant-loop
invariant-loop l = IsDock l.self
