use Rattle.pass_bench.specs.Steps.{Moves}
use Rattle.pass_bench.proofs.steps.Mover.move_all.Given as goal

abbrev pub invariant-loop : goal.invariant-loop
invariant-loop l = Moves l.board l.self.token l.self.output l.self.lane
