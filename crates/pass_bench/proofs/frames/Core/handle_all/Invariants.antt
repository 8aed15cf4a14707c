use Rattle.tx_pass.specs.Examples.{Handles}
use Rattle.pass_bench.proofs.frames.Core.handle_all.Given as goal

abbrev pub invariant-loop : goal.invariant-loop
invariant-loop l = Handles l.board l.self.token l.self.lane l.self.output
