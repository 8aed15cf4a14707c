use Rattle.pass_bench.specs.Steps.{Sends}
use Rattle.pass_bench.proofs.steps.Sender.send_all.Given as goal

abbrev pub invariant-loop : goal.invariant-loop
invariant-loop l = Sends l.board l.self.token l.self.output
