use Rattle.tx_pass.specs.Examples.{Enters}
use Rattle.pass_bench.proofs.frames.Entrance.enter_all.Given as goal

abbrev pub invariant-loop-number : goal.invariant-loop-number
invariant-loop-number l = Enters l.board l.self.token l.self.part l.self.lane
