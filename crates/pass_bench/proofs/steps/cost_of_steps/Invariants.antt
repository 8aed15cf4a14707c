use Rattle.tx_pass.specs.Examples.{Enters, Handles}
use Rattle.pass_bench.specs.Steps.{Moves, Sends}
use Rattle.pass_bench.proofs.steps.cost_of_steps.Given as goal

abbrev pub invariant-loop : goal.invariant-loop
invariant-loop g l = record {
  enters : Enters l.board l.entrance.token l.entrance.part l.entrance.lane;
  first : Handles l.board l.first.token l.first.lane l.first.output;
  mover : Moves l.board l.mover.token l.mover.output l.mover.lane;
  second : Handles l.board l.second.token l.second.lane l.second.output;
  sender : Sends l.board l.sender.token l.sender.output;
}
