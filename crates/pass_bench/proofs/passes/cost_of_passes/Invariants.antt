use Rattle.tx_pass.specs.Examples.{Enters, Handles}
use Rattle.tx_pass.specs.Roles.{IsTxRole}
use Rattle.pass_bench.proofs.passes.cost_of_passes.Given as goal

abbrev pub invariant-loop : goal.invariant-loop
invariant-loop g l = record {
  enters : Enters l.board l.entrance.token l.entrance.part l.entrance.lane;
  first : Handles l.board l.first.token l.first.lane l.first.output;
  mover : IsTxRole l.board l.plan l.mover.token l.mover.role;
  second : Handles l.board l.second.token l.second.lane l.second.output;
  sender : IsTxRole l.board l.plan l.sender.token l.sender.role;
}
