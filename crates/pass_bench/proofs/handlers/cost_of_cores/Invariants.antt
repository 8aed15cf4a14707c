use Rattle.onvm_promises.specs.Sampling.{AreTimed}
use Rattle.nf_exec.specs.Roles.{IsCoreRole}
use Rattle.tx_pass.specs.Examples.{Enters}
use Rattle.tx_pass.specs.Roles.{IsTxRole}
use Rattle.pass_bench.proofs.handlers.cost_of_cores.Given as goal

abbrev pub invariant-loop : goal.invariant-loop
invariant-loop g l = record {
  enters : Enters l.board l.entrance.token l.entrance.part l.entrance.lane;
  sends : IsTxRole l.board l.plan l.sender.token l.sender.role;
  handles : IsCoreRole g.N.NetFunction.acts g.N.NetFunction.state l.board l.plan l.handler.token l.handler.role;
  timed : AreTimed (g.C.Clock.may_span l.clock) l.plan l.handler.token.log;
}
