use Rattle.onvm_session.proofs.ManagerRuns.{grow_then}
use Rattle.onvm_session.proofs.PhaseGoing.{on_to_then}
use Rattle.onvm_session.proofs.manager.Manager.make_phases.Goals as goal

pub returns-in_err-now-clause-grow : goal.returns-in_err-now-clause-grow
returns-in_err-now-clause-grow g c =
    grow_then g.I.Source.name g.I.Source.left g.I.Source.takes c.args.self.now c.loop.self c.phase.new.self
    c.loop.invariant.grow c.phase.ensures.grow

pub returns-then-is_over-clause-on : goal.returns-then-is_over-clause-on
returns-then-is_over-clause-on g c =
    on_to_then g.N.NetFunction.acts g.N.NetFunction.state (g.C.Clock.may_be_now c.args.clock.now)
    (g.C.Clock.may_span c.args.clock.now) c.args.plan.now g.I.Source.name g.I.Source.left g.I.Source.takes c.args.first
    c.loop.now c.in_ok-now.now c.args.self.now c.loop.self c.phase.new.self c.loop.invariant.on c.in_ok-now.ensures.on
    c.phase.ensures.grow

pub returns-then-is_over-clause-grow : goal.returns-then-is_over-clause-grow
returns-then-is_over-clause-grow g c =
    grow_then g.I.Source.name g.I.Source.left g.I.Source.takes c.args.self.now c.loop.self c.phase.new.self
    c.loop.invariant.grow c.phase.ensures.grow

pub loop-preserved : goal.loop-preserved
loop-preserved g c = record {
  manager = c.in_ok-now.ensures.manager;
  upto = c.in_ok-now.ensures.upto;
  told = c.in_ok-now.ensures.told;
  none = c.in_ok-now.ensures.none;
  room = c.in_ok-now.ensures.room;
  on =
      on_to_then g.N.NetFunction.acts g.N.NetFunction.state (g.C.Clock.may_be_now c.args.clock.now)
      (g.C.Clock.may_span c.args.clock.now) c.args.plan.now g.I.Source.name g.I.Source.left g.I.Source.takes
      c.args.first c.loop.now c.in_ok-now.now c.args.self.now c.loop.self c.phase.new.self c.loop.invariant.on
      c.in_ok-now.ensures.on c.phase.ensures.grow;
  grow =
      grow_then g.I.Source.name g.I.Source.left g.I.Source.takes c.args.self.now c.loop.self c.phase.new.self
      c.loop.invariant.grow c.phase.ensures.grow;
}
