use Rattle.std.proofs.Common.{true}
use Rattle.onvm_session.specs.Managers.{round_now}
use Rattle.onvm_session.specs.Runs.{any_moment}
use Rattle.onvm_session.proofs.ManagerRounds.{next_moment, upto_later}
use Rattle.onvm_session.proofs.ManagerRuns.{grow_then, on_then}
use Rattle.onvm_session.proofs.manager.Manager.make_rounds.Goals as goal

pub returns-in_err-round-clause-grow : goal.returns-in_err-round-clause-grow
returns-in_err-round-clause-grow g c =
    grow_then g.I.Source.name g.I.Source.left g.I.Source.takes c.args.self.now c.loop.self c.round.new.self
    c.loop.invariant.grow c.round.ensures.grow

pub returns-then-is_over-clause-on : goal.returns-then-is_over-clause-on
returns-then-is_over-clause-on g c =
    on_then g.N.NetFunction.acts g.N.NetFunction.state true any_moment (g.C.Clock.may_span c.args.clock.now)
    c.args.plan.now g.I.Source.name g.I.Source.left g.I.Source.takes c.args.self.now c.loop.self c.round.new.self
    c.loop.invariant.on c.in_ok-round.ensures.on c.round.ensures.grow

pub returns-then-is_over-clause-grow : goal.returns-then-is_over-clause-grow
returns-then-is_over-clause-grow g c =
    grow_then g.I.Source.name g.I.Source.left g.I.Source.takes c.args.self.now c.loop.self c.round.new.self
    c.loop.invariant.grow c.round.ensures.grow

pub loop-preserved : goal.loop-preserved
loop-preserved g c =
    let moment = next_moment c.loop.now c.saturating_add-now.result (round_now c.loop.self) (round_now c.round.new.self)
    c.loop.invariant.now c.in_ok-round.ensures.round c.saturating_add-now.ensures in
    record {
      manager = c.in_ok-round.ensures.manager;
      upto = λ r role found.
          upto_later c.loop.now c.saturating_add-now.result role moment.1 (c.round.ensures.upto r role found);
      place = c.in_ok-round.ensures.place;
      now = moment.0;
      on =
          on_then g.N.NetFunction.acts g.N.NetFunction.state true any_moment (g.C.Clock.may_span c.args.clock.now)
          c.args.plan.now g.I.Source.name g.I.Source.left g.I.Source.takes c.args.self.now c.loop.self c.round.new.self
          c.loop.invariant.on c.in_ok-round.ensures.on c.round.ensures.grow;
      grow =
          grow_then g.I.Source.name g.I.Source.left g.I.Source.takes c.args.self.now c.loop.self c.round.new.self
          c.loop.invariant.grow c.round.ensures.grow;
    }
