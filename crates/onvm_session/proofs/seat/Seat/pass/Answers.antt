use Rattle.std.proofs.Common.{arith, subst, sym}
use Rattle.onvm_session.proofs.SeatPasses.{passed_once, told_max}
use Rattle.onvm_session.proofs.seat.Seat.pass.Goals as goal

pub returns : goal.returns
returns g c =
    passed_once g.N.NetFunction.acts g.N.NetFunction.state (g.C.Clock.may_be_now c.args.clock.now)
    (g.C.Clock.may_span c.args.clock.now) g.I.Source.name g.I.Source.left g.I.Source.takes c.args.board.now
    c.args.plan.now c.args.self.now c.pass-self.new.self c.pass-self.new.token c.pass-self.result c.max-now.result
    c.requires.ready
    (record {
      promise = c.pass-self.ensures.promise;
      in_order = c.pass-self.ensures.in_order;
      first = c.pass-self.ensures.first;
      bound = c.pass-self.ensures.bound;
    })
    c.pass-self.ensures.ready c.pass-self.ensures.same c.pass-self.ensures.empty_handed c.pass-self.ensures.upto
    c.pass-self.ensures.grows c.pass-self.ensures.fed c.pass-self.ensures.stopped (omega (arith, c.max-now.ensures))
    (subst (g.C.Clock.may_be_now c.args.clock.now) (sym c.max-now.ensures)
    (told_max (g.C.Clock.may_be_now c.args.clock.now) c.now.result c.args.self.now.latest c.now.ensures
    c.requires.ready.told))
