use Rattle.std.proofs.Common.{subst, sym}
use Rattle.onvm_promises.specs.Answers.{is_complete}
use Rattle.onvm_session.specs.Seats.{HasPassed}
use Rattle.onvm_session.proofs.SeatPasses.{passed_then, uncut}
use Rattle.onvm_session.proofs.seat.Seat.make_passes.Goals.{else-loop-number-test, then-loop-number-test+else-not-admits+then-is_cut_short}
use Rattle.onvm_session.proofs.seat.Seat.make_passes.Goals as goal

pub loop-number-preserved : goal.loop-number-preserved
loop-number-preserved g c = record {
  passed =
      passed_then g.N.NetFunction.acts g.N.NetFunction.state (g.C.Clock.may_be_now c.args.clock.now)
      (g.C.Clock.may_span c.args.clock.now) g.I.Source.name g.I.Source.left g.I.Source.takes c.args.board.now
      c.args.plan.now c.args.self.now c.loop-number.self c.pass.new.self c.loop-number.invariant.passed
      c.loop-number.invariant.complete c.pass.ensures;
  complete =
      uncut (is_complete c.pass.new.self.answer) c.is_cut_short.result c.is_cut_short.ensures c.if-is_cut_short.false;
}

pub returns : goal.returns
returns g c =
    elim c.loop-number-test.branch [
      | else-loop-number-test w ↦
          subst (HasPassed g.N.NetFunction.acts g.N.NetFunction.state (g.C.Clock.may_be_now c.args.clock.now)
          (g.C.Clock.may_span c.args.clock.now) g.I.Source.name g.I.Source.left g.I.Source.takes c.args.board.now
          c.args.plan.now c.args.self.now) (sym w.self-is) c.loop-number.invariant.passed
      | then-loop-number-test+else-not-admits+then-is_cut_short w ↦
          subst (HasPassed g.N.NetFunction.acts g.N.NetFunction.state (g.C.Clock.may_be_now c.args.clock.now)
          (g.C.Clock.may_span c.args.clock.now) g.I.Source.name g.I.Source.left g.I.Source.takes c.args.board.now
          c.args.plan.now c.args.self.now) (sym w.self-is)
          (passed_then g.N.NetFunction.acts g.N.NetFunction.state (g.C.Clock.may_be_now c.args.clock.now)
          (g.C.Clock.may_span c.args.clock.now) g.I.Source.name g.I.Source.left g.I.Source.takes c.args.board.now
          c.args.plan.now c.args.self.now c.loop-number.self w.pass.new.self c.loop-number.invariant.passed
          c.loop-number.invariant.complete w.pass.ensures)
    ]
