use Rattle.std.proofs.Common.{◌≡◌, true}
use Rattle.onvm_promises.specs.Answers.{is_complete}
use Rattle.onvm_session.specs.Seats.{HasPassed}
use Rattle.onvm_session.proofs.seat.Seat.make_passes.Given as goal

-- its passes so far, none of which was cut short
abbrev pub invariant-loop-number : goal.invariant-loop-number
invariant-loop-number g l = record {
  passed : HasPassed g.N.NetFunction.acts g.N.NetFunction.state (g.C.Clock.may_be_now l.clock)
      (g.C.Clock.may_span l.clock) g.I.Source.name g.I.Source.left g.I.Source.takes l.board l.plan l.fn.self l.self;
  complete : is_complete l.self.answer ≡ true;
}
