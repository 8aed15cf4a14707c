use Rattle.std.proofs.Common.{◌≡◌, ◌∙◌, true, sym, subst}
use denote.Exit.{no}
use denote.Param.Send.{arg_send, arg_sync, param_send, param_sync}
use Rattle.std.proofs.lemmas.Option.{get_or_from_slice_get}
use Rattle.onvm_promises.specs.Answers.{is_complete}
use Rattle.onvm_session.specs.declared.seat.Seat.{Seat}
use Rattle.onvm_session.specs.Seats.{HasPassed, IsSeatReady}
use Rattle.onvm_session.proofs.Crossing.{seat_send}
use Rattle.onvm_session.proofs.Growing.{got_below}
use Rattle.onvm_session.proofs.phases.run_seats.Goals as goal

pub for_each_mut-requires-send-T : goal.for_each_mut-requires-send-T
for_each_mut-requires-send-T g c κs within =
    param_send _ _ (arg_send _ no _ (seat_send _ _ c.type_bounds.send-I c.type_bounds.send-N))

pub for_each_mut-requires-clause-accepts : goal.for_each_mut-requires-clause-accepts
for_each_mut-requires-clause-accepts g c κs within = λ i p less read. (
  subst (λ (seat : Seat g.row.I.Denot g.row.N.Denot).
      IsSeatReady g.N.NetFunction.acts g.N.NetFunction.state (g.C.Clock.may_be_now c.args.clock.now)
      (g.C.Clock.may_span c.args.clock.now) c.args.board.now c.args.plan.now seat) (sym read)
      (c.requires.ready i p.now less),
  (
    c.requires.registry,
    (
      subst (λ (seat : Seat g.row.I.Denot g.row.N.Denot). is_complete seat.answer ≡ true) (sym read)
          (c.requires.complete i p.now less),
      (
        param_send _ _ (arg_send _ no _ c.type_bounds.send-I),
        param_send _ _ (arg_send _ no _ c.type_bounds.send-N),
        param_sync _ _ (arg_sync _ no _ c.type_bounds.sync-R),
        param_sync _ _ (arg_sync _ no _ c.type_bounds.sync-C),
        param_sync _ _ (arg_sync _ no _ c.type_bounds.sync-G),
      ),
    ),
  ),
)

pub returns-clause-each : goal.returns-clause-each
returns-clause-each g c at was is found found_now =
    let changed = (c.for_each_mut.ensures at was (got_below c.args.seats.now at was found)).1 in
    subst (λ (seat : Seat g.row.I.Denot g.row.N.Denot).
    HasPassed g.N.NetFunction.acts g.N.NetFunction.state (g.C.Clock.may_be_now c.args.clock.now)
    (g.C.Clock.may_span c.args.clock.now) g.I.Source.name g.I.Source.left g.I.Source.takes c.args.board.now
    c.args.plan.now seat is) (changed.argument_is ∙ get_or_from_slice_get c.args.seats.now at was was found)
    (subst (λ (seat : Seat g.row.I.Denot g.row.N.Denot).
    HasPassed g.N.NetFunction.acts g.N.NetFunction.state (g.C.Clock.may_be_now c.args.clock.now)
    (g.C.Clock.may_span c.args.clock.now) g.I.Source.name g.I.Source.left g.I.Source.takes c.args.board.now
    c.args.plan.now changed.argument.now seat)
    (changed.left ∙ get_or_from_slice_get c.for_each_mut.new.s at is was found_now) changed.call)
