use Rattle.std.proofs.Common.{◌≡◌, ◌+◌, Some, Option, true, take, refl, sym, ◌∙◌, subst}
use Rattle.std.specs.Prelude.{All, IfNone, slice_get}
use Rattle.std.proofs.lemmas.Option.{slice_get_read}
use Rattle.onvm_promises.specs.Answers.{is_complete}
use Rattle.onvm_session.specs.declared.manager.Halt.{Halt}
use Rattle.onvm_session.proofs.SeatLists.{moved, none_next, none_through}
use Rattle.onvm_session.proofs.phases.halt_of.Goals.{in-Stopped, in-Did}
use Rattle.onvm_session.proofs.phases.halt_of.Goals as goal

pub loop-seat-preserved : goal.loop-seat-preserved
loop-seat-preserved g c =
    let was = c.loop-seat.invariant in
    let found : slice_get c.args.seats.now c.loop-seat.seat-index ≡ Some c.seat-item.result =
    slice_get_read c.args.seats.now _ c.loop-seat.seat-index _ refl c.loop-seat-test.true c.seat-item.is in
    elim c.match-seat.branch [
      | in-Stopped w ↦ record {
        none =
            subst (λ (halt : Option Halt).
            IfNone halt (All (λ seat. is_complete seat.answer ≡ true)
            (take (c.loop-seat.seat-index + 1) c.args.seats.now))) (sym w.halt-is) tt;
        fault = λ e. (c.loop-seat.seat-index, c.seat-item.result, found, w.in-Stopped.is);
      }
      | in-Did w ↦ record {
        none =
            subst (λ (halt : Option Halt).
            IfNone halt (All (λ seat. is_complete seat.answer ≡ true)
            (take (c.loop-seat.seat-index + 1) c.args.seats.now))) (sym w.halt-is)
            (none_next c.loop-seat.halt c.loop-seat.seat-index c.args.seats.now c.seat-item.result c.loop-seat-test.true
            found (moved c.seat-item.result.answer w.in-Did.is) was.none);
        fault = λ e. was.fault (sym w.halt-is ∙ e);
      }
    ]

pub returns-clause-none : goal.returns-clause-none
returns-clause-none g c =
    none_through c.loop-seat.halt c.loop-seat.seat-index c.args.seats.now c.loop-seat-test.false
    c.loop-seat.invariant.none
