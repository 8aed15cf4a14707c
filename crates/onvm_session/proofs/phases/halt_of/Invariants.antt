use Rattle.std.proofs.Common.{◌≡◌, ℕ, true, take}
use Rattle.std.specs.Prelude.{All, IfNone, Some, slice_get}
use Rattle.onvm_promises.specs.Answers.{is_complete}
use Rattle.onvm_promises.specs.declared.pass.Pass.TheVariants.{Stopped}
use Rattle.onvm_session.specs.declared.manager.Halt.TheVariants.{Fault}
use Rattle.onvm_session.specs.declared.seat.Seat.{Seat as SeatView}
use Rattle.onvm_session.proofs.phases.halt_of.Given as goal

abbrev pub invariant-loop-seat : goal.invariant-loop-seat
invariant-loop-seat g l = record {
  none : IfNone l.halt (All (λ seat. is_complete seat.answer ≡ true) (take l.seat-index l.seats));
  fault : l.halt ≡ Some Fault → (at : ℕ) × (seat : SeatView _ _) × (slice_get l.seats at ≡ Some seat)
      × (seat.answer ≡ Stopped);
}
