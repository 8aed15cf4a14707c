use Rattle.std.proofs.Common.{◌≡◌, ◌⊎◌, ◌≤◌, ℕ, take}
use Rattle.std.specs.Prelude.{All, Some, slice_get}
use Rattle.onvm_session.specs.declared.seat.Seat.{Seat as SeatView}
use Rattle.onvm_session.proofs.phases.last_moment.Given as goal

abbrev pub invariant-loop-seat : goal.invariant-loop-seat
invariant-loop-seat g l = record {
  later : l.latest ≤ l.last;
  all : All (λ seat. seat.latest ≤ l.last) (take l.seat-index l.seats);
  one : (l.last ≡ l.latest)
      ⊎ ((at : ℕ) × (seat : SeatView _ _) × (slice_get l.seats at ≡ Some seat) × (l.last ≡ seat.latest));
}
