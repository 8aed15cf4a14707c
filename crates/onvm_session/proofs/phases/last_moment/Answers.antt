use Rattle.std.proofs.Common.{◌≡◌, ◌≤◌, Some, refl, arith}
use Rattle.std.specs.Prelude.{slice_get}
use Rattle.std.proofs.lemmas.Option.{slice_get_read}
use Rattle.onvm_session.proofs.SeatLists.{all_through, latest_next, latest_one}
use Rattle.onvm_session.proofs.phases.last_moment.Goals as goal

pub loop-seat-preserved : goal.loop-seat-preserved
loop-seat-preserved g c =
    let was = c.loop-seat.invariant in
    let found : slice_get c.args.seats.now c.loop-seat.seat-index ≡ Some c.seat-item.result =
    slice_get_read c.args.seats.now _ c.loop-seat.seat-index _ refl c.loop-seat-test.true c.seat-item.is in
    record {
      later = omega (arith, was.later, c.max-last.ensures);
      all =
          latest_next c.loop-seat.last c.max-last.result c.loop-seat.seat-index c.args.seats.now c.seat-item.result
          c.max-last.ensures c.loop-seat-test.true found was.all;
      one =
          latest_one c.args.latest c.loop-seat.last c.max-last.result c.loop-seat.seat-index c.args.seats.now
          c.seat-item.result c.max-last.ensures found was.one;
    }

pub returns-clause-all : goal.returns-clause-all
returns-clause-all g c =
    all_through (λ seat. seat.latest ≤ c.loop-seat.last) c.loop-seat.seat-index c.args.seats.now
    c.loop-seat-test.false c.loop-seat.invariant.all
