use Rattle.std.proofs.Common.{ap, refl, arith, length}
use Rattle.onvm_session.proofs.PhaseSeats.{all_left, leaving_begins, leaving_next}
use Rattle.onvm_session.proofs.manager.Manager.leave_all.Goals as goal

pub loop-init : goal.loop-init
loop-init g c = record {
  leaving = leaving_begins c.args.seats.now.items c.args.self.now.roles.items c.requires.none;
  counted = let long = c.args.seats.now.ok.0 in omega (arith, c.len-end.ensures, long);
  room = let none = ap length c.requires.none in omega (arith, none, c.requires.room);
  board = refl;
  feeds = refl;
}

pub loop-preserved : goal.loop-preserved
loop-preserved g c =
    let was = c.loop.invariant in
    let shorter = c.take_last-seat.ensures.len in
    let seats = c.loop.seats.ok.0 in
    let left = c.take_last-seat.new.self.ok.0 in
    record {
      leaving =
          leaving_next c.args.seats.now.items c.loop.seats.items c.take_last-seat.new.self.items
          c.loop.self.roles.items c.push_reserved.new.self.items c.take_last-seat.result was.leaving
          c.take_last-seat.ensures.items c.push_reserved.ensures.items;
      counted = omega (arith, shorter, seats, left, was.counted);
      room =
          let longer = c.push_reserved.ensures.len in
          let roles = c.loop.self.roles.ok.0 in
          let now = c.push_reserved.new.self.ok.0 in
          let same = c.push_reserved.ensures.capacity in
          omega (arith, shorter, seats, left, longer, roles, now, same, was.room);
      board = was.board;
      feeds = was.feeds;
    }

pub returns-clause-roles : goal.returns-clause-roles
returns-clause-roles g c =
    all_left c.args.seats.now.items c.loop.seats.items c.loop.self.roles.items c.loop.invariant.leaving
    (omega (arith, c.loop.invariant.counted, c.loop-test.false, c.loop.auto.counter-end))
