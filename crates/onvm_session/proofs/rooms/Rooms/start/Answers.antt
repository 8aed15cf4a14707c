use Rattle.std.proofs.Common.{◌+◌, ◌≤◌, length, refl, ap, arith, vec_capacity, vec_len}
use Rattle.onvm_base.specs.declared.plan.Plan.{Plan}
use Rattle.onvm_board.specs.Tokens.{BoardView}
use Rattle.onvm_session.specs.declared.rooms.Rooms.{Rooms}
use Rattle.onvm_session.proofs.UnitLists.{stations_fit}
use Rattle.onvm_session.specs.Rooms.{AreRooms}
use Rattle.onvm_session.proofs.rooms.Rooms.start.Goals as goal

-- the list of roles has room for each role
all_fit : {I N : Type 0} (site : BoardView) (plan : Plan) (rooms : Rooms I N) → AreRooms site plan rooms
    → vec_len rooms.roles + vec_len rooms.receivers + vec_len rooms.senders + vec_len rooms.cores + 1
    ≤ vec_capacity rooms.roles
all_fit site plan rooms are =
    let none = ap length are.roles in
    let empty = rooms.roles.ok.0 in
    let receivers = rooms.receivers.ok.0 in
    let senders = rooms.senders.ok.0 in
    let cores = rooms.cores.ok.0 in
    omega (
      arith,
      none,
      empty,
      receivers,
      senders,
      cores,
      are.receivers.many,
      are.senders.many,
      are.cores.many,
      are.role_room,
    )

pub add_receivers-requires : goal.add_receivers-requires
add_receivers-requires g c =
    let on = c.requires.rooms in
    let fit = all_fit on.site c.args.plan.now c.args.self on.are in
    record {
      none = on.are.roles;
      room = omega (arith, fit);
      intakes = λ port room found. (on.are.receivers.each port room found).intake;
      fresh = c.requires.fresh;
    }

pub add_senders-requires : goal.add_senders-requires
add_senders-requires g c =
    let on = c.requires.rooms in
    let fit = all_fit on.site c.args.plan.now c.args.self on.are in
    record { room = omega (arith, fit, c.add_receivers.ensures.many, c.add_receivers.ensures.room) }

pub hand_out-requires : goal.hand_out-requires
hand_out-requires g c = record { units = c.requires.units; room = c.requires.rooms.are.units }

pub add_cores-requires : goal.add_cores-requires
add_cores-requires g c =
    let on = c.requires.rooms in
    let fit = all_fit on.site c.args.plan.now c.args.self on.are in
    record {
      room = omega (
        arith,
        fit,
        c.add_receivers.ensures.many,
        c.add_receivers.ensures.room,
        c.add_senders.ensures.many,
        c.add_senders.ensures.room,
      );
      lists = stations_fit on.site c.args.plan.now c.args.units c.args.self.cores.items c.hand_out.new.lists.items
          c.requires.units on.are.cores c.hand_out.ensures;
    }

pub add_ticker-requires : goal.add_ticker-requires
add_ticker-requires g c =
    let on = c.requires.rooms in
    let fit = all_fit on.site c.args.plan.now c.args.self on.are in
    omega (
      arith,
      fit,
      c.add_receivers.ensures.many,
      c.add_receivers.ensures.room,
      c.add_senders.ensures.many,
      c.add_senders.ensures.room,
      c.add_cores.ensures.many,
      c.add_cores.ensures.room,
    )

pub returns : goal.returns
returns g c = record {
  roles = λ site of ranges rooms.
      let plan = c.args.plan.now in
      let receivers = c.add_receivers.ensures.new site plan c.args.units c.args.first of rooms.receivers in
      let senders = c.add_senders.ensures.new site plan c.args.units c.args.feeds c.args.first rooms.senders receivers in
      let cores = c.add_cores.ensures.new site plan c.args.units c.args.feeds c.args.first of rooms.cores c.requires.units
      c.hand_out.ensures senders in
      let all = c.add_ticker.ensures site plan c.args.units c.args.feeds of rooms.ticker cores in
      record { many = omega (arith, all.many, of.ports, of.transmit, of.cores); each = all.each };
  feeds = refl;
}
