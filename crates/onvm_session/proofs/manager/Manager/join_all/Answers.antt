use Rattle.std.proofs.Common.{◌∙◌, ap, refl, sym, subst, arith, length}
use Rattle.onvm_board.specs.Tokens.{BoardView, IsRoleOf}
use Rattle.onvm_session.proofs.PhaseSeats.{all_joined, all_left, joining_begins, joining_next, last_joinable}
use Rattle.onvm_session.proofs.manager.Manager.join_all.Goals as goal

pub loop-init : goal.loop-init
loop-init g c = record {
  joining =
      joining_begins c.args.seats.now.items c.args.self.now.roles.items c.args.self.now.first c.requires.none;
  counted = let long = c.args.seats.now.ok.0 in omega (arith, c.len-end.ensures, long);
  room = let none = ap length c.requires.none in omega (arith, none, c.requires.room);
  seats = refl;
  board = refl;
  registry = refl;
  layout = refl;
  feeds = refl;
}

pub join-requires-clause-role : goal.join-requires-clause-role
join-requires-clause-role g c =
    subst (λ (b : BoardView). IsRoleOf b c.take_last-role.result.token) (sym c.loop.invariant.board)
    (last_joinable c.args.self.now.board c.args.seats.now.items c.loop.seats.items c.take_last-role.new.self.items
    c.loop.self.roles.items c.take_last-role.result c.requires.joinable c.loop.invariant.joining.leaving
    c.take_last-role.ensures.items).0

pub join-requires-clause-empty_handed : goal.join-requires-clause-empty_handed
join-requires-clause-empty_handed g c =
    (last_joinable c.args.self.now.board c.args.seats.now.items c.loop.seats.items c.take_last-role.new.self.items
    c.loop.self.roles.items c.take_last-role.result c.requires.joinable c.loop.invariant.joining.leaving
    c.take_last-role.ensures.items).1

pub loop-preserved : goal.loop-preserved
loop-preserved g c =
    let was = c.loop.invariant in
    let shorter = c.take_last-role.ensures.len in
    let seats = c.loop.seats.ok.0 in
    let left = c.take_last-role.new.self.ok.0 in
    record {
      joining =
          joining_next c.args.seats.now.items c.loop.seats.items c.take_last-role.new.self.items
          c.loop.self.roles.items c.push_reserved.new.self.items c.take_last-role.result c.args.self.now.first
          c.loop.self.first _ was.joining c.take_last-role.ensures.items c.push_reserved.ensures.items
          (λ at seat found. (c.requires.joinable.each at seat found).1)
          (omega (arith, c.requires.kept, c.requires.joinable.many)) c.join.ensures.joined;
      counted = omega (arith, shorter, seats, left, was.counted);
      room =
          let longer = c.push_reserved.ensures.len in
          let roles = c.loop.self.roles.ok.0 in
          let now = c.push_reserved.new.self.ok.0 in
          let same = c.push_reserved.ensures.capacity in
          omega (arith, shorter, seats, left, longer, roles, now, same, was.room);
      seats = c.take_last-role.ensures.capacity ∙ was.seats;
      board = was.board;
      registry = was.registry;
      layout = was.layout;
      feeds = was.feeds;
    }

pub returns-clause-roles : goal.returns-clause-roles
returns-clause-roles g c =
    all_left c.args.seats.now.items c.loop.seats.items c.loop.self.roles.items c.loop.invariant.joining.leaving
    (omega (arith, c.loop.invariant.counted, c.loop-test.false, c.loop.auto.counter-end))

pub returns-clause-joined : goal.returns-clause-joined
returns-clause-joined g c =
    all_joined c.args.seats.now.items c.loop.seats.items c.loop.self.roles.items c.args.self.now.first
    c.loop.self.first c.loop.invariant.joining
    (omega (arith, c.loop.invariant.counted, c.loop-test.false, c.loop.auto.counter-end))
