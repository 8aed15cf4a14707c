use Rattle.std.proofs.Common.{◌≡◌, ◌<◌, ◌∙◌, refl, sym, subst, arith, length}
use Rattle.onvm_core.specs.declared.step.Act.TheVariants.{Split}
use Rattle.onvm_core.specs.Layouts.{first_role}
use Rattle.onvm_board.specs.Tokens.{BoardView, split_token, token_after}
use Rattle.onvm_promises.specs.declared.pass.Pass.TheVariants.{Idle}
use Rattle.onvm_session.specs.declared.manager.Manager.{Manager}
use Rattle.onvm_session.specs.declared.seat.Seat.{Seat}
use Rattle.onvm_session.proofs.PhaseSeats.{IsSeatOfLast, all_seated, all_split, last_unsplit, seating_begins, seating_next}
use Rattle.onvm_session.proofs.manager.Manager.seat_all.Given.{Over}
use Rattle.onvm_session.proofs.manager.Manager.seat_all.Goals as goal

pub split-token-requires-clause-whole : goal.split-token-requires-clause-whole
split-token-requires-clause-whole g c =
    let seating = c.loop.invariant.seating in
    let number = c.len-number.ensures in
    let shorter = c.take_last-role.ensures.len in
    let long = c.loop.self.roles.ok.0 in
    let less : c.len-number.result < length c.loop.self.roles.items = omega (arith, number, shorter, long) in
    let known : c.len-number.result < first_role c.args.self.now.board.layout =
    omega (arith, less, seating.many, c.requires.many) in
    record {
      below = subst (λ (b : BoardView). c.len-number.result < first_role b.layout) (sym c.loop.invariant.board) known;
      joined =
          last_unsplit c.args.self.now c.loop.self c.args.latest c.loop.seats.items seating c.len-number.result less
          (c.requires.joined c.len-number.result known);
    }

pub loop-init : goal.loop-init
loop-init g c = record {
  seating = seating_begins c.args.self.now c.args.latest c.args.seats.now.items c.requires.none;
  counted = let long = c.args.self.now.roles.ok.0 in omega (arith, c.len-end.ensures, long);
  room = refl;
  roles = refl;
  board = refl;
  registry = refl;
  layout = refl;
  feeds = refl;
}

-- the manager and the seat behind a split
behind : (g : Over) → goal.After-push_reserved g → Manager g.row.I.Denot g.row.N.Denot
behind g c = record c.loop.self { first = c.split-token.new.token; roles = c.take_last-role.new.self }

seat_of : (g : Over) → goal.After-push_reserved g → Seat g.row.I.Denot g.row.N.Denot
seat_of g c = record {
  number = c.len-number.result;
  role = c.take_last-role.result;
  token = c.split-token.result;
  latest = c.args.latest;
  answer = Idle;
}

last_of : (g : Over) (c : goal.After-push_reserved g) → IsSeatOfLast c.loop.self (behind g c) c.args.latest (seat_of g c)
unfolding behind seat_of
last_of g c =
    let number : c.len-number.result ≡ length c.take_last-role.new.self.items =
    c.len-number.ensures ∙ c.take_last-role.new.self.ok.0 in
    record {
      roles = c.take_last-role.ensures.items;
      number_is = number;
      token = subst (λ (n : _). c.split-token.result ≡ split_token n c.loop.self.first) number c.split-token.ensures.role;
      first = subst (λ (n : _). c.split-token.new.token ≡ token_after (Split n) c.loop.self.first) number
          c.split-token.ensures.first;
      latest_is = refl;
      complete = refl;
    }

pub loop-preserved : goal.loop-preserved
unfolding behind seat_of
loop-preserved g c =
    let was = c.loop.invariant in
    record {
      seating =
          seating_next c.args.self.now c.loop.self c.args.latest c.loop.seats.items was.seating (behind g c)
          (seat_of g c) (last_of g c) c.push_reserved.new.self.items c.push_reserved.ensures.items;
      counted =
          let shorter = c.take_last-role.ensures.len in
          let long = c.loop.self.roles.ok.0 in
          let now = c.take_last-role.new.self.ok.0 in
          omega (arith, shorter, long, now, was.counted);
      room = c.push_reserved.ensures.capacity ∙ was.room;
      roles = c.take_last-role.ensures.capacity ∙ was.roles;
      board = was.board;
      registry = was.registry;
      layout = was.layout;
      feeds = was.feeds;
    }

pub returns-clause-seated : goal.returns-clause-seated
returns-clause-seated g c =
    all_seated c.args.self.now c.loop.self c.args.latest c.loop.seats.items c.loop.invariant.seating
    (omega (arith, c.loop.invariant.counted, c.loop-test.false, c.loop.auto.counter-end))

pub returns-clause-first : goal.returns-clause-first
returns-clause-first g c =
    all_split c.args.self.now c.loop.self c.args.latest c.loop.seats.items c.loop.invariant.seating
    (omega (arith, c.loop.invariant.counted, c.loop-test.false, c.loop.auto.counter-end))
