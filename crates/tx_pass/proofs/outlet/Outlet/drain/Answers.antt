use Rattle.std.proofs.Common.{ℕ, ◌+◌, ◌-◌, ◌<◌, true, false, ap, subst, refl, arith, nat_lt}
use Rattle.onvm_board.specs.Tokens.{TokenView}
use Rattle.tx_pass.specs.Keeping.{HasRoom}
use Rattle.tx_pass.proofs.Outlets.{fewer_room}
use Rattle.tx_pass.proofs.Stretches.{drain_as, drain_then, none_moved}
use Rattle.tx_pass.proofs.outlet.Outlet.drain.Goals as goal

pub loop-moved-init : goal.loop-moved-init
loop-moved-init c =
    let kept = c.args.self.now.kept in
    let burst : ℕ = c.args.plan.now.burst in record {
      moved =
          none_moved c.args.board.now c.args.plan.now c.args.now c.args.function c.args.token.now c.args.self.now
          c.requires.empty_handed;
      head = c.requires.head;
      ring = c.requires.ring;
      outlet = c.requires.outlet;
      empty_handed = c.requires.empty_handed;
      room = subst (λ n. HasRoom n kept) (omega arith) c.requires.room;
      rooms = λ n room. subst (λ m. HasRoom m kept) (omega arith) room;
    }

pub loop-moved-preserved : goal.loop-moved-preserved
loop-moved-preserved c =
    let was = c.loop-moved.self in
    let is = c.if-not-move_one.ensures in
    let burst : ℕ = c.args.plan.now.burst in
    let less : c.loop-moved.moved < burst = c.loop-moved-test.true in record {
      moved =
          drain_then c.args.board.now c.args.plan.now c.args.now c.args.function c.loop-moved.moved 1 false
          c.args.token.now c.loop-moved.token c.move_one.new.token c.args.self.now was c.move_one.new.self
          c.loop-moved.invariant.moved is.moved;
      head = is.head;
      ring = is.ring;
      outlet = is.outlet;
      empty_handed = ap (λ (t : TokenView). t.hand) is.moved.stretch.grew;
      room =
          is.room (burst - (c.loop-moved.moved + 1))
          (subst (λ m. HasRoom m was.kept) (omega (arith, less)) c.loop-moved.invariant.room);
      rooms = λ n room.
          is.room (n + (burst - (c.loop-moved.moved + 1)))
          (subst (λ m. HasRoom m was.kept) (omega (arith, less)) (c.loop-moved.invariant.rooms n room));
    }

pub returns-then-not-move_one-clause-moved : goal.returns-then-not-move_one-clause-moved
returns-then-not-move_one-clause-moved c =
    let n : ℕ = c.loop-moved.moved in
    let less : n < c.args.plan.now.burst = c.loop-moved-test.true in
    drain_as c.args.board.now c.args.plan.now c.args.now c.args.function (n + 0) n true
    (nat_lt n c.args.plan.now.burst) c.args.token.now c.move_one.new.token c.args.self.now c.move_one.new.self
    (omega arith) (λ e. refl)
    (drain_then c.args.board.now c.args.plan.now c.args.now c.args.function n 0 true c.args.token.now
    c.loop-moved.token c.move_one.new.token c.args.self.now c.loop-moved.self c.move_one.new.self
    c.loop-moved.invariant.moved c.if-not-move_one.ensures.moved)

pub returns-then-not-move_one-clause-room : goal.returns-then-not-move_one-clause-room
returns-then-not-move_one-clause-room c n room =
    let kept = c.loop-moved.self.kept in
    let burst : ℕ = c.args.plan.now.burst in
    let less : c.loop-moved.moved < burst = c.loop-moved-test.true in
    let left : HasRoom (n + (burst - c.loop-moved.moved)) kept = c.loop-moved.invariant.rooms n room in
    c.if-not-move_one.ensures.room n
    (fewer_room (n + (burst - c.loop-moved.moved)) (n + 1) kept (omega (arith, less)) left)

pub returns-clause-room : goal.returns-clause-room
returns-clause-room c n room =
    fewer_room (n + (c.args.plan.now.burst - c.loop-moved.moved)) n c.loop-moved.self.kept (omega arith)
    (c.loop-moved.invariant.rooms n room)
