use Rattle.std.proofs.Common.{◌∙◌, ℕ, ◌+◌, ◌-◌, ◌<◌, true, false, refl, arith, nat_lt}
use Rattle.tick_pass.proofs.Takes.{taken_as, taken_then}
use Rattle.tick_pass.proofs.mailbox.take_waiting.Goals as goal

pub returns-then-not-take_one-clause-taken : goal.returns-then-not-take_one-clause-taken
returns-then-not-take_one-clause-taken c =
    let n : ℕ = c.loop-taken.taken in
    taken_as c.args.function c.args.now (n + 0) n true (nat_lt n 64) c.args.token.now c.take_one.new.token
    c.args.samples.now.items c.take_one.new.samples.items (omega arith) (λ e. refl)
    (taken_then c.args.function c.args.now n 0 true c.args.token.now c.loop-taken.token c.take_one.new.token
    c.args.samples.now.items c.loop-taken.samples.items c.take_one.new.samples.items c.loop-taken.invariant.taken
    c.if-not-take_one.ensures.taken)

pub returns-then-not-take_one-clause-room : goal.returns-then-not-take_one-clause-room
returns-then-not-take_one-clause-room c n room =
    let less : c.loop-taken.taken < 64 = c.loop-taken-test.true in
    c.if-not-take_one.ensures.room n (omega (arith, less, c.loop-taken.invariant.rooms n room))

pub loop-taken-preserved : goal.loop-taken-preserved
loop-taken-preserved c =
    let n : ℕ = c.loop-taken.taken in
    let was = c.loop-taken.invariant in
    let is = c.if-not-take_one.ensures in
    let less : n < 64 = c.loop-taken-test.true in
    record {
      taken =
          taken_then c.args.function c.args.now n 1 false c.args.token.now c.loop-taken.token c.take_one.new.token
          c.args.samples.now.items c.loop-taken.samples.items c.take_one.new.samples.items was.taken is.taken;
      window = is.window;
      span = is.span ∙ was.span;
      mail = is.mail;
      ring = is.ring;
      room = is.room (64 - (n + 1)) (omega (arith, less, was.room));
      rooms = λ k room. is.room (k + (64 - (n + 1))) (omega (arith, less, was.rooms k room));
    }

pub returns-clause-room : goal.returns-clause-room
returns-clause-room c n room = omega (arith, c.loop-taken.invariant.rooms n room)
