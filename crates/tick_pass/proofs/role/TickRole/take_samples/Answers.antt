use Rattle.std.proofs.Common.{◌∙◌, arith, sym, subst, ℕ, ◌+◌, ◌-◌, ◌*◌, ◌<◌}
use Rattle.tick_pass.specs.Roles.{logged}
use Rattle.tick_pass.specs.Taking.{HasTakenAll}
use Rattle.tick_pass.proofs.Takes.{taken_next}
use Rattle.tick_pass.proofs.role.TickRole.take_samples.Goals as goal

pub loop-f-preserved : goal.loop-f-preserved
loop-f-preserved c =
    let f : ℕ = c.loop-f.f in
    let was = c.loop-f.invariant in
    let is = c.take_from.ensures in
    let one = c.from-taken.ensures in
    let less : f < c.len-functions.result = c.loop-f-test.true in
    record {
      taken =
          subst (λ k. HasTakenAll (f + 1) c.args.now (c.loop-f.taken + k) c.args.token.now c.take_from.new.token
          (logged c.args.self.now) (logged c.take_from.new.self)) (sym one)
          (taken_next f c.args.now c.loop-f.taken c.take_from.result c.args.token.now c.loop-f.token
          c.take_from.new.token (logged c.args.self.now) (logged c.loop-f.self) (logged c.take_from.new.self) is.few
          was.taken is.taken);
      few = omega (arith, was.few, is.few, one);
      role = is.role;
      room = is.room ((c.len-functions.result - (f + 1)) * 64) (omega (arith, less, was.room));
      ticks = record {
        first = is.ticks.first ∙ was.ticks.first;
        latest = is.ticks.latest ∙ was.ticks.latest;
        mail_room = omega (arith, is.ticks.mail_room, was.ticks.mail_room);
        core = is.ticks.core ∙ was.ticks.core;
        ticks = is.ticks.ticks ∙ was.ticks.ticks;
      };
    }
