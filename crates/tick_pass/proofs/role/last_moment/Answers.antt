use Rattle.std.proofs.Common.{sym}
use Rattle.tick_pass.proofs.Tells.{last_moment_is}
use Rattle.tick_pass.proofs.role.last_moment.Goals as goal

pub returns-in-Some : goal.returns-in-Some
returns-in-Some c = sym (last_moment_is c.args.first c.args.ticks.now c.in-Some.tick.now (sym c.in-Some.ensures.value))
