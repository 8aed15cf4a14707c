use Rattle.std.proofs.Common.{◌-◌, ◌*◌, ◌≤◌}
use Rattle.tick_pass.specs.Roles.{HasRoom, IsAtWork, KeepsTicks, logged}
use Rattle.tick_pass.specs.Taking.{HasTakenAll}
use Rattle.tick_pass.proofs.role.TickRole.take_samples.Given as goal

abbrev pub invariant-loop-f : goal.invariant-loop-f
invariant-loop-f l = record {
  taken : HasTakenAll l.f l.now l.taken l.initial.token l.token (logged l.initial.self) (logged l.self);
  few : l.taken ≤ 64 * l.f;
  role : IsAtWork l.board l.plan l.now l.token l.self;
  room : HasRoom ((l.functions - l.f) * 64) l.self.room.samples;
  ticks : KeepsTicks l.initial.self l.self;
}
