use Rattle.std.proofs.Common.{◌≡◌, ◌-◌, ◌*◌, ◌≤◌, []}
use Rattle.desc_ring.specs.Arrays.{AreHeads}
use Rattle.tx_pass.specs.Keeping.{HasRoom}
use Rattle.tx_pass.specs.Moving.{IsOutletOf}
use Rattle.tx_pass.specs.Passing.{AreDrained}
use Rattle.tx_pass.proofs.role.TxRole.drain_all.Given as goal

abbrev pub invariant-loop-f : goal.invariant-loop-f
invariant-loop-f l = record {
  drained : AreDrained l.board l.plan l.now l.f l.moved l.initial.token l.token l.initial.self.outlet l.self.outlet;
  number : l.token.role ≡ l.self.number;
  same : l.self.number ≡ l.initial.self.number;
  heads : AreHeads l.board l.self.heads.items l.token;
  outlet : IsOutletOf l.board l.self.outlet l.token;
  empty_handed : l.token.hand ≡ [];
  few : l.moved ≤ 1024 * l.f;
  room : HasRoom ((l.rings - l.f) * l.plan.burst) l.self.outlet.kept;
}
