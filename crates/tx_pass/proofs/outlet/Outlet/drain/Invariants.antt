use Rattle.std.proofs.Common.{◌≡◌, ℕ, ◌+◌, ◌-◌, false, []}
use Rattle.onvm_base.specs.declared.ids.RingId.TheVariants.{Output}
use Rattle.desc_ring.specs.Ends.{IsHeadOf}
use Rattle.tx_pass.specs.Keeping.{HasRoom}
use Rattle.tx_pass.specs.Moving.{IsOutletOf}
use Rattle.tx_pass.specs.Passing.{IsDrain}
use Rattle.tx_pass.proofs.outlet.Outlet.drain.Given as goal

abbrev pub invariant-loop-moved : goal.invariant-loop-moved
invariant-loop-moved l = record {
  moved : IsDrain l.board l.plan l.now l.function l.moved false l.initial.token l.token l.initial.self l.self;
  head : IsHeadOf l.board l.head l.token;
  ring : l.head.spot.ring ≡ Output l.function;
  outlet : IsOutletOf l.board l.self l.token;
  empty_handed : l.token.hand ≡ [];
  room : HasRoom (l.plan.burst - l.moved) l.self.kept;
  rooms : (n : ℕ) → HasRoom (n + l.plan.burst) l.initial.self.kept → HasRoom (n + (l.plan.burst - l.moved)) l.self.kept;
}
