use Rattle.std.proofs.Common.{◌≡◌, ◌≤◌, []}
use Rattle.onvm_base.specs.declared.ids.RingId.TheVariants.{Lane}
use Rattle.desc_ring.specs.Ends.{IsTailOf}
use Rattle.mbuf_pool.proofs.tests.enter_all.Given as goal

abbrev pub invariant-loop-number : goal.invariant-loop-number
invariant-loop-number l = record {
  role : l.token.role ≡ l.fn.token.role;
  tail : IsTailOf l.board l.lane l.token;
  ring : l.lane.spot.ring ≡ Lane (record { 0 = 0 }) 0;
  hand : l.token.hand ≡ [];
  few : l.entered ≤ l.number;
}
