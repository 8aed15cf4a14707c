use Rattle.std.proofs.Common.{◌≡◌, ◌<◌, []}
use Rattle.onvm_base.specs.declared.ids.RingId.TheVariants.{Lane}
use Rattle.onvm_board.specs.Tokens.{IsHead, IsTail}
use Rattle.onvm_board.proofs.tests.buffers.finish.Given as goal

abbrev pub invariant-loop : goal.invariant-loop
invariant-loop l = record {
  tail : IsTail l.board l.tail.spot l.tail.token;
  head : IsHead l.board l.head.spot l.head.token;
  tail_ring : l.tail.spot.ring ≡ Lane (record { 0 = 0 }) 0;
  head_ring : l.head.spot.ring ≡ Lane (record { 0 = 0 }) 0;
  role : l.tail.token.role ≡ 0;
  head_role : l.head.token.role ≡ l.fn.head.token.role;
  few : l.tail.next < 102;
  tail_hand : l.tail.token.hand ≡ [];
  head_hand : l.head.token.hand ≡ [];
}
