use Rattle.std.proofs.Common.{◌≡◌, []}
use Rattle.onvm_base.specs.declared.ids.RingId.TheVariants.{Lane}
use Rattle.onvm_board.specs.Tokens.{IsTail}
use Rattle.board_bench.proofs.boards.fill.Given as goal

abbrev pub invariant-loop-number : goal.invariant-loop-number
invariant-loop-number l = record {
  tail : IsTail l.board l.spot l.token;
  ring : l.spot.ring ≡ Lane l.function 0;
  role : l.token.role ≡ 0;
  hand : l.token.hand ≡ [];
}
