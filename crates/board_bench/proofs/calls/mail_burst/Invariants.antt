use Rattle.onvm_board.specs.Tokens.{IsHead, IsMailRing, IsTail}
use Rattle.board_bench.proofs.calls.mail_burst.Given as goal

abbrev pub invariant-loop-value : goal.invariant-loop-value
invariant-loop-value l = record {
  tail : IsTail l.board l.mail.tail l.mail.core;
  head : IsHead l.board l.mail.head l.mail.tick;
  tail_ring : IsMailRing l.mail.tail.ring;
  head_ring : IsMailRing l.mail.head.ring;
}
