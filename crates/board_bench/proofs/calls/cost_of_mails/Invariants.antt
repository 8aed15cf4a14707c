use Rattle.onvm_board.specs.Tokens.{IsHead, IsMailRing, IsTail}
use Rattle.board_bench.proofs.calls.cost_of_mails.Given as goal

abbrev pub invariant-loop : goal.invariant-loop
invariant-loop g l = record {
  tail : IsTail l.board l.mail.tail l.mail.core;
  head : IsHead l.board l.mail.head l.mail.tick;
  tail_ring : IsMailRing l.mail.tail.ring;
  head_ring : IsMailRing l.mail.head.ring;
}
