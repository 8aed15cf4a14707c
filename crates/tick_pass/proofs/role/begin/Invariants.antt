use Rattle.std.proofs.Common.{◌≤◌, vec_capacity}
use Rattle.desc_ring.specs.Arrays.{AreNew, new_mail, mail_of}
use Rattle.tick_pass.proofs.role.begin.Given as goal

abbrev pub invariant-loop-f : goal.invariant-loop-f
invariant-loop-f l = record {
  new : AreNew (new_mail l.board.layout) mail_of l.f l.mails.items;
  room : l.functions ≤ vec_capacity l.mails;
}
