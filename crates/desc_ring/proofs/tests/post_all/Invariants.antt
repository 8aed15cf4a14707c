use Rattle.std.proofs.Common.{◌<◌}
use Rattle.desc_ring.specs.Ends.{IsMailTail}
use Rattle.desc_ring.proofs.tests.post_all.Given as goal

abbrev pub invariant-loop-value : goal.invariant-loop-value
invariant-loop-value l = record {
  mail : IsMailTail l.board l.mail l.token;
  few : l.posted < l.value;
}
