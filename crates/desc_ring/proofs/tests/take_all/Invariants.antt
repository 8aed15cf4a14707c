use Rattle.std.proofs.Common.{◌<◌}
use Rattle.desc_ring.specs.Ends.{IsMailHead}
use Rattle.desc_ring.proofs.tests.take_all.Given as goal

abbrev pub invariant-loop-value : goal.invariant-loop-value
invariant-loop-value l = record {
  mail : IsMailHead l.board l.mail l.token;
  few : l.taken < l.value;
}
