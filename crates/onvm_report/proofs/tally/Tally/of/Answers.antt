use Rattle.std.proofs.Common.{◌∙◌, ◌+◌, ap}
use Rattle.onvm_report.specs.Tally.{one_more, total}
use Rattle.onvm_report.proofs.Tallies.{tally_more, total_more}
use Rattle.onvm_report.proofs.tally.Tally.of.Goals as goal

pub loop-record-preserved : goal.loop-record-preserved
loop-record-preserved c = record {
  is =
      c.add.ensures
      ∙ ap (one_more _) c.loop-record.invariant.is
      ∙ tally_more c.args.records.now c.loop-record.record-index _ c.loop-record-test.true;
  all =
      ap total c.add.ensures
      ∙ total_more _ c.loop-record.tally
      ∙ ap (λ n. n + 1) c.loop-record.invariant.all;
}
