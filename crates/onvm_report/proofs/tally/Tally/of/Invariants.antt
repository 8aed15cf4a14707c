use Rattle.std.proofs.Common.{◌≡◌, take}
use Rattle.onvm_report.specs.Report.{tally_of}
use Rattle.onvm_report.specs.Tally.{total}
use Rattle.onvm_report.proofs.tally.Tally.of.Given as goal

-- the tally is that of the records so far
abbrev pub invariant-loop-record : goal.invariant-loop-record
invariant-loop-record l = record {
  is : l.tally ≡ tally_of (take l.record-index l.records);
  all : total l.tally ≡ l.record-index;
}
