use Rattle.std.proofs.Common.{◌≡◌, ◌++◌, take}
use Rattle.std.specs.List.{flat_map}
use Rattle.onvm_report.specs.Report.{record_line}
use Rattle.onvm_report.proofs.records.add_records.Given as goal

-- the lines so far
abbrev pub invariant-loop-item : goal.invariant-loop-item
invariant-loop-item l =
    l.lines ≡ l.initial.lines ++ flat_map (record_line l.functions) (take l.item-index l.item-items)
