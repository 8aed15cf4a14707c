use Rattle.std.proofs.Common.{◌≡◌, ◌++◌, take}
use Rattle.std.specs.List.{flat_map, zip}
use Rattle.onvm_report.specs.Report.{share_line}
use Rattle.onvm_report.proofs.ticks.add_shares.Given as goal

-- the lines so far
abbrev pub invariant-loop-at : goal.invariant-loop-at
invariant-loop-at l = l.lines ≡ l.initial.lines ++ flat_map share_line (take l.at (zip l.functions l.shares))
