use Rattle.std.proofs.Common.{◌≡◌, ◌++◌, take}
use Rattle.std.specs.List.{flat_map}
use Rattle.onvm_report.specs.Report.{tick_lines}
use Rattle.onvm_report.proofs.ticks.add_ticks.Given as goal

-- the lines of the ticks so far
abbrev pub invariant-loop-tick : goal.invariant-loop-tick
invariant-loop-tick l =
    l.lines ≡ l.initial.lines ++ flat_map (tick_lines l.functions) (take l.tick-index l.ticks)
