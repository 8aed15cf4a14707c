use Rattle.std.proofs.Common.{◌≡◌, ◌-◌, length, drop}
use Rattle.entry_throttle.specs.Throttles.{set_of}
use Rattle.entry_throttle.proofs.throttles.set_of.Given as goal

abbrev pub invariant-loop-back : goal.invariant-loop-back
invariant-loop-back l = record { set : l.set ≡ set_of (drop (length l.marks - l.back) l.marks) }
