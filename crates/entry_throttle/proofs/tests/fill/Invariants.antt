use Rattle.entry_throttle.specs.Examples.{Feeds}
use Rattle.entry_throttle.proofs.tests.fill.Given as goal

abbrev pub invariant-loop-number : goal.invariant-loop-number
invariant-loop-number l = record { feeds : Feeds l.board l.feeder l.tail l.token }
