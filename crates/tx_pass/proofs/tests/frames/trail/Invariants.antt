use Rattle.std.proofs.Common.{◌≡◌, length}
use Rattle.tx_pass.proofs.tests.frames.trail.Given as goal

abbrev pub invariant-loop : goal.invariant-loop
invariant-loop l = length l.trail ≡ l.counter
