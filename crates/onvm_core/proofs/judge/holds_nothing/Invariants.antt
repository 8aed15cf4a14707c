use Rattle.std.proofs.Common.{ℕ, ◌<◌, ◌≢◌, reverse}
use Rattle.onvm_core.specs.declared.place.Place.TheVariants.{Role}
use Rattle.onvm_core.specs.History.{place_of}
use Rattle.onvm_core.proofs.judge.holds_nothing.Given as goal

abbrev pub invariant-loop-buf : goal.invariant-loop-buf
invariant-loop-buf l = (k : ℕ) → k < l.buf → place_of k (reverse l.steps) ≢ Role l.role
