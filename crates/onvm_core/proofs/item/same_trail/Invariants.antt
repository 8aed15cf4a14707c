use Rattle.std.proofs.Common.{◌≡◌, ℕ, ◌<◌, length}
use Rattle.std.specs.Prelude.{slice_get}
use Rattle.onvm_core.proofs.item.same_trail.Given as goal

abbrev pub invariant-loop-at : goal.invariant-loop-at
invariant-loop-at l = record {
  same : (k : ℕ) → k < l.at → slice_get l.one k ≡ slice_get l.other k;
  long : length l.one ≡ length l.other;
  end : l.at-end ≡ length l.one;
}
