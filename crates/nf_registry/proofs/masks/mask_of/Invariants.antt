use Rattle.std.proofs.Common.{◌≡◌, ◌<◌, ◌≤◌, ℕ, if◌then◌else◌, slice_get}
use Rattle.std.specs.Int.{bit_at}
use Rattle.nf_registry.specs.Masks.{names_of}
use Rattle.nf_registry.proofs.masks.mask_of.Given as goal

-- the bits below are right, and none is set from there on
abbrev pub invariant-loop-at : goal.invariant-loop-at
invariant-loop-at l = record {
  below : (k : ℕ) → k < l.at → bit_at l.mask k ≡ (if names_of l.steps (slice_get l.functions k) then 1 else 0);
  past : (k : ℕ) → l.at ≤ k → bit_at l.mask k ≡ 0;
}
