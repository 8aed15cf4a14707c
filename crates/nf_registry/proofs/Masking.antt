-- The bits of a mask, as one more function is looked at.
use Rattle.std.proofs.Common.{◌≡◌, ℕ, ◌+◌, ◌*◌, ◌%◌, ◌^◌, ◌<◌, ◌≤◌, ◌⊎◌, inl, inr, Bool, true, false, if◌then◌else◌, bit_or, sym, ap, ◌∙◌, arith, below_more}
use Rattle.std.specs.Int.{bit_at, w32}
use Rattle.std.proofs.lemmas.Bool.{cases_lt}
use Rattle.std.proofs.lemmas.Nat.Bits.{bit_at_set_same, bit_at_set_other}

-- the bit is the test's answer
abbrev pub IsBit : (ℕ → Bool) → ℕ → ℕ → Type 0
IsBit test mask k = bit_at mask k ≡ (if test k then 1 else 0)

module _ (test : ℕ → Bool) (mask at : ℕ) (few : at < 32) (holds : test at ≡ true) where
  pub below_set : ((k : ℕ) → k < at → IsBit test mask k)
      → (k : ℕ) → k < at + 1 → IsBit test (bit_or mask (1 * 2 ^ at % 2 ^ 32)) k
  below_set before =
      below_more (IsBit test (bit_or mask (1 * 2 ^ at % 2 ^ 32))) at
      (λ k less. bit_at_set_other w32 mask at few k (λ same. absurd (omega (arith, same, less))) ∙ before k less)
      (bit_at_set_same w32 mask at few ∙ ap (λ (b : Bool). if b then 1 else 0) (sym holds))

  pub past_set : ((k : ℕ) → at ≤ k → bit_at mask k ≡ 0)
      → (k : ℕ) → at + 1 ≤ k → bit_at (bit_or mask (1 * 2 ^ at % 2 ^ 32)) k ≡ 0
  past_set before k more =
      bit_at_set_other w32 mask at few k (λ same. absurd (omega (arith, same, more))) ∙ before k (omega (arith, more))

pub below_kept : (test : ℕ → Bool) (mask at : ℕ) → test at ≡ false → bit_at mask at ≡ 0
    → ((k : ℕ) → k < at → IsBit test mask k) → (k : ℕ) → k < at + 1 → IsBit test mask k
below_kept test mask at fails none before =
    below_more (IsBit test mask) at before (none ∙ ap (λ (b : Bool). if b then 1 else 0) (sym fails))

all_by : (test : ℕ → Bool) (mask at k : ℕ) → ((k : ℕ) → k < at → IsBit test mask k)
    → ((k : ℕ) → at ≤ k → bit_at mask k ≡ 0) → ((k : ℕ) → at ≤ k → test k ≡ false)
    → (k < at) ⊎ (at ≤ k) → IsBit test mask k
all_by test mask at k below past none (inl less) = below k less
all_by test mask at k below past none (inr more) =
    past k more ∙ ap (λ (b : Bool). if b then 1 else 0) (sym (none k more))

-- where the test fails from there on, all bits are right
pub all_bits : (test : ℕ → Bool) (mask at : ℕ) → ((k : ℕ) → k < at → IsBit test mask k)
    → ((k : ℕ) → at ≤ k → bit_at mask k ≡ 0) → ((k : ℕ) → at ≤ k → test k ≡ false) → (k : ℕ) → IsBit test mask k
all_bits test mask at below past none k = all_by test mask at k below past none (cases_lt k at)
