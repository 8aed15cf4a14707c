-- What a look records names no ring.
use Rattle.std.proofs.Common.{◌≡◌, ◌≢◌, ℕ, ◌*◌, ◌/◌, ◌%◌, ◌^◌, ◌<◌, ◌≤◌, inl, inr, ap, sym, ◌∙◌, arith, mod-lt}
use Rattle.std.specs.Prelude.{◌==◌, bit_and, min, IsBitSet}
use Rattle.std.specs.Int.{bit_at, trailing_zeros, w32}
use Rattle.std.proofs.lemmas.Bool.{cases_Bool, cases_order}
use Rattle.std.proofs.lemmas.Nat.{pow_pos, and_le_l}
use Rattle.std.proofs.lemmas.Nat.Bits.{and_pow, shr_and_one, bit_at-lt, bit_at-zero, bit_at_and, bit_at-trailing_zeros}
use Rattle.onvm_base.specs.declared.ids.FrameId.{FrameId}
use Rattle.onvm_core.specs.declared.layout.Layout.{Layout}
use Rattle.onvm_core.specs.Lawful.{NamesRingIn}
use Rattle.onvm_board.specs.declared.ask.Ask.{Ask}
use Rattle.onvm_board.specs.declared.ask.Ask.TheVariants.{Hold, Last}
use Rattle.onvm_board.specs.Asking.{record_of, masked_bits, IsLowestHeld}

pub judged_names : (layout : Layout) (ask : Ask) (frame : FrameId) (seen : ℕ)
    → NamesRingIn layout (record_of ask frame seen)
judged_names layout (Hold feeder mask) frame seen =
    elim (cases_Bool (masked_bits mask seen == 0)) [ inl met ↦ rw met tt | inr unmet ↦ rw unmet tt ]
judged_names layout Last frame seen =
    elim (cases_Bool (seen == 0)) [ inl met ↦ rw met tt | inr unmet ↦ rw unmet tt ]

-- Bits of a post that a mask asks for

pub bit_of_set : (n k : ℕ) → IsBitSet n k → bit_at n k ≡ 1
bit_of_set n k set =
    let b : ℕ = bit_at n k in
    let small : b < 2 = bit_at-lt n k in
    elim (cases_order b 0) [
      | inl none_there ↦
          absurd (set (and_pow n k ∙ ap (λ x. x * 2 ^ k) none_there
          ∙ (let p : ℕ = 2 ^ k in let goal : 0 * p ≡ 0 = omega arith in goal)))
      | inr (inl less) ↦ absurd (omega (arith, less))
      | inr (inr more) ↦ let one : b ≡ 1 = omega (arith, small, more) in one
    ]

pub set_of_bit : (n k : ℕ) → bit_at n k ≡ 1 → IsBitSet n k
set_of_bit n k one e =
    let p : ℕ = 2 ^ k in
    let above : 0 < p = pow_pos k in
    let flat : 1 * p ≡ 0 = sym (ap (λ x. x * p) one) ∙ sym (and_pow n k) ∙ e in
    absurd (omega (arith, above, flat))

-- the test `(n >> k) & 1`
pub set_of_shift : (n k : ℕ) → bit_and (n / 2 ^ k) 1 ≢ 0 → IsBitSet n k
set_of_shift n k more =
    let bit : ℕ = bit_at n k in
    let small : bit < 2 = bit_at-lt n k in
    let some : bit ≢ 0 = λ none. more (shr_and_one n k ∙ none) in
    set_of_bit n k (let one : bit ≡ 1 = omega arith in one)

both_bits : (mask seen k : ℕ) → bit_at (masked_bits mask seen) k ≡ min (bit_at (seen % 2 ^ 32) k) (bit_at mask k)
both_bits mask seen k = bit_at_and (seen % 2 ^ 32) mask k

-- a look that records nothing saw no bit of the mask
pub none_held : (mask seen k : ℕ) → masked_bits mask seen ≡ 0 → IsBitSet (seen % 2 ^ 32) k → IsBitSet mask k → ⊥
none_held mask seen k nothing raised asked =
    let one : bit_at (seen % 2 ^ 32) k ≡ 1 = bit_of_set (seen % 2 ^ 32) k raised in
    let two : bit_at mask k ≡ 1 = bit_of_set mask k asked in
    let zero_bit : bit_at (masked_bits mask seen) k ≡ 0 = ap (λ n. bit_at n k) nothing ∙ bit_at-zero k in
    absurd (omega (arith, both_bits mask seen k, one, two, zero_bit))

-- one that records a frame names the lowest function of the mask whose bit the post has
pub lowest_held : (mask seen : ℕ) → masked_bits mask seen ≢ 0
    → IsLowestHeld mask seen (trailing_zeros w32 (masked_bits mask seen))
lowest_held mask seen some_held =
    let held : ℕ = masked_bits mask seen in
    let le : held ≤ seen % 2 ^ 32 = and_le_l (seen % 2 ^ 32) mask in
    let fits : seen % 2 ^ 32 < 2 ^ 32 = mod-lt seen (omega arith) in
    let small : held < 2 ^ 32 = omega (arith, le, fits) in
    let found = bit_at-trailing_zeros w32 held (omega (arith, some_held)) small in
    let f : ℕ = trailing_zeros w32 held in
    let one : bit_at held f ≡ 1 = found.1 in
    let a : ℕ = bit_at (seen % 2 ^ 32) f in
    let b : ℕ = bit_at mask f in
    let both : 1 ≡ min a b = sym one ∙ both_bits mask seen f in
    let a_small : a < 2 = bit_at-lt (seen % 2 ^ 32) f in
    let b_small : b < 2 = bit_at-lt mask f in
    let a_one : a ≡ 1 = omega (arith, both, a_small, b_small) in
    let b_one : b ≡ 1 = omega (arith, both, a_small, b_small) in record {
      below = found.0;
      raised = set_of_bit (seen % 2 ^ 32) f a_one;
      asked = set_of_bit mask f b_one;
      lowest = λ k less raised asked.
          let x : bit_at (seen % 2 ^ 32) k ≡ 1 = bit_of_set (seen % 2 ^ 32) k raised in
          let y : bit_at mask k ≡ 1 = bit_of_set mask k asked in
          let z : bit_at held k ≡ 0 = found.2 k less in
          absurd (omega (arith, both_bits mask seen k, x, y, z));
    }
