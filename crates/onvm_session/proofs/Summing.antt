-- Sums over the roles, of which only some count, and sums that are cut.
use Rattle.std.proofs.Common.{◌≡◌, ℕ, zero, suc, ◌+◌, ◌<◌, ◌≤◌, inl, inr, refl, ◌∙◌, ap, arith}
use Rattle.std.specs.Prelude.{min}
use Rattle.std.proofs.lemmas.Bool.{cases_order}
use Rattle.onvm_core.specs.Potential.{sum_below}
use Rattle.onvm_core.proofs.Sums.{sum_none}

-- the terms from n on are 0
pub sum_front : (f : ℕ → ℕ) (n r : ℕ) → n ≤ r → ((k : ℕ) → n ≤ k → k < r → f k ≡ 0) → sum_below f r ≡ sum_below f n
sum_front f n zero le none = let e : n ≡ 0 = omega arith in rw e refl
sum_front f n (suc r) le none =
    elim (cases_order n (suc r)) [
      | inl e ↦ rw e refl
      | inr (inl before) ↦
          omega (
            arith,
            none r (omega arith) (omega arith),
            sum_front f n r (omega arith) (λ k from less. none k from (omega arith)),
          )
      | inr (inr after) ↦ absurd (omega arith)
    ]

-- the terms below a are 0
pub sum_behind : (f : ℕ → ℕ) (a n r : ℕ) → r ≡ a + n → ((k : ℕ) → k < a → f k ≡ 0)
    → sum_below f r ≡ sum_below (λ k. f (a + k)) n
sum_behind f a zero r e none =
    let same : r ≡ a = omega (arith, e) in
    ap (sum_below f) same ∙ sum_none f a none
sum_behind f a (suc n) zero e none = absurd (omega (arith, e))
sum_behind f a (suc n) (suc r) e none =
    let same : r ≡ a + n = omega (arith, e) in
    omega (arith, ap f same, sum_behind f a n r same none)

cut_more : (most a s t : ℕ) → min most s ≡ min most t → min most (min most a + s) ≡ min most (a + t)
cut_more most a s t e = omega (arith, e)

-- a cut sum of cut terms
pub sum_cut : (most : ℕ) (f g : ℕ → ℕ) (n : ℕ) → ((k : ℕ) → k < n → f k ≡ min most (g k))
    → min most (sum_below f n) ≡ min most (sum_below g n)
sum_cut most f g zero cut = refl
sum_cut most f g (suc n) cut =
    ap (λ (k : ℕ). min most (k + sum_below f n)) (cut n (omega arith))
    ∙ cut_more most (g n) (sum_below f n) (sum_below g n) (sum_cut most f g n (λ k less. cut k (omega arith)))
