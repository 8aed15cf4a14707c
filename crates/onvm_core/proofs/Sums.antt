-- Sums below a number.
use Rattle.std.proofs.Common.{◌≡◌, ℕ, ◌+◌, ◌*◌, ◌<◌, ◌≤◌, zero, suc, Bool, true, false, inl, inr, refl, sym, ◌∙◌, ap, subst, arith}
use Rattle.std.specs.Prelude.{◌==◌, ◌&&◌}
use Rattle.std.proofs.lemmas.Bool.{cases_Bool, eqb-true, eqb-false, eq-eqb, ne_eqb, cases_order}
use Rattle.onvm_core.specs.Potential.{sum_below}

-- the number where the test holds, else 0
abbrev pub pick : Bool → ℕ → ℕ
pick true n = n
pick false n = 0

pub sum_same : (f g : ℕ → ℕ) (n : ℕ) → ((k : ℕ) → k < n → f k ≡ g k) → sum_below f n ≡ sum_below g n
sum_same f g zero h = refl
sum_same f g (suc n) h = rw (h n (omega arith), sum_same f g n (λ k less. h k (omega arith))) refl

pub sum_zero : (n : ℕ) → sum_below (λ k. 0) n ≡ 0
sum_zero zero = refl
sum_zero (suc n) = ap (λ (m : ℕ). 0 + m) (sum_zero n)

pub sum_none : (f : ℕ → ℕ) (n : ℕ) → ((k : ℕ) → k < n → f k ≡ 0) → sum_below f n ≡ 0
sum_none f n h = sum_same f (λ k. 0) n h ∙ sum_zero n

pub sum_plus : (f g : ℕ → ℕ) (n : ℕ) → sum_below (λ k. f k + g k) n ≡ sum_below f n + sum_below g n
sum_plus f g zero = refl
sum_plus f g (suc n) = omega (arith, sum_plus f g n)

-- a sum of sums, the other way round
pub sum_swap : (f : ℕ → ℕ → ℕ) (n m : ℕ)
    → sum_below (λ a. sum_below (f a) m) n ≡ sum_below (λ b. sum_below (λ a. f a b) n) m
sum_swap f zero m = sym (sum_zero m)
sum_swap f (suc n) m = omega (arith, sum_swap f n m, sum_plus (f n) (λ b. sum_below (λ a. f a b) n) m)

pub sum_apart : (g : ℕ → ℕ) (x n : ℕ) → n ≤ x → sum_below (λ k. pick (x == k) (g k)) n ≡ 0
sum_apart g x zero le = refl
sum_apart g x (suc n) le = rw (ne_eqb x n (λ e. omega arith)) (omega (arith, sum_apart g x n (omega arith)))

-- a sum that has only one term
pub sum_pick : (g : ℕ → ℕ) (x n : ℕ) → x < n → sum_below (λ k. pick (x == k) (g k)) n ≡ g x
sum_pick g x zero less = absurd (omega arith)
sum_pick g x (suc n) less =
    elim (cases_order x n) [
      | inl e ↦ rw (eq-eqb x n e) (omega (arith, ap g e, sum_apart g x n (omega arith)))
      | inr (inl before) ↦ rw (ne_eqb x n (λ e. omega arith)) (omega (arith, sum_pick g x n before))
      | inr (inr after) ↦ absurd (omega arith)
    ]

-- a term that is 1 at one number at most
pub sum_pick_one : (x n : ℕ) → sum_below (λ k. pick (x == k) 1) n ≤ 1
sum_pick_one x n =
    elim (cases_order x n) [
      | inl e ↦ omega (arith, sum_apart (λ k. 1) x n (omega (arith, e)))
      | inr (inl before) ↦ omega (arith, sum_pick (λ k. 1) x n before)
      | inr (inr after) ↦ omega (arith, sum_apart (λ k. 1) x n (omega (arith, after)))
    ]

-- the same under a test
pub sum_pick_under : (b : Bool) (x w n : ℕ) → x < n → sum_below (λ k. pick (b && (x == k)) w) n ≡ pick b w
sum_pick_under true x w n less = sum_pick (λ k. w) x n less
sum_pick_under false x w n less = sum_zero n

-- terms that are 0 add nothing
pub sum_extend : (f : ℕ → ℕ) (n r : ℕ) → n ≤ r → ((k : ℕ) → n ≤ k → f k ≡ 0) → sum_below f r ≡ sum_below f n
sum_extend f n zero le h = let e : n ≡ 0 = omega arith in rw e refl
sum_extend f n (suc r) le h =
    elim (cases_order n (suc r)) [
      | inl e ↦ rw e refl
      | inr (inl before) ↦ omega (arith, h r (omega arith), sum_extend f n r (omega arith) h)
      | inr (inr after) ↦ absurd (omega arith)
    ]

-- sums of larger terms, and those that reach this bound

pub sum_le : (f g : ℕ → ℕ) (n : ℕ) → ((k : ℕ) → k < n → f k ≤ g k) → sum_below f n ≤ sum_below g n
sum_le f g zero h = omega arith
sum_le f g (suc n) h = omega (arith, h n (omega arith), sum_le f g n (λ k less. h k (omega arith)))

pub sum_full : (f g : ℕ → ℕ) (n : ℕ) → ((k : ℕ) → k < n → f k ≤ g k) → sum_below f n ≡ sum_below g n
    → (k : ℕ) → k < n → f k ≡ g k
sum_full f g zero h e k less = absurd (omega (arith, less))
sum_full f g (suc n) h e k less =
    let top : f n ≤ g n = h n (omega arith) in
    let rest : sum_below f n ≤ sum_below g n = sum_le f g n (λ k less. h k (omega arith)) in
    elim (cases_Bool (k == n)) [
      | inl met ↦
          subst (λ (m : ℕ). f m ≡ g m) (sym (eqb-true k n met)) (omega (arith, e, top, rest))
      | inr unmet ↦
          sum_full f g n (λ k less. h k (omega arith)) (omega (arith, e, top, rest)) k
          (omega (arith, less, eqb-false k n unmet))
    ]

pub sum_ones : (n : ℕ) → sum_below (λ k. 1) n ≡ n
sum_ones zero = refl
sum_ones (suc n) = omega (arith, sum_ones n)

-- a term is at most the sum
pub term_below : (f : ℕ → ℕ) (k n : ℕ) → k < n → f k ≤ sum_below f n
term_below f k zero less = absurd (omega (arith, less))
term_below f k (suc n) less =
    elim (cases_Bool (k == n)) [
      | inl met ↦ let same : f k ≡ f n = ap f (eqb-true k n met) in omega (arith, same)
      | inr unmet ↦ omega (arith, term_below f k n (omega (arith, less, eqb-false k n unmet)))
    ]

-- a multiple, with something more
pub sum_more : (f g h : ℕ → ℕ) (n : ℕ) → ((k : ℕ) → k < n → 66 * f k ≡ 66 * g k + h k)
    → 66 * sum_below f n ≡ 66 * sum_below g n + sum_below h n
sum_more f g h zero all = omega arith
sum_more f g h (suc n) all = omega (arith, all n (omega arith), sum_more f g h n (λ k less. all k (omega arith)))

-- a sum of terms that are each spread over a table and a row: by the cells of the table and of the row
pub sum_regroup : (a : ℕ → ℕ → ℕ → ℕ) (b c : ℕ → ℕ → ℕ) (l m r n : ℕ)
    → sum_below (λ k. sum_below (λ i. sum_below (λ j. a i j k) m + b i k) l + sum_below (λ i. c i k) r) n
    ≡ sum_below (λ i. sum_below (λ j. sum_below (λ k. a i j k) n) m + sum_below (λ k. b i k) n) l
    + sum_below (λ i. sum_below (λ k. c i k) n) r
sum_regroup a b c l m r n =
    sum_plus (λ k. sum_below (λ i. sum_below (λ j. a i j k) m + b i k) l) (λ k. sum_below (λ i. c i k) r) n
    ∙ ap (λ (s : ℕ). s + sum_below (λ k. sum_below (λ i. c i k) r) n)
    (sum_swap (λ k i. sum_below (λ j. a i j k) m + b i k) n l ∙ sum_same
    (λ i. sum_below (λ k. sum_below (λ j. a i j k) m + b i k) n)
    (λ i. sum_below (λ j. sum_below (λ k. a i j k) n) m + sum_below (λ k. b i k) n) l
    (λ i less.
    sum_plus (λ k. sum_below (λ j. a i j k) m) (λ k. b i k) n
    ∙ ap (λ (s : ℕ). s + sum_below (λ k. b i k) n) (sum_swap (λ k j. a i j k) n m)))
    ∙ ap (λ (s : ℕ). sum_below (λ i. sum_below (λ j. sum_below (λ k. a i j k) n) m + sum_below (λ k. b i k) n) l + s)
    (sum_swap (λ k i. c i k) n r)
