-- Numbers in order, with one more or one less.
use Rattle.std.proofs.Common.{◌≡◌, ◌∙◌, sym, ap, refl, ℕ, zero, suc, ◌+◌, ◌<◌, ◌≤◌, List, [], ◌∷◌, ◌++◌, length, get_or, inl, inr, cond, Result, Ok, Err, IsOk, is_ok, arith, ltb}
use Rattle.std.specs.List.{insert, remove}
use Rattle.std.specs.List.Sorted.{IsNonDecreasing, IsPartitionPoint, IsPermutation}
use Rattle.std.proofs.lemmas.Bool.{false≢true, cases_Bool, cases_lt, cases_order, lt-ltb, le-ltb}
use Rattle.std.proofs.lemmas.List.Edits.{get_or-remove_above, get_or-remove_below, length-remove}
use Rattle.std.proofs.lemmas.List.Sorted.{IsNonDecreasingBy-insert, IsPermutation-cons, IsPermutation-insert, IsPermutation-refl, IsPermutation-trans}
use Rattle.load_estimate.specs.Order.{insertion, in_order, upper_bound}

pub insert-upper_bound : (n : ℕ) (ms : List ℕ) → insert ms (upper_bound n ms) n ≡ insertion n ms
insert-upper_bound n [] = refl
insert-upper_bound n (m ∷ ms) = elim (cases_Bool (ltb n m)) [
  | inl less ↦ rw less refl
  | inr more ↦ rw more (ap (λ xs. m ∷ xs) (insert-upper_bound n ms))
]

-- what an insertion leaves that had room
pub insert-told : {A E : Type 0} (result : Result A E) (n : ℕ) (was now : List ℕ) (at : ℕ) → IsOk result
    → now ≡ cond (is_ok result) (insert was at n) was → at ≡ upper_bound n was → now ≡ insertion n was
insert-told (Ok a) n was now at ok is place = is ∙ ap (λ k. insert was k n) place ∙ insert-upper_bound n was
insert-told (Err e) n was now at ok is place = absurd (false≢true ok)

pub upper_bound-le : (n : ℕ) (ms : List ℕ) → upper_bound n ms ≤ length ms
upper_bound-le n [] = omega arith
upper_bound-le n (m ∷ ms) = elim (cases_Bool (ltb n m)) [
  | inl less ↦ rw less (omega arith)
  | inr more ↦ rw more (let less = upper_bound-le n ms in omega arith)
]

-- the last of equal ones is taken out again
pub upper_bound-insertion : (n : ℕ) (ms : List ℕ) → upper_bound n (insertion n ms) ≡ suc (upper_bound n ms)
upper_bound-insertion n [] = rw (le-ltb n n (omega arith)) refl
upper_bound-insertion n (m ∷ ms) = elim (cases_Bool (ltb n m)) [
  | inl less ↦ rw less (rw (le-ltb n n (omega arith)) (rw less refl))
  | inr more ↦ rw more (rw more (ap suc (upper_bound-insertion n ms)))
]

pub remove-insertion : (n : ℕ) (ms : List ℕ) → remove (insertion n ms) (upper_bound n ms) ≡ ms
remove-insertion n [] = refl
remove-insertion n (m ∷ ms) = elim (cases_Bool (ltb n m)) [
  | inl less ↦ rw less refl
  | inr more ↦ rw more (ap (λ xs. m ∷ xs) (remove-insertion n ms))
]

-- the order in which two come doesn't matter
insertion-greater : (a b : ℕ) → a < b → (ms : List ℕ) → insertion a (insertion b ms) ≡ insertion b (insertion a ms)
insertion-greater a b below [] = simp (lt-ltb a b below, le-ltb b a (omega arith)) refl
insertion-greater a b below (m ∷ ms) =
    let first = lt-ltb a b below in
    let last = le-ltb b a (omega arith) in
    elim (cases_lt b m) [
      | inl before ↦
          let other : a < m = omega arith in
          simp (first, last, lt-ltb b m before, lt-ltb a m other) refl
      | inr behind ↦ elim (cases_lt a m) [
        | inl before ↦ simp (last, le-ltb b m behind, lt-ltb a m before) refl
        | inr upto ↦
            simp (le-ltb b m behind, le-ltb a m upto) (ap (λ xs. m ∷ xs) (insertion-greater a b below ms))
      ]
    ]

pub insertion-insertion : (a b : ℕ) (ms : List ℕ) → insertion a (insertion b ms) ≡ insertion b (insertion a ms)
insertion-insertion a b ms = elim (cases_order a b) [
  | inl same ↦ rw same refl
  | inr apart ↦ elim apart [
    | inl below ↦ insertion-greater a b below ms
    | inr above ↦ sym (insertion-greater b a above ms)
  ]
]

pub in_order-push : (ns : List ℕ) (n : ℕ) → in_order (ns ++ n ∷ []) ≡ insertion n (in_order ns)
in_order-push [] n = refl
in_order-push (m ∷ ns) n =
    ap (insertion m) (in_order-push ns n) ∙ insertion-insertion m n (in_order ns)

-- what binary search answers
pub upper_bound-is : (n : ℕ) (ms : List ℕ) (at : ℕ) → at ≤ length ms
    → IsPartitionPoint (λ m. m ≤ n) (λ m. n < m) ms at → at ≡ upper_bound n ms
upper_bound-is n [] at le point = omega arith
upper_bound-is n (m ∷ ms) zero le point =
    let first : n < m = point.1 0 0 (omega arith) (omega arith) in
    rw (lt-ltb n m first) refl
upper_bound-is n (m ∷ ms) (suc at) le point =
    let first : m ≤ n = point.0 0 0 (omega arith) (omega arith) in
    rw (le-ltb n m first)
    (ap suc
    (upper_bound-is n ms at (omega arith) (
      λ k d from below. point.0 (suc k) d (omega arith) (omega arith),
      λ k d from below. point.1 (suc k) d (omega arith) (omega arith),
    )))

-- those before the bound are not above the number
below_bound : (n : ℕ) (ms : List ℕ) (k d : ℕ) → k < upper_bound n ms → get_or ms k d ≤ n
below_bound n [] k d lt = absurd (omega arith)
below_bound n (m ∷ ms) zero d lt = elim (cases_lt n m) [
  | inl less ↦
      let none : upper_bound n (m ∷ ms) ≡ 0 = simp (lt-ltb n m less) refl in
      absurd (omega arith)
  | inr upto ↦ upto
]
below_bound n (m ∷ ms) (suc k) d lt = elim (cases_lt n m) [
  | inl less ↦
      let none : upper_bound n (m ∷ ms) ≡ 0 = simp (lt-ltb n m less) refl in
      absurd (omega arith)
  | inr upto ↦
      let one : upper_bound n (m ∷ ms) ≡ suc (upper_bound n ms) = simp (le-ltb n m upto) refl in
      below_bound n ms k d (omega arith)
]

-- those behind it are not below the number
above_bound : (n : ℕ) (ms : List ℕ) → IsNonDecreasing ms → (k d : ℕ) → upper_bound n ms ≤ k → k < length ms
    → n ≤ get_or ms k d
above_bound n [] up k d from lt = absurd (omega arith)
above_bound n (m ∷ ms) up zero d from lt = elim (cases_lt n m) [
  | inl less ↦ omega arith
  | inr upto ↦
      let one : upper_bound n (m ∷ ms) ≡ suc (upper_bound n ms) = simp (le-ltb n m upto) refl in
      absurd (omega arith)
]
above_bound n (m ∷ ms) up (suc k) d from lt = elim (cases_lt n m) [
  | inl less ↦ let rise = up 0 (suc k) d (omega arith) lt in omega arith
  | inr upto ↦
      let one : upper_bound n (m ∷ ms) ≡ suc (upper_bound n ms) = simp (le-ltb n m upto) refl in
      above_bound n ms (λ i j e le less. up (suc i) (suc j) e (omega arith) (omega arith)) k d (omega arith)
      (omega arith)
]

-- one more in its place leaves them in order
pub IsNonDecreasing-insertion : (n : ℕ) (ms : List ℕ) → IsNonDecreasing ms → IsNonDecreasing (insertion n ms)
IsNonDecreasing-insertion n ms up =
    rw (sym (insert-upper_bound n ms))
    (IsNonDecreasingBy-insert (λ (m : ℕ). m) ms (upper_bound n ms) n up (upper_bound-le n ms) (below_bound n ms)
    (above_bound n ms up))

-- and so does one less
pub IsNonDecreasing-remove : (ms : List ℕ) (at : ℕ) → at < length ms → IsNonDecreasing ms
    → IsNonDecreasing (remove ms at)
IsNonDecreasing-remove ms at within up i j d le lt =
    let less = length-remove ms at within in
    elim (cases_lt i at) [
      | inl first ↦ elim (cases_lt j at) [
        | inl second ↦
            omega (
              arith,
              get_or-remove_below ms at d i first within,
              get_or-remove_below ms at d j second within,
              up i j d le (omega arith),
            )
        | inr second ↦
            omega (
              arith,
              get_or-remove_below ms at d i first within,
              get_or-remove_above ms at d j second within,
              up i (j + 1) d (omega arith) (omega arith),
            )
      ]
      | inr first ↦
          omega (
            arith,
            get_or-remove_above ms at d i first within,
            get_or-remove_above ms at d j (omega arith) within,
            up (i + 1) (j + 1) d (omega arith) (omega arith),
          )
    ]

pub IsNonDecreasing-in_order : (ns : List ℕ) → IsNonDecreasing (in_order ns)
IsNonDecreasing-in_order [] = λ i j d le lt. absurd (omega arith)
IsNonDecreasing-in_order (n ∷ ns) = IsNonDecreasing-insertion n (in_order ns) (IsNonDecreasing-in_order ns)

pub IsPermutation-in_order : (ns : List ℕ) → IsPermutation ns (in_order ns)
IsPermutation-in_order [] = IsPermutation-refl []
IsPermutation-in_order (n ∷ ns) =
    IsPermutation-trans (n ∷ ns) (n ∷ in_order ns) (insertion n (in_order ns))
    (IsPermutation-cons n ns (in_order ns) (IsPermutation-in_order ns))
    (rw (sym (insert-upper_bound n (in_order ns)))
    (IsPermutation-insert (in_order ns) (upper_bound n (in_order ns)) n))
