-- The last pushes are kept.
use Rattle.std.proofs.Common.{◌≡◌, ◌∙◌, sym, ap, refl, ℕ, ◌+◌, ◌-◌, ◌<◌, ◌≤◌, List, [], ◌∷◌, ◌++◌, length, drop, inl, inr, arith}
use Rattle.std.specs.Prelude.{get_or, slice_get, unwrap_or}
use Rattle.std.proofs.lemmas.Bool.{cases_lt}
use Rattle.std.proofs.lemmas.List.{length-append, length-drop, drop-append-le, append_assoc, drop-drop, append-nil, get_or-drop}
use Rattle.watermark.specs.Moments.{last_of, with_pushes, after_pushes, oldest_of, age_of}

last_of-few : (n : ℕ) (xs : List ℕ) → length xs ≤ n → last_of n xs ≡ xs
last_of-few n xs few = let none : length xs - n ≡ 0 = omega arith in rw none refl

-- the last ones with one more: where there were enough, the first of them goes
pub last_of-push : (n : ℕ) (xs : List ℕ) (x : ℕ) → 0 < n
    → last_of n (last_of n xs ++ x ∷ []) ≡ last_of n (xs ++ x ∷ [])
last_of-push n xs x some = elim (cases_lt (length xs) n) [
  | inl few ↦ ap (λ ys. last_of n (ys ++ x ∷ [])) (last_of-few n xs (omega arith))
  | inr many ↦
      let k = length xs - n in
      let left : length (drop k xs) ≡ n = omega (arith, length-drop k xs) in
      let one : length (drop k xs ++ x ∷ []) - n ≡ 1 = simp length-append (omega arith) in
      let all : length (xs ++ x ∷ []) - n ≡ k + 1 = simp length-append (omega arith) in
      ap (λ j. drop j (drop k xs ++ x ∷ [])) one
      ∙ sym (ap (drop 1) (drop-append-le k xs (x ∷ []) (omega arith)))
      ∙ drop-drop 1 k (xs ++ x ∷ [])
      ∙ sym (ap (λ j. drop j (xs ++ x ∷ [])) all)
]

pub last_of-nil : (n : ℕ) → last_of n [] ≡ []
last_of-nil n = let none : 0 - n ≡ 0 = omega arith in rw none refl

with_pushes_are : (high : ℕ) (xs ys : List ℕ) → 1 ≤ high
    → (with_pushes (record { high = high; moments = last_of high xs }) ys).moments ≡ last_of high (xs ++ ys)
with_pushes_are high xs [] some = ap (last_of high) (sym (append-nil xs))
with_pushes_are high xs (y ∷ ys) some =
    ap (λ (ms : List ℕ). (with_pushes (record { high = high; moments = ms }) ys).moments)
    (last_of-push high xs y (omega (arith, some)))
    ∙ with_pushes_are high (xs ++ y ∷ []) ys some
    ∙ ap (last_of high) (append_assoc xs (y ∷ []) ys)

pub after_pushes_are : (high : ℕ) (moments : List ℕ) → 1 ≤ high
    → (after_pushes high moments).moments ≡ last_of high moments
after_pushes_are high moments some =
    ap (λ (ms : List ℕ). (with_pushes (record { high = high; moments = ms }) moments).moments) (sym (last_of-nil high))
    ∙ with_pushes_are high [] moments some

first_or : (xs : List ℕ) → unwrap_or (slice_get xs 0) 0 ≡ get_or xs 0 0
first_or [] = refl
first_or (x ∷ xs) = refl

-- the oldest of them stands so many places from the back
pub oldest_of-last_of : (high : ℕ) (moments : List ℕ)
    → oldest_of (record { high = high; moments = last_of high moments }) ≡ get_or moments (length moments - high) 0
oldest_of-last_of high moments =
    first_or (last_of high moments)
    ∙ get_or-drop (length moments - high) moments 0 0
    ∙ ap (λ (k : ℕ). get_or moments k 0)
    (let k : ℕ = length moments - high in let e : k + 0 ≡ k = omega arith in e)

pub age_after_pushes : (high now : ℕ) (moments : List ℕ) → 1 ≤ high → high ≤ length moments
    → age_of now (after_pushes high moments) ≡ now - get_or moments (length moments - high) 0
age_after_pushes high now moments some enough =
    ap (λ (ms : List ℕ). now - oldest_of (record { high = high; moments = ms })) (after_pushes_are high moments some)
    ∙ ap (λ (m : ℕ). now - m) (oldest_of-last_of high moments)
