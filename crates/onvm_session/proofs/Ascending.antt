-- A list in the order of its frames ascends, where each frame is there once at most.
use Rattle.std.proofs.Common.{◌≡◌, ℕ, zero, suc, ◌+◌, ◌*◌, ◌<◌, ◌≤◌, Bool, true, inl, inr, List, [], ◌∷◌, refl, sym, ◌∙◌, ap, subst, arith, Some, None}
use Rattle.std.specs.Prelude.{◌^◌, slice_get, IsPermutation}
use Rattle.std.specs.List.{slice_index_or}
use Rattle.std.specs.List.Sorted.{IsNonDecreasingBy}
use Rattle.std.proofs.lemmas.Bool.{cases_order, eq-eqb}
use Rattle.std.proofs.lemmas.List.Recursion.{is_sum_by}
use Rattle.std.proofs.lemmas.List.Sorted.{sum_by-IsPermutation}
use Rattle.std.proofs.lemmas.Option.{slice_get_within}
use Rattle.onvm_base.specs.declared.ids.FrameId.{FrameId}
use Rattle.onvm_core.specs.Frames.{same_frame}
use Rattle.onvm_core.specs.Places.{how_many, one_if}
use Rattle.onvm_core.proofs.PerFrame.{same_frame_self}
use Rattle.onvm_session.specs.Gathering.{frame_key}
use Rattle.onvm_session.specs.Lists.{Ascends}

pub many_permuted : {A : Type 0} (test : A → Bool) (xs ys : List A) → IsPermutation xs ys
    → how_many test ys ≡ how_many test xs
many_permuted test xs ys same =
    is_sum_by (how_many test) (λ x. one_if (test x)) refl (λ x rest. refl) ys
    ∙ sum_by-IsPermutation (λ x. one_if (test x)) xs ys same
    ∙ sym (is_sum_by (how_many test) (λ x. one_if (test x)) refl (λ x rest. refl) xs)

element_at : {A : Type 0} (xs : List A) (i : ℕ) (x d : A) → slice_get xs i ≡ Some x → slice_index_or xs i d ≡ x
element_at [] i x d found = absurd (let off : None ≡ Some x = found in cc)
element_at (y ∷ ys) zero x d found = cc
element_at (y ∷ ys) (suc i) x d found = element_at ys i x d found

counted_at : {A : Type 0} (test : A → Bool) (xs : List A) (i : ℕ) (x : A) → slice_get xs i ≡ Some x → test x ≡ true
    → 1 ≤ how_many test xs
counted_at test [] i x found met = absurd (let off : None ≡ Some x = found in cc)
counted_at test (y ∷ ys) zero x found met =
    let same : y ≡ x = cc in
    let one : one_if (test y) ≡ 1 = ap (λ z. one_if (test z)) same ∙ ap one_if met in
    omega (arith, one)
counted_at test (y ∷ ys) (suc i) x found met = omega (arith, counted_at test ys i x found met)

counted_twice : {A : Type 0} (test : A → Bool) (xs : List A) (i j : ℕ) (x y : A) → i < j
    → slice_get xs i ≡ Some x → slice_get xs j ≡ Some y → test x ≡ true → test y ≡ true
    → 2 ≤ how_many test xs
counted_twice test [] i j x y less one two met also = absurd (let off : None ≡ Some x = one in cc)
counted_twice test (z ∷ zs) i zero x y less one two met also = absurd (omega (arith, less))
counted_twice test (z ∷ zs) zero (suc j) x y less one two met also =
    let same : z ≡ x = cc in
    let top : one_if (test z) ≡ 1 = ap (λ w. one_if (test w)) same ∙ ap one_if met in
    omega (arith, top, counted_at test zs j y two also)
counted_twice test (z ∷ zs) (suc i) (suc j) x y less one two met also =
    omega (arith, counted_twice test zs i j x y (omega (arith, less)) one two met also)

-- there once at most, and with a number that a key has room for
pub record IsFew (many : ℕ) (at : FrameId) : Type 0 where
  pub once : many ≤ 1
  pub room : at.number < 2 ^ 32

key_before : (p n q m : ℕ) → m < 2 ^ 32 → p * 2 ^ 32 + n ≤ q * 2 ^ 32 + m → q < p → ⊥
key_before p n q m room le less = omega (arith, room, le, less)

pub ascending : {A : Type 0} (frame : A → FrameId) (list : List A)
    → IsNonDecreasingBy (λ x. frame_key (frame x)) list
    → ((at : FrameId) → 1 ≤ how_many (λ x. same_frame (frame x) at) list
    → IsFew (how_many (λ x. same_frame (frame x) at) list) at)
    → Ascends frame list
ascending {A} frame list rising few i j x y less one two =
    let le : frame_key (frame x) ≤ frame_key (frame y) =
    subst (λ (z : A). frame_key (frame x) ≤ frame_key (frame z)) (element_at list j y x two)
    (subst (λ (z : A). frame_key (frame z) ≤ frame_key (frame (slice_index_or list j x)))
    (element_at list i x x one)
    (rising i j x (omega (arith, less)) (slice_get_within list j y two))) in
    let of_y : IsFew (how_many (λ z. same_frame (frame z) (frame y)) list) (frame y) =
    few (frame y) (counted_at (λ z. same_frame (frame z) (frame y)) list j y two (same_frame_self (frame y))) in
    elim (cases_order (frame x).port.0 (frame y).port.0) [
      | inl port ↦ elim (cases_order (frame x).number (frame y).number) [
        | inl number ↦
            let same : same_frame (frame x) (frame y) ≡ true =
            rw (
              eq-eqb (frame x).port.0 (frame y).port.0 port,
              eq-eqb (frame x).number (frame y).number number,
            ) refl in
            absurd (omega (
              arith,
              of_y.once,
              counted_twice (λ z. same_frame (frame z) (frame y)) list i j x y less one two same
                  (same_frame_self (frame y)),
            ))
        | inr (inl before) ↦ inr (port, before)
        | inr (inr behind) ↦ absurd (omega (arith, port, behind, le))
      ]
      | inr (inl before) ↦ inl before
      | inr (inr behind) ↦
          absurd (key_before (frame x).port.0 (frame x).number (frame y).port.0 (frame y).number of_y.room le behind)
    ]
