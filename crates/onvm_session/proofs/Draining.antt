-- Loops over a list that is handed over, item by item.
use Rattle.std.proofs.Common.{◌≡◌, ℕ, zero, suc, ◌+◌, inl, inr, List, [], ◌∷◌, ◌++◌, length, refl, sym, ◌∙◌, ap, subst, arith, append_assoc, append-nil, Some, None, Option}
use Rattle.std.specs.Prelude.{◌⊎◌, MatchOption, option_to_list, slice_get}
use Rattle.onvm_session.proofs.Growing.{some_inj}

-- Places

nothing_left : {A : Type 0} (xs : List A) → length xs ≡ 0 → xs ≡ []
nothing_left [] none = refl
nothing_left (x ∷ xs) none = absurd (omega (arith, none))

pub got_behind : {A : Type 0} (xs ys : List A) (x : A) → slice_get (xs ++ x ∷ ys) (length xs) ≡ Some x
got_behind [] ys x = refl
got_behind (z ∷ xs) ys x = got_behind xs ys x

-- a place of a list with one item more is one of the list, or its end
got_pushed : {A : Type 0} (xs : List A) (x : A) (at : ℕ) (y : A) → slice_get (xs ++ x ∷ []) at ≡ Some y
    → (slice_get xs at ≡ Some y) ⊎ ((at ≡ length xs) × (y ≡ x))
got_pushed [] x zero y found = inr (refl, sym (some_inj x y found))
got_pushed [] x (suc at) y found = absurd (cc found)
got_pushed (z ∷ xs) x zero y found = inl found
got_pushed (z ∷ xs) x (suc at) y found = behind (got_pushed xs x at y found)
  where
    behind : (slice_get xs at ≡ Some y) ⊎ ((at ≡ length xs) × (y ≡ x))
        → (slice_get xs at ≡ Some y) ⊎ ((suc at ≡ length (z ∷ xs)) × (y ≡ x))
    behind (inl earlier) = inl earlier
    behind (inr last) = (let place = last.0 in inr (omega (arith, place), last.1))

-- what holds at each place, and of one item at the end, holds at each place of the longer list
pub each_more : {A : Type 0} (holds : ℕ → A → Type 0) (xs more : List A) (x : A) (n : ℕ) → more ≡ xs ++ x ∷ []
    → length xs ≡ n → ((at : ℕ) (y : A) → slice_get xs at ≡ Some y → holds at y) → holds n x
    → (at : ℕ) (y : A) → slice_get more at ≡ Some y → holds at y
each_more {A} holds xs more x n grown long each last at y found =
    elim (got_pushed xs x at y (subst (λ (ys : List A). slice_get ys at ≡ Some y) grown found)) [
      | inl earlier ↦ each at y earlier
      | inr here ↦
          subst (λ (z : A). holds at z) (sym here.1)
          (subst (λ (k : ℕ). holds k x) (sym (here.0 ∙ long)) last)
    ]

-- Items that are taken one after the other

-- these were taken of the list, and these are left
pub record IsTaking {A : Type 0} (all taken left : List A) (many : ℕ) : Type 0 where
  pub split : taken ++ left ≡ all
  pub long : many ≡ length left

pub takes_none : {A : Type 0} (all left : List A) (many : ℕ) → left ≡ all → many ≡ length all → IsTaking all [] left many
takes_none all left many same long = record { split = same; long = long ∙ ap length (sym same) }

pub takes_more : {A : Type 0} (all taken left later : List A) (many now : ℕ) (x : A) → IsTaking all taken left many
    → left ≡ x ∷ later → now + 1 ≡ many → IsTaking all (taken ++ x ∷ []) later now
takes_more all taken left later many now x taking step less =
    let long = ap length step in
    record {
      split = append_assoc taken (x ∷ []) later ∙ ap (λ ys. taken ++ ys) (sym step) ∙ taking.split;
      long = omega (arith, taking.long, long, less);
    }

-- the next item, by its place
pub takes_here : {A : Type 0} (all taken left later : List A) (many : ℕ) (x : A) → IsTaking all taken left many
    → left ≡ x ∷ later → slice_get all (length taken) ≡ Some x
takes_here all taken left later many x taking step =
    subst (λ ys. slice_get ys (length taken) ≡ Some x) (ap (λ ys. taken ++ ys) (sym step) ∙ taking.split)
    (got_behind taken later x)

pub takes_all : {A : Type 0} (all taken left : List A) (many : ℕ) → IsTaking all taken left many → many ≡ 0 → taken ≡ all
takes_all all taken left many taking none =
    sym (append-nil taken)
    ∙ ap (λ ys. taken ++ ys) (sym (nothing_left left (sym taking.long ∙ none)))
    ∙ taking.split

-- Items that are asked for one after the other, also behind the end

-- of the list these are left, behind so many
pub record IsLeftBehind {A : Type 0} (all : List A) (n : ℕ) (left : List A) (many : ℕ) : Type 0 where
  pub at : (k : ℕ) → slice_get left k ≡ slice_get all (n + k)
  pub long : many ≡ length left

pub left_whole : {A : Type 0} (all left : List A) (many : ℕ) → left ≡ all → many ≡ length all → IsLeftBehind all 0 left many
left_whole all left many same long = record {
  at = λ k.
      let place : k ≡ 0 + k = omega arith in
      ap (λ ys. slice_get ys k) same ∙ ap (slice_get all) place;
  long = long ∙ ap length (sym same);
}

pub left_here : {A : Type 0} (all left later : List A) (n many now : ℕ) (given : Option A) → IsLeftBehind all n left many
    → MatchOption given ((many ≡ 0) × (now ≡ 0)) (λ x. (left ≡ x ∷ later) × (now + 1 ≡ many))
    → slice_get all n ≡ given
left_here all left later n many now None behind step =
    let place : n ≡ n + 0 = omega arith in
    ap (slice_get all) place ∙ sym (behind.at 0)
    ∙ ap (λ ys. slice_get ys 0) (nothing_left left (sym behind.long ∙ step.0))
left_here all left later n many now (Some x) behind step =
    let place : n ≡ n + 0 = omega arith in
    ap (slice_get all) place ∙ sym (behind.at 0) ∙ ap (λ ys. slice_get ys 0) step.0

pub left_later : {A : Type 0} (all left later : List A) (n many now : ℕ) (given : Option A) → IsLeftBehind all n left many
    → left ≡ option_to_list given ++ later
    → MatchOption given ((many ≡ 0) × (now ≡ 0)) (λ x. (left ≡ x ∷ later) × (now + 1 ≡ many))
    → IsLeftBehind all (n + 1) later now
left_later all left later n many now None behind same step =
    let none = nothing_left left (sym behind.long ∙ step.0) in
    record {
      at = λ k.
          let place : n + (suc k) ≡ n + 1 + k = omega arith in
          ap (λ ys. slice_get ys k) (sym same ∙ none)
          ∙ ap (λ ys. slice_get ys (suc k)) (sym none)
          ∙ behind.at (suc k) ∙ ap (slice_get all) place;
      long = step.1 ∙ ap length (sym (sym same ∙ none));
    }
left_later all left later n many now (Some x) behind same step = record {
  at = λ k.
      let place : n + (suc k) ≡ n + 1 + k = omega arith in
      here k ∙ behind.at (suc k) ∙ ap (slice_get all) place;
  long = (let long = ap length step.0 in omega (arith, behind.long, long, step.1));
}
  where
    here : (k : ℕ) → slice_get later k ≡ slice_get left (suc k)
    here k = ap (λ ys. slice_get ys (suc k)) (sym step.0)
