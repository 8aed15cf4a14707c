-- What stands at a place of a list, as the list grows by an item.
use Rattle.std.proofs.Common.{◌≡◌, ℕ, zero, suc, ◌+◌, ◌<◌, ◌≤◌, ◌⊎◌, inl, inr, List, [], ◌∷◌, ◌++◌, length, get_or, slice_get, Some, None, refl, sym, ap, ◌∙◌, subst, arith, below_more, length-append}
use Rattle.std.proofs.lemmas.Bool.{cases_lt}
use Rattle.std.proofs.lemmas.Option.{slice_get_past, slice_get_read, slice_get_within}

pub slice_get-append_left : {A : Type 0} (xs ys : List A) (k : ℕ) → k < length xs → slice_get (xs ++ ys) k ≡ slice_get xs k
slice_get-append_left [] ys k less = absurd (omega arith)
slice_get-append_left (x ∷ xs) ys zero less = refl
slice_get-append_left (x ∷ xs) ys (suc k) less = slice_get-append_left xs ys k (omega arith)

pub slice_get-append_seam : {A : Type 0} (xs : List A) (y : A) → slice_get (xs ++ y ∷ []) (length xs) ≡ Some y
slice_get-append_seam [] y = refl
slice_get-append_seam (x ∷ xs) y = slice_get-append_seam xs y

-- each item is a function's value at its place
pub values_more : {A : Type 0} (f : ℕ → A) (xs : List A) (n : ℕ) (x : A) → length xs ≡ n → x ≡ f n
    → ((k : ℕ) → k < n → slice_get xs k ≡ Some (f k)) → (k : ℕ) → k < n + 1 → slice_get (xs ++ x ∷ []) k ≡ Some (f k)
values_more f xs n x count is before =
    below_more (λ k. slice_get (xs ++ x ∷ []) k ≡ Some (f k)) n
    (λ k less. slice_get-append_left xs (x ∷ []) k (omega arith) ∙ before k less)
    (ap (slice_get (xs ++ x ∷ [])) (sym count) ∙ slice_get-append_seam xs x ∙ ap Some is)

same_some : {A : Type 0} (x y : A) → Some x ≡ Some y → x ≡ y
same_some x y e = cc

not_some : {A : Type 0} (x : A) → Some x ≡ None → ⊥
not_some x e = cc

at_place : {A B : Type 0} (P : A → B → Type 0) (xs : List A) (ys : List B) (x : A) (y : B) (k : ℕ) (a : A) (b : B)
    → slice_get xs (length ys) ≡ Some x → P x y
    → ((i : ℕ) (a : A) (b : B) → slice_get xs i ≡ Some a → slice_get ys i ≡ Some b → P a b)
    → slice_get xs k ≡ Some a → slice_get (ys ++ y ∷ []) k ≡ Some b
    → (k < length ys) ⊎ (length ys ≤ k) → (k < length ys + 1) ⊎ (length ys + 1 ≤ k) → P a b
at_place P xs ys x y k a b here p before ea eb (inl less) within =
    before k a b ea (sym (slice_get-append_left ys (y ∷ []) k less) ∙ eb)
at_place P xs ys x y k a b here p before ea eb (inr past) (inl less) =
    let last : k ≡ length ys = omega arith in
    let same_a : a ≡ x = same_some a x (sym ea ∙ ap (slice_get xs) last ∙ here) in
    let same_b : b ≡ y = same_some b y (sym eb ∙ ap (slice_get (ys ++ y ∷ [])) last ∙ slice_get-append_seam ys y) in
    subst (λ c. P c b) (sym same_a) (subst (P x) (sym same_b) p)
at_place P xs ys x y k a b here p before ea eb (inr past) (inr beyond) =
    let none = slice_get_past (ys ++ y ∷ []) k (omega (arith, length-append ys (y ∷ []))) in
    absurd (not_some b (sym eb ∙ none))

-- each item of the second list is right for the one at its place in the first
pub pairs_more : {A B : Type 0} (P : A → B → Type 0) (xs : List A) (ys : List B) (x : A) (y : B)
    → slice_get xs (length ys) ≡ Some x → P x y
    → ((i : ℕ) (a : A) (b : B) → slice_get xs i ≡ Some a → slice_get ys i ≡ Some b → P a b)
    → (i : ℕ) (a : A) (b : B) → slice_get xs i ≡ Some a → slice_get (ys ++ y ∷ []) i ≡ Some b → P a b
pairs_more P xs ys x y here p before i a b ea eb =
    at_place P xs ys x y i a b here p before ea eb (cases_lt i (length ys)) (cases_lt i (length ys + 1))

-- an item that is read where a value is known
pub item_is : {A : Type 0} (xs : List A) (k : ℕ) (x y : A) → x ≡ get_or xs k x → slice_get xs k ≡ Some y → x ≡ y
item_is xs k x y read found =
    same_some x y (sym (slice_get_read xs (length xs) k x refl (slice_get_within xs k y found) read) ∙ found)
