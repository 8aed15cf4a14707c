-- What split and join, the opening and the close have in common.
use Rattle.std.proofs.Common.{◌≡◌, ◌≢◌, ◌⊎◌, ℕ, zero, suc, ◌<◌, true, false, List, [], ◌∷◌, ◌++◌, length, sym, refl, ap, inl, inr, ⊎_elim, arith}
use mathlib.Core.Option.{some, some-injective, some-ne-none}
use lib.ListN.{get_elem?}

pub off_on : true ≡ false → ⊥
off_on e = cc

pub below_apart : (role n : ℕ) → role < n → role ≢ n
below_apart role n less e = absurd (omega (arith, less, e))

-- the last of a longer list, or one of the list
pub at_longer_end : {A : Type 0} (xs : List A) (a b : A) (j : ℕ) → get_elem? (xs ++ a ∷ []) j ≡ some b
    → (get_elem? xs j ≡ some b) ⊎ ((j ≡ length xs) × (a ≡ b))
at_longer_end [] a b zero e = inr (refl, some-injective a b e)
at_longer_end [] a b (suc j) e = absurd (some-ne-none b (sym e))
at_longer_end (x ∷ xs) a b zero e = inl e
at_longer_end (x ∷ xs) a b (suc j) e = ⊎_elim (λ t. inl t) (λ t. inr (ap suc t.0, t.1)) (at_longer_end xs a b j e)
