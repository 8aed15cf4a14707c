-- Numbers in order, and the middle one of them.
use Rattle.std.specs.Prelude.{ℕ, suc, ◌-◌, ◌/◌, nat_lt, if◌then◌else◌, List, [], ◌∷◌, length, Option, slice_get}

-- numbers in order, with one more in its place, behind equal ones
abbrev pub insertion : ℕ → List ℕ → List ℕ
insertion n [] = n ∷ []
insertion n (m ∷ ms) = if nat_lt n m then n ∷ m ∷ ms else m ∷ insertion n ms

-- the same numbers, from the least on
abbrev pub in_order : List ℕ → List ℕ
in_order [] = []
in_order (n ∷ ns) = insertion n (in_order ns)

-- the middle one of a list, of an even number the lower of two; none where it is empty
abbrev pub lower_middle : List ℕ → Option ℕ
lower_middle ns = slice_get ns ((length ns - 1) / 2)

-- how many first ones are not above a number
abbrev pub upper_bound : ℕ → List ℕ → ℕ
upper_bound n [] = 0
upper_bound n (m ∷ ms) = if nat_lt n m then 0 else suc (upper_bound n ms)
