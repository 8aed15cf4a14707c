-- The cell that is some cells before another, round a ring.
use Rattle.std.proofs.Common.{◌≡◌, ℕ, zero, suc, ◌+◌, ◌-◌, ◌*◌, ◌/◌, ◌%◌, ◌<◌, ◌≤◌, sym, ap, ◌∙◌, inl, inr, arith, mod-lt, suc-mul, refl}
use Rattle.std.specs.Prelude.{nat_le}
use Rattle.std.proofs.lemmas.Bool.{cases_Bool, leb-true, leb-false}
use Rattle.std.proofs.Math.Nat.{div-add-mod', zero-mul}
use Rattle.onvm_board.proofs.Separation.{grid_same}

-- a number by its row and its place in the row
row_place : (q r size : ℕ) → r < size → (q * size + r) % size ≡ r
row_place q r size less =
    let n : ℕ = q * size + r in
    let whole : n / size * size + n % size ≡ n = div-add-mod' n size in
    let inside : n % size < size = mod-lt n (omega (arith, less)) in
    (grid_same (n / size) q size (n % size) r inside less whole).1

-- in the same row
pub back_within : (pushed k size : ℕ) → 0 < size → k ≤ pushed % size → pushed % size - k ≡ (pushed - k) % size
back_within pushed k size above le =
    let whole : pushed / size * size + pushed % size ≡ pushed = div-add-mod' pushed size in
    let inside : pushed % size < size = mod-lt pushed above in
    let q : ℕ = pushed / size in
    let r : ℕ = pushed % size in
    let x : ℕ = q * size in
    let sum : x + r ≡ pushed = whole in
    let low : k ≤ r = le in
    let small : r < size = inside in
    let is : x + (r - k) ≡ pushed - k = omega arith in
    sym (row_place q (r - k) size (omega arith)) ∙ ap (λ n. n % size) is

-- in the row before
pub back_round : (pushed k size : ℕ) → 0 < size → pushed % size < k → k ≤ size → k ≤ pushed
    → pushed % size + (size - k) ≡ (pushed - k) % size
back_round pushed k size above less few many = by_rows (pushed / size) refl
  where
    by_rows : (q : ℕ) → q ≡ pushed / size → pushed % size + (size - k) ≡ (pushed - k) % size
    by_rows zero e =
        let whole : pushed / size * size + pushed % size ≡ pushed = div-add-mod' pushed size in
        let none : pushed / size * size ≡ 0 * size = ap (λ n. n * size) (sym e) in
        let r : ℕ = pushed % size in
        let x : ℕ = pushed / size * size in
        let sum : x + r ≡ pushed = whole in
        let flat : x ≡ 0 = none ∙ zero-mul size in
        let low : r < k = less in
        absurd (omega (arith, many))
    by_rows (suc q) e =
        let whole : pushed / size * size + pushed % size ≡ pushed = div-add-mod' pushed size in
        let rows : pushed / size * size ≡ q * size + size = ap (λ n. n * size) (sym e) ∙ suc-mul q size in
        let r : ℕ = pushed % size in
        let x : ℕ = pushed / size * size in
        let y : ℕ = q * size in
        let sum : x + r ≡ pushed = whole in
        let flat : x ≡ y + size = rows in
        let low : r < k = less in
        let is : y + (r + (size - k)) ≡ pushed - k = omega (arith, few) in
        sym (row_place q (r + (size - k)) size (omega (arith, few))) ∙ ap (λ n. n % size) is

-- two numbers less than a turn apart that stand at one place are the same
pub same_turn : (n m size : ℕ) → n ≤ m → m < n + size → n % size ≡ m % size → n ≡ m
same_turn n m size low high e =
    let whole : n / size * size + n % size ≡ n = div-add-mod' n size in
    let small : n % size < size = mod-lt n (omega (arith, low, high)) in
    let q : ℕ = n / size in
    let r : ℕ = n % size in
    let x : ℕ = q * size in
    let d : ℕ = m - n in
    let sum : x + r ≡ n = whole in
    let inside : r < size = small in
    let near : d < size = omega (arith, low, high) in
    let more : n + d ≡ m = omega (arith, low) in
    elim (cases_Bool (nat_le size (r + d))) [
      | inl yes_over ↦
          let over : size ≤ r + d = leb-true size (r + d) yes_over in
          let y : ℕ = suc q * size in
          let row : y ≡ x + size = suc-mul q size in
          let is : y + (r + d - size) ≡ m = omega (arith, over) in
          let place : (y + (r + d - size)) % size ≡ r + d - size = row_place (suc q) (r + d - size) size (omega (arith, inside, near, over)) in
          let last : r ≡ r + d - size = e ∙ ap (λ k. k % size) (sym is) ∙ place in
          absurd (omega (arith, last, near, over))
      | inr no_over ↦
          let under : r + d < size = leb-false size (r + d) no_over in
          let is : x + (r + d) ≡ m = omega arith in
          let place : (x + (r + d)) % size ≡ r + d = row_place q (r + d) size under in
          let last : r ≡ r + d = e ∙ ap (λ k. k % size) (sym is) ∙ place in
          omega (arith, last, more)
    ]
