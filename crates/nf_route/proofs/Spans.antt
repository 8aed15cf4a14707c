-- The addresses of a prefix are those of one quotient.
use Rattle.std.proofs.Common.{◌≡◌, ◌∙◌, ap, ℕ, ◌+◌, ◌-◌, ◌*◌, ◌/◌, ◌%◌, ◌^◌, ◌<◌, ◌≤◌, ◌↔◌, eqb, true, eq-eqb, arith}
use Rattle.std.proofs.lemmas.Bool.{eqb-true}
use Rattle.std.proofs.lemmas.Nat.{div-mul-add, one_shl, pow_pos}
use Rattle.std.proofs.Math.Nat.{div-mul-le_self, lt-div-mul-add, mod-eq_of_lt}

-- two numbers have the same quotient where one lies in the row of the other
same_quotient : (a t size : ℕ) → 0 < size
    → (eqb (t / size) (a / size) ≡ true) ↔ ((a / size * size ≤ t) × (t < a / size * size + size))
same_quotient a t size some = (
  λ same.
      let is : t / size ≡ a / size = eqb-true _ _ same in
      let below : t / size * size ≤ t = div-mul-le_self t size in
      let above : t < t / size * size + size = lt-div-mul-add {a = t} some in
      (rw is at below, rw is at above),
  λ row.
      let rest : t - a / size * size < size = omega (arith, row.0, row.1) in
      let whole : t ≡ a / size * size + (t - a / size * size) = omega (arith, row.0) in
      eq-eqb _ _ (ap (λ n. n / size) whole ∙ div-mul-add (a / size) size (t - a / size * size) rest),
)

-- the same as shifts by the free bits compute the ends of the row
pub spanned : (a t free bits : ℕ) → a < 2 ^ 64 → free ≡ 32 - bits
    → (eqb (t / 2 ^ (32 - bits)) (a / 2 ^ (32 - bits)) ≡ true)
    ↔ ((a / 2 ^ free * 2 ^ free % 2 ^ 64 ≤ t) × (t < a / 2 ^ free * 2 ^ free % 2 ^ 64 + 1 * 2 ^ free % 2 ^ 64))
spanned a t free bits fits is =
    let small : free < 64 = omega arith in
    let first : a / 2 ^ free * 2 ^ free < 2 ^ 64 = omega (arith, div-mul-le_self a (2 ^ free)) in
    rw (← is, one_shl free 64 small, mod-eq_of_lt first) (same_quotient a t (2 ^ free) (pow_pos free))
