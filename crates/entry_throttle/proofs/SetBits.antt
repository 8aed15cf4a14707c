-- The bits of a set of functions, and of a post.
use Rattle.std.proofs.Common.{◌≡◌, ◌∙◌, sym, ap, subst, ℕ, zero, suc, ◌+◌, ◌-◌, ◌*◌, ◌/◌, ◌%◌, ◌^◌, ◌<◌, ◌≤◌, Bool, true, false, List, [], ◌∷◌, length, arith}
use Rattle.std.specs.Prelude.{◌==◌, if◌then◌else◌, drop, get_or}
use Rattle.std.proofs.Common.{length-drop}
use Rattle.std.proofs.Math.Seq.{drop-cons}
use Rattle.std.proofs.lemmas.List.{drop_all}
use Rattle.std.specs.Int.{bit_at}
use Rattle.std.proofs.Math.Nat.{pow-suc}
use Rattle.std.proofs.lemmas.Nat.Bits.{bit_at-zero, bit_at_lowest, bit_at-suc}
use Rattle.std.proofs.Math.Pow.{pow_mono}
use Rattle.onvm_core.specs.Marks.{has_bit}
use Rattle.watermark.specs.declared.mark.Mark.{Mark}
use Rattle.watermark.specs.Marks.{is_throttle}
use Rattle.entry_throttle.specs.Throttles.{mark_at, set_of}

low_bit : (b : Bool) (n : ℕ) → (((if b then 1 else 0) + 2 * n) % 2 == 1) ≡ b
low_bit true n = ap (λ (m : ℕ). m == 1) (let e : (1 + 2 * n) % 2 ≡ 1 = omega arith in e)
low_bit false n = ap (λ (m : ℕ). m == 1) (let e : (0 + 2 * n) % 2 ≡ 0 = omega arith in e)

high_bits : (b : Bool) (n : ℕ) → ((if b then 1 else 0) + 2 * n) / 2 ≡ n
high_bits true n = let e : (1 + 2 * n) / 2 ≡ n = omega arith in e
high_bits false n = let e : (0 + 2 * n) / 2 ≡ n = omega arith in e

pub bit_of_mark : (marks : List Mark) (f : ℕ) → (bit_at (set_of marks) f == 1) ≡ is_throttle (mark_at marks f)
bit_of_mark [] f = ap (λ (n : ℕ). n == 1) (bit_at-zero f)
bit_of_mark (mark ∷ marks) zero =
    ap (λ (n : ℕ). n == 1) (bit_at_lowest (set_of (mark ∷ marks))) ∙ low_bit (is_throttle mark) (set_of marks)
bit_of_mark (mark ∷ marks) (suc f) =
    ap (λ (n : ℕ). n == 1) (bit_at-suc (set_of (mark ∷ marks)) f)
    ∙ ap (λ (n : ℕ). bit_at n f == 1) (high_bits (is_throttle mark) (set_of marks))
    ∙ bit_of_mark marks f

pub bit_small : (b : Bool) → (if b then 1 else 0) ≤ 1
bit_small true = omega arith
bit_small false = omega arith

pub set_below : (marks : List Mark) → set_of marks < 2 ^ length marks
set_below [] = omega arith
set_below (mark ∷ marks) =
    let p : ℕ = 2 ^ length marks in
    let less : set_of marks < p = set_below marks in
    let twice : 2 ^ suc (length marks) ≡ p * 2 = pow-suc 2 (length marks) in
    let b : ℕ = if is_throttle mark then 1 else 0 in
    let small : b ≤ 1 = bit_small (is_throttle mark) in
    subst (λ (q : ℕ). b + 2 * set_of marks < q) (sym twice) (omega (arith, less, small))

-- it fits into 32 bits
pub set_fits : (marks : List Mark) → length marks ≤ 32 → set_of marks < 2 ^ 32
set_fits marks few =
    let p : ℕ = 2 ^ length marks in
    let less : set_of marks < p = set_below marks in
    let most : p ≤ 2 ^ 32 = pow_mono few in omega (arith, less, most)

pub low_half : (number set : ℕ) → set < 2 ^ 32 → (number * 2 ^ 32 + set) % 2 ^ 32 ≡ set
low_half number set less = omega (arith, less)

pub high_half : (number set : ℕ) → set < 2 ^ 32 → (number * 2 ^ 32 + set) / 2 ^ 32 ≡ number
high_half number set less = omega (arith, less)

-- a post's bits
pub bit_posted : (number set f : ℕ) → set < 2 ^ 32 → has_bit (number * 2 ^ 32 + set) f ≡ (bit_at set f == 1)
bit_posted number set f less = ap (λ (n : ℕ). bit_at n f == 1) (low_half number set less)

-- A set is made from its last function on

pub half_fits : (marks : List Mark) (back : ℕ) → back < length marks → length marks ≤ 32
    → set_of (drop (length marks - back) marks) < 2 ^ 31
half_fits marks back less few =
    let rest : List Mark = drop (length marks - back) marks in
    let left : length rest ≡ length marks - (length marks - back) = length-drop (length marks - back) marks in
    let short : length rest ≤ 31 = omega (arith, left, less, few) in
    let p : ℕ = 2 ^ length rest in
    let below : set_of rest < p = set_below rest in
    let most : p ≤ 2 ^ 31 = pow_mono short in omega (arith, below, most)

pub one_more : (marks : List Mark) (back : ℕ) (d : Mark) → back < length marks
    → set_of (drop (length marks - (back + 1)) marks)
    ≡ (if is_throttle (get_or marks (length marks - 1 - back) d) then 1 else 0) + 2 * set_of (drop
    (length marks - back) marks)
one_more marks back d less =
    let n : ℕ = length marks in
    let j : ℕ = n - 1 - back in
    let at : n - (back + 1) ≡ j = omega (arith, less) in
    let next : suc j ≡ n - back = omega (arith, less) in
    ap (λ (k : ℕ). set_of (drop k marks)) at
    ∙ ap set_of (drop-cons marks j d (omega (arith, less)))
    ∙ ap (λ (k : ℕ). (if is_throttle (get_or marks j d) then 1 else 0) + 2 * set_of (drop k marks)) next

pub none_summed : (marks : List Mark) → 0 ≡ set_of (drop (length marks - 0) marks)
none_summed marks = sym (ap set_of (drop_all (length marks - 0) marks (omega arith)))

pub all_summed : (marks : List Mark) → set_of (drop (length marks - length marks) marks) ≡ set_of marks
all_summed marks = ap (λ (k : ℕ). set_of (drop k marks)) (let n : ℕ = length marks in let e : n - n
    ≡ 0 = omega arith in e)
