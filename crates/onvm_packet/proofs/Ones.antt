-- Sums in one's complement are sums modulo 65535, where only the empty sum is 0.
use Rattle.std.proofs.Common.{◌≡◌, ◌∙◌, sym, ap, ℕ, zero, suc, ◌+◌, ◌-◌, ◌%◌, ◌<◌, List, [], ◌∷◌, arith, refl}
use Rattle.onvm_packet.specs.Checksum.{AreWords, ones_plus, ones_sum, updated_checksum}

-- what is left of a sum once its carries came in at the low end
abbrev pub folded : ℕ → ℕ
folded zero = 0
folded (suc n) = n % 65535 + 1

abbrev pub total : List ℕ → ℕ
total [] = 0
total (word ∷ rest) = word + total rest

-- a word is folded
pub folded-word : (word : ℕ) → word < 65536 → folded word ≡ word
folded-word zero fits = refl
folded-word (suc word) fits = omega arith

-- a word more
pub plus-folded : (word n : ℕ) → word < 65536 → ones_plus word (folded n) ≡ folded (word + n)
plus-folded word zero fits =
    let e : ones_plus word 0 ≡ word = omega arith in
    let none : word + 0 ≡ word = omega arith in
    e ∙ sym (folded-word word fits) ∙ ap folded (sym none)
plus-folded word (suc n) fits =
    let e : word + suc n ≡ suc (word + n) = omega arith in
    let sums : ones_plus word (n % 65535 + 1) ≡ (word + n) % 65535 + 1 = omega arith in
    sums ∙ ap folded (sym e)

pub plus_comm : (a b : ℕ) → ones_plus a b ≡ ones_plus b a
plus_comm a b = omega arith

pub ones_sum-folded : (words : List ℕ) → AreWords words → ones_sum words ≡ folded (total words)
ones_sum-folded [] fit = refl
ones_sum-folded (word ∷ rest) fit = ap (ones_plus word) (ones_sum-folded rest fit.1) ∙ plus-folded word (total rest) fit.0

-- all ones are the multiples of 65535, but for 0
pub all_ones : (n : ℕ) → folded n ≡ 65535 → (0 < n) × (n % 65535 ≡ 0)
all_ones zero e = absurd (omega arith)
all_ones (suc n) e = (omega arith, omega arith)

pub folded-multiple : (n : ℕ) → 0 < n → n % 65535 ≡ 0 → folded n ≡ 65535
folded-multiple zero above multiple = absurd (omega arith)
folded-multiple (suc n) above multiple = omega arith

-- a word that changes is made up for by the swapped sum
pub made_up : (n rest sum old new : ℕ) → n + (sum + old) ≡ 131070 + new → sum < 65536 → old < 65536
    → (rest + (old + sum)) % 65535 ≡ 0 → (rest + (new + (65535 - folded n))) % 65535 ≡ 0
made_up zero rest sum old new e fs fo multiple = omega arith
made_up (suc n) rest sum old new e fs fo multiple = omega arith

pub updated_checksum-folded : (sum old new : ℕ) → sum < 65536 → old < 65536 → new < 65536
    → updated_checksum sum old new ≡ 65535 - folded (new + (65535 - sum + (65535 - old)))
updated_checksum-folded sum old new fs fo fn =
    let a : ℕ = 65535 - sum in
    let b : ℕ = 65535 - old in
    let first : ones_plus a b ≡ folded (a + b) =
    ap (ones_plus a) (sym (folded-word b (omega arith))) ∙ plus-folded a b (omega arith) in
    let second : ones_plus (ones_plus a b) new ≡ folded (new + (a + b)) =
    plus_comm (ones_plus a b) new ∙ ap (ones_plus new) first ∙ plus-folded new (a + b) fn in
    ap (λ (n : ℕ). 65535 - n) second

pub updated_checksum-keeps : (rest sum old new : ℕ) → sum < 65536 → old < 65536 → new < 65536 → (rest + (old + sum)) % 65535 ≡ 0
    → (rest + (new + updated_checksum sum old new)) % 65535 ≡ 0
updated_checksum-keeps rest sum old new fs fo fn multiple =
    ap (λ (n : ℕ). (rest + (new + n)) % 65535) (updated_checksum-folded sum old new fs fo fn)
    ∙ made_up (new + (65535 - sum + (65535 - old))) rest sum old new (omega arith) fs fo multiple

pub updated_checksum-fits : (sum old new : ℕ) → updated_checksum sum old new < 65536
updated_checksum-fits sum old new = omega arith

-- only nothing folds to nothing
pub above-folded : (n : ℕ) → 0 < folded n → 0 < n
above-folded zero above = absurd (omega arith)
above-folded (suc n) above = omega arith

pub updated_checksum-right : (others : List ℕ) (sum old new : ℕ) → AreWords (sum ∷ old ∷ others) → new < 65536
    → ones_sum (sum ∷ old ∷ others) ≡ 65535 → 0 < ones_sum (updated_checksum sum old new ∷ new ∷ others)
    → ones_sum (updated_checksum sum old new ∷ new ∷ others) ≡ 65535
updated_checksum-right others sum old new fit fn right above =
    let made : ℕ = updated_checksum sum old new in
    let rest : ℕ = total others in
    let fold : ones_sum (made ∷ new ∷ others) ≡ folded (made + (new + rest)) =
    ones_sum-folded (made ∷ new ∷ others) (updated_checksum-fits sum old new, (fn, fit.1.1)) in
    let ones = all_ones (sum + (old + rest)) (sym (ones_sum-folded (sum ∷ old ∷ others) fit) ∙ right) in
    let before : rest + (old + sum) ≡ sum + (old + rest) = omega arith in
    let after : made + (new + rest) ≡ rest + (new + made) = omega arith in
    let kept : (rest + (new + made)) % 65535 ≡ 0 =
    updated_checksum-keeps rest sum old new fit.0 fit.1.0 fn (ap (λ (n : ℕ). n % 65535) before ∙ ones.1) in
    fold
    ∙ folded-multiple (made + (new + rest)) (above-folded (made + (new + rest)) (omega (arith, fold, above)))
    (ap (λ (n : ℕ). n % 65535) after ∙ kept)
