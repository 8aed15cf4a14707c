-- A word that is written changes the sum of the words around it by just that.
use Rattle.std.proofs.Common.{◌≡◌, ◌∙◌, sym, ap, refl, ℕ, zero, suc, ◌+◌, ◌-◌, ◌*◌, ◌/◌, ◌%◌, ◌<◌, ◌≤◌, List, [], ◌∷◌, ◌++◌, length, take, drop, get_or, inl, inr, arith}
use Rattle.std.proofs.lemmas.Bool.{cases_lt}
use Rattle.std.proofs.lemmas.List.{drop-drop, drop-take, drop_at, get_or-drop, get_or-take, length-drop, length-take-le, take-append-le, take-take}
use Rattle.byteorder.specs.Endian.{big_bytes}
use Rattle.onvm_packet.specs.Bytes.{AreBytes, byte, number}
use Rattle.onvm_packet.specs.Checksum.{words}
use Rattle.onvm_packet.proofs.Kept.{big_from-same, byte-before, byte-behind, byte-over, drop-with_bytes_at, take-with_bytes_at}
use Rattle.onvm_packet.proofs.Ones.{total}
use Rattle.nf_state.specs.Rewriting.{with_word}

abbrev pub twice : ℕ → ℕ
twice zero = zero
twice (suc j) = suc (suc (twice j))

total-written : (j w : ℕ) (bytes : List ℕ) → twice j + 2 ≤ length bytes → w < 65536
    → total (words (with_word (twice j) w bytes)) + number 2 (twice j) bytes ≡ total (words bytes) + w
total-written zero w [] fits small = absurd (omega arith)
total-written zero w (h ∷ []) fits small = absurd (omega arith)
total-written zero w (h ∷ l ∷ rest) fits small = omega arith
total-written (suc j) w [] fits small = absurd (omega arith)
total-written (suc j) w (h ∷ []) fits small = absurd (omega arith)
total-written (suc j) w (h ∷ l ∷ rest) fits small =
    let d : ℕ = twice j in
    let less = total-written j w rest (omega arith) small in
    let behind : suc (suc d) + 2 ≡ suc (suc (d + 2)) = omega arith in
    let same : total (words (with_word (suc (suc d)) w (h ∷ l ∷ rest))) ≡ (h * 256 + l) + total (words (with_word d w rest)) =
    ap (λ n. total (words (h ∷ l ∷ (take d rest ++ (big_bytes 2 w ++ drop n (h ∷ l ∷ rest)))))) behind in
    omega (arith, same, less)

-- so many bytes from an offset on
abbrev pub window : ℕ → ℕ → List ℕ → List ℕ
window from len bytes = take len (drop from bytes)

number-window : (count k from len : ℕ) (bytes : List ℕ) → k + count ≤ len
    → number count k (window from len bytes) ≡ number count (from + k) bytes
number-window count k from len bytes inside =
    big_from-same count 0 (drop k (window from len bytes)) (drop (from + k) bytes)
    (λ i l.
    get_or-drop k (window from len bytes) i 0 ∙ get_or-take len (drop from bytes) (k + i) 0 (omega arith)
    ∙ sym (get_or-drop k (drop from bytes) i 0) ∙ ap (λ (t : List ℕ). get_or t i 0) (drop-drop k from bytes))

-- a word in the window, at an even offset
pub total-inside : (from len p j w : ℕ) (bytes : List ℕ) → p ≡ from + twice j → twice j + 2 ≤ len
    → from + len ≤ length bytes → w < 65536
    → total (words (window from len (with_word p w bytes))) + number 2 p bytes ≡ total (words (window from len bytes)) + w
total-inside from len p j w bytes is inside whole small =
    let rest : List ℕ = drop from bytes in
    let room : length rest ≡ length bytes - from = length-drop from bytes in
    let long : length (window from len bytes) ≡ len = length-take-le len rest (omega (arith, room)) in
    let written : window from len (with_word (from + twice j) w bytes) ≡ with_word (twice j) w (window from len bytes) =
    ap (take len) (drop-with_bytes_at from (twice j) (big_bytes 2 w) bytes (omega arith))
    ∙ take-with_bytes_at (twice j) (big_bytes 2 w) rest (omega (arith, room)) len (omega arith) in
    let number_is = number-window 2 (twice j) from len bytes inside in
    let total_is = total-written j w (window from len bytes) (omega (arith, long)) small in
    let same : total (words (window from len (with_word p w bytes))) ≡ total (words (with_word (twice j) w (window from len bytes))) =
    ap (λ n. total (words (window from len (with_word n w bytes)))) is ∙ ap (λ x. total (words x)) written in
    let old : number 2 p bytes ≡ number 2 (twice j) (window from len bytes) =
    ap (λ n. number 2 n bytes) is ∙ sym number_is in
    omega (arith, same, old, total_is)

-- a word in front of the window
pub window-behind : (from len p w : ℕ) (bytes : List ℕ) → p + 2 ≤ from → from ≤ length bytes
    → window from len (with_word p w bytes) ≡ window from len bytes
window-behind from len p w bytes before whole =
    let m : ℕ = from - (p + 2) in
    let split : p + 2 + m ≡ from = omega arith in
    let back : List ℕ = drop (p + 2) bytes in
    let front : drop p (with_word p w bytes) ≡ big_bytes 2 w ++ back =
    drop_at (take p bytes) (big_bytes 2 w ++ back) p (length-take-le p bytes (omega arith)) in
    let rest : drop (p + 2) (with_word p w bytes) ≡ back =
    sym (drop-drop 2 p (with_word p w bytes)) ∙ ap (drop 2) front ∙ drop_at (big_bytes 2 w) back 2 refl in
    ap (take len)
    (ap (λ n. drop n (with_word p w bytes)) (sym split) ∙ sym (drop-drop m (p + 2) (with_word p w bytes))
    ∙ ap (drop m) rest ∙ drop-drop m (p + 2) bytes ∙ ap (λ n. drop n bytes) split)

-- a word behind the window
pub window-front : (from len p w : ℕ) (bytes : List ℕ) → from + len ≤ p → p + 2 ≤ length bytes
    → window from len (with_word p w bytes) ≡ window from len bytes
window-front from len p w bytes behind whole =
    let size : length (take p bytes) ≡ p = length-take-le p bytes (omega arith) in
    sym (drop-take from len (with_word p w bytes))
    ∙ ap (drop from)
    (take-append-le (from + len) (take p bytes) (big_bytes 2 w ++ drop (p + 2) bytes) (omega (arith, size))
    ∙ take-take (from + len) p bytes behind)
    ∙ drop-take from len bytes

small-byte : (w i : ℕ) → byte i (big_bytes 2 w) < 256
small-byte w zero = omega arith
small-byte w (suc zero) = omega arith
small-byte w (suc (suc i)) = omega arith

pub bytes-written : (p w : ℕ) (bytes : List ℕ) → p + 2 ≤ length bytes → AreBytes bytes → AreBytes (with_word p w bytes)
bytes-written p w bytes fits are k = elim (cases_lt k p) [
  | inl before ↦ let e = byte-before p (big_bytes 2 w) bytes fits k before in omega (arith, e, are k)
  | inr from ↦ elim (cases_lt k (p + 2)) [
    | inl inside ↦
        let place : p + (k - p) ≡ k = omega arith in
        let e : byte k (with_word p w bytes) ≡ byte (k - p) (big_bytes 2 w) =
        ap (λ n. byte n (with_word p w bytes)) (sym place)
        ∙ byte-over p (big_bytes 2 w) bytes fits (k - p) (omega arith) in
        omega (arith, e, small-byte w (k - p))
    | inr behind ↦ let e = byte-behind p (big_bytes 2 w) bytes fits k behind in omega (arith, e, are k)
  ]
]

-- the word that was written is read
pub number-written : (p w : ℕ) (bytes : List ℕ) → p + 2 ≤ length bytes → w < 65536 → number 2 p (with_word p w bytes) ≡ w
number-written p w bytes fits small =
    let first : byte p (with_word p w bytes) ≡ w / 256 % 256 =
    ap (λ n. byte n (with_word p w bytes)) (omega arith) ∙ byte-over p (big_bytes 2 w) bytes fits 0 (omega arith) in
    let second : byte (p + 1) (with_word p w bytes) ≡ w % 256 = byte-over p (big_bytes 2 w) bytes fits 1 (omega arith) in
    let high : get_or (drop p (with_word p w bytes)) 0 0 ≡ byte (p + 0) (with_word p w bytes) =
    get_or-drop p (with_word p w bytes) 0 0 in
    let low : get_or (drop p (with_word p w bytes)) 1 0 ≡ byte (p + 1) (with_word p w bytes) =
    get_or-drop p (with_word p w bytes) 1 0 in
    let same : byte (p + 0) (with_word p w bytes) ≡ byte p (with_word p w bytes) =
    ap (λ n. byte n (with_word p w bytes)) (omega arith) in
    omega (arith, first, second, high, low, same)
