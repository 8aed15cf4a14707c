-- What bytes written over leave of the others.
use Rattle.std.proofs.Common.{◌≡◌, ◌∙◌, sym, ap, ℕ, zero, suc, ◌+◌, ◌-◌, ◌<◌, ◌≤◌, List, [], ◌∷◌, ◌++◌, length, take, drop, get_or, arith, refl}
use Rattle.std.proofs.lemmas.List.{get_or_append_left, get_or-append_right, get_or-take, get_or-drop, length-append, length-drop, length-take-le, take-take, drop-take, drop-drop, drop-append-le}
use Rattle.byteorder.specs.Endian.{big_from}
use Rattle.onvm_packet.specs.Bytes.{byte, number}
use Rattle.onvm_packet.specs.Edits.{with_bytes_at}

-- a list that has been gone past in part
pub take-past : (front back : List ℕ) (n m : ℕ) → n ≡ length front + m → take n (front ++ back) ≡ front ++ take m back
take-past [] back n m e = let same : n ≡ m = omega arith in ap (λ (k : ℕ). take k back) same
take-past (x ∷ front) back zero m e = absurd (omega arith)
take-past (x ∷ front) back (suc n) m e = ap (λ (t : List ℕ). x ∷ t) (take-past front back n m (omega arith))

-- lists that are the same at some places have the same number there
pub big_from-same : (n i : ℕ) (xs ys : List ℕ) → ((k : ℕ) → k < i + n → get_or xs k 0 ≡ get_or ys k 0)
    → big_from i n xs ≡ big_from i n ys
big_from-same zero i xs ys same = refl
big_from-same (suc n) i xs ys same =
    let here : get_or xs i 0 ≡ get_or ys i 0 = same i (omega arith) in
    let rest : big_from (suc i) n xs ≡ big_from (suc i) n ys = big_from-same n (suc i) xs ys (λ k l. same k (omega arith)) in
    rw (here, rest) refl

module _ (at : ℕ) (over bytes : List ℕ) (fits : at + length over ≤ length bytes) where
  front-length : length (take at bytes) ≡ at
  front-length = length-take-le at bytes (omega arith)

  pub length-with_bytes_at : length (with_bytes_at at over bytes) ≡ length bytes
  length-with_bytes_at =
      let back : length (drop (at + length over) bytes) ≡ length bytes - (at + length over) = length-drop (at + length over) bytes in
      length-append (take at bytes) (over ++ drop (at + length over) bytes)
      ∙ omega (arith, front-length, length-append over (drop (at + length over) bytes), back)

  pub byte-before : (k : ℕ) → k < at → byte k (with_bytes_at at over bytes) ≡ byte k bytes
  byte-before k before =
      get_or_append_left (take at bytes) (over ++ drop (at + length over) bytes) 0 k (omega (arith, front-length))
      ∙ get_or-take at bytes k 0 before

  pub byte-over : (k : ℕ) → k < length over → byte (at + k) (with_bytes_at at over bytes) ≡ byte k over
  byte-over k inside =
      let place : at + k - at ≡ k = omega arith in
      get_or-append_right (take at bytes) (over ++ drop (at + length over) bytes) at (at + k) 0 front-length (omega arith)
      ∙ ap (λ (n : ℕ). get_or (over ++ drop (at + length over) bytes) n 0) place
      ∙ get_or_append_left over (drop (at + length over) bytes) 0 k inside

  pub byte-behind : (k : ℕ) → at + length over ≤ k → byte k (with_bytes_at at over bytes) ≡ byte k bytes
  byte-behind k behind =
      let place : at + length over + (k - at - length over) ≡ k = omega arith in
      get_or-append_right (take at bytes) (over ++ drop (at + length over) bytes) at k 0 front-length (omega arith)
      ∙ get_or-append_right over (drop (at + length over) bytes) (length over) (k - at) 0 refl (omega arith)
      ∙ get_or-drop (at + length over) bytes (k - at - length over) 0
      ∙ ap (λ (n : ℕ). get_or bytes n 0) place

  pub number-before : (count k : ℕ) → k + count ≤ at → number count k (with_bytes_at at over bytes) ≡ number count k bytes
  number-before count k before =
      big_from-same count 0 _ _ (λ i l. get_or-drop k (with_bytes_at at over bytes) i 0 ∙ byte-before (k + i) (omega arith) ∙ sym (get_or-drop k bytes i 0))

  pub number-behind : (count k : ℕ) → at + length over ≤ k → number count k (with_bytes_at at over bytes) ≡ number count k bytes
  number-behind count k behind =
      big_from-same count 0 _ _ (λ i l. get_or-drop k (with_bytes_at at over bytes) i 0 ∙ byte-behind (k + i) (omega arith) ∙ sym (get_or-drop k bytes i 0))

  -- the first bytes, with what is written over among them
  pub take-with_bytes_at : (n : ℕ) → at + length over ≤ n → take n (with_bytes_at at over bytes) ≡ with_bytes_at at over (take n bytes)
  take-with_bytes_at n behind =
      let m : ℕ = n - (at + length over) in
      let split : at + length over + m ≡ n = omega arith in
      let rest : drop (at + length over) (take n bytes) ≡ take m (drop (at + length over) bytes) =
      ap (λ (k : ℕ). drop (at + length over) (take k bytes)) (sym split) ∙ drop-take (at + length over) m bytes in
      take-past (take at bytes) (over ++ drop (at + length over) bytes) n (length over + m) (omega (arith, front-length))
      ∙ ap (λ (t : List ℕ). take at bytes ++ t) (take-past over (drop (at + length over) bytes) (length over + m) m refl)
      ∙ ap (λ (t : List ℕ). take at bytes ++ (over ++ t)) (sym rest)
      ∙ ap (λ (t : List ℕ). t ++ (over ++ drop (at + length over) (take n bytes))) (sym (take-take at n bytes (omega arith)))

-- the bytes from an offset on
pub drop-with_bytes_at : (from at : ℕ) (over bytes : List ℕ) → from + at + length over ≤ length bytes
    → drop from (with_bytes_at (from + at) over bytes) ≡ with_bytes_at at over (drop from bytes)
drop-with_bytes_at from at over bytes fits =
    let back : List ℕ = over ++ drop (from + at + length over) bytes in
    let size : length (take (from + at) bytes) ≡ from + at = length-take-le (from + at) bytes (omega arith) in
    let behind : drop (from + at + length over) bytes ≡ drop (at + length over) (drop from bytes) =
    ap (λ (k : ℕ). drop k bytes) (omega arith) ∙ sym (drop-drop (at + length over) from bytes) in
    drop-append-le from (take (from + at) bytes) back (omega (arith, size))
    ∙ ap (λ (t : List ℕ). t ++ back) (drop-take from at bytes)
    ∙ ap (λ (t : List ℕ). take at (drop from bytes) ++ (over ++ t)) behind
