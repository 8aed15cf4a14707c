-- What was read of the bytes at hand makes a header or a record of the grammar.
use Rattle.std.proofs.Common.{◌≡◌, ◌∙◌, sym, ap, ℕ, suc, zero, ◌+◌, ◌-◌, ◌<◌, ◌≤◌, List, length, take, drop, get_or, arith, refl}
use Rattle.std.proofs.lemmas.List.{get_or-drop, get_or-take, length-take-le, length-drop, take-take, drop-take}
use Rattle.byteorder.specs.Endian.{big_from, little_from}
use Rattle.onvm_base.specs.declared.limits.TheConstants.{MAX_FRAME_BYTES}
use Rattle.pcap_in.specs.Classic.{HasMagic, IsHeader, IsRecord}
use Rattle.pcap_in.specs.Spelling.{head_of, in_nanos, number, per_second}
use Rattle.pcap_in.specs.declared.spelling.Endian.{Endian}
use Rattle.pcap_in.specs.declared.spelling.Endian.TheVariants.{Little, Big}
use Rattle.pcap_in.specs.declared.spelling.RecordHead.{RecordHead}
use Rattle.pcap_in.specs.declared.spelling.Spelling.{Spelling}

-- lists that are the same at some places have the same number in them
little_from-same : (n i : ℕ) (xs ys : List ℕ) → ((k : ℕ) → k < i + n → get_or xs k 0 ≡ get_or ys k 0)
    → little_from i n xs ≡ little_from i n ys
little_from-same zero i xs ys same = refl
little_from-same (suc n) i xs ys same =
    let here : get_or xs i 0 ≡ get_or ys i 0 = same i (omega arith) in
    let rest : little_from (suc i) n xs ≡ little_from (suc i) n ys =
    little_from-same n (suc i) xs ys (λ k l. same k (omega arith)) in
    rw (here, rest) refl

big_from-same : (n i : ℕ) (xs ys : List ℕ) → ((k : ℕ) → k < i + n → get_or xs k 0 ≡ get_or ys k 0)
    → big_from i n xs ≡ big_from i n ys
big_from-same zero i xs ys same = refl
big_from-same (suc n) i xs ys same =
    let here : get_or xs i 0 ≡ get_or ys i 0 = same i (omega arith) in
    let rest : big_from (suc i) n xs ≡ big_from (suc i) n ys =
    big_from-same n (suc i) xs ys (λ k l. same k (omega arith)) in
    rw (here, rest) refl

-- texts that are the same at the places of a number have the same number there
pub number-same : (endian : Endian) (count at : ℕ) (xs ys : List ℕ)
    → ((k : ℕ) → k < at + count → get_or xs k 0 ≡ get_or ys k 0) → number endian count at xs ≡ number endian count at ys
number-same Little count at xs ys same =
    little_from-same count 0 (drop at xs) (drop at ys)
    (λ k l. get_or-drop at xs k 0 ∙ same (at + k) (omega arith) ∙ sym (get_or-drop at ys k 0))
number-same Big count at xs ys same =
    big_from-same count 0 (drop at xs) (drop at ys)
    (λ k l. get_or-drop at xs k 0 ∙ same (at + k) (omega arith) ∙ sym (get_or-drop at ys k 0))

-- a number that stands in the first bytes doesn't change when the others are cut off
pub number-take : (endian : Endian) (count at n : ℕ) (bytes : List ℕ) → at + count ≤ n
    → number endian count at (take n bytes) ≡ number endian count at bytes
number-take endian count at n bytes within =
    number-same endian count at (take n bytes) bytes (λ k l. get_or-take n bytes k 0 (omega arith))

-- 24 bytes of the values wanted are a header
pub header_of : (spelling : Spelling) (rest : List ℕ) → 24 ≤ length rest → HasMagic spelling rest
    → number spelling.endian 2 4 rest ≡ 2 → number spelling.endian 2 6 rest ≡ 4 → number spelling.endian 4 20 rest ≡ 1
    → (24 ≤ length rest) × IsHeader spelling (take 24 rest)
header_of spelling rest whole magic major minor link = (
  whole,
  record {
    size = length-take-le 24 rest whole;
    magic = take-take 4 24 rest (omega arith) ∙ magic;
    major = number-take spelling.endian 2 4 24 rest (omega arith) ∙ major;
    minor = number-take spelling.endian 2 6 24 rest (omega arith) ∙ minor;
    link = number-take spelling.endian 4 20 24 rest (omega arith) ∙ link;
  },
)

-- a head that keeps the rules, and the bytes that it counts, are a record
pub record_of : (spelling : Spelling) (rest : List ℕ) (head : RecordHead) (nanos tail : ℕ) → head ≡ head_of spelling.endian rest
    → 16 + head.included ≤ length rest → head.included ≤ MAX_FRAME_BYTES → head.fraction < per_second spelling.unit
    → nanos ≡ in_nanos spelling.unit head.fraction → tail ≡ head.original - head.included
    → (16 + head.included ≤ length rest)
    × IsRecord spelling (take (16 + head.included) rest)
    (record { stamp = record { seconds = head.seconds; nanos = nanos; tail = tail }; packet = take head.included (drop 16 rest) })
record_of spelling rest head nanos tail is whole limit fraction nanos-is tail-is =
    let len : ℕ = head.included in
    let size : length (take len (drop 16 rest)) ≡ len = length-take-le len (drop 16 rest) (omega (arith, length-drop 16 rest)) in
    let at0 = number-take spelling.endian 4 0 (16 + len) rest (omega arith) in
    let at4 = number-take spelling.endian 4 4 (16 + len) rest (omega arith) in
    let at8 = number-take spelling.endian 4 8 (16 + len) rest (omega arith) in
    let at12 = number-take spelling.endian 4 12 (16 + len) rest (omega arith) in
    let fractions : head.fraction ≡ number spelling.endian 4 4 (take (16 + len) rest) = ap (λ (h : RecordHead). h.fraction) is ∙ sym at4 in
    let included : len ≡ number spelling.endian 4 8 (take (16 + len) rest) = ap (λ (h : RecordHead). h.included) is ∙ sym at8 in
    let original : head.original ≡ number spelling.endian 4 12 (take (16 + len) rest) = ap (λ (h : RecordHead). h.original) is ∙ sym at12 in (
      whole,
      record {
        seconds = ap (λ (h : RecordHead). h.seconds) is ∙ sym at0;
        fraction = omega (arith, fractions, fraction);
        nanos = nanos-is ∙ ap (in_nanos spelling.unit) fractions;
        included = sym included ∙ sym size;
        limit = omega (arith, size, limit);
        tail = omega (arith, tail-is, original, included);
        size = length-take-le (16 + len) rest whole ∙ ap (λ n. 16 + n) (sym size);
        packet = sym (drop-take 16 len rest);
      },
    )
