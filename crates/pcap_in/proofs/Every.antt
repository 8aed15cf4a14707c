-- Every text has a reading.
use Rattle.std.proofs.Common.{◌≡◌, ◌≢◌, sym, ap, refl, ◌⊎◌, inl, inr, ℕ, zero, suc, ◌+◌, ◌-◌, ◌<◌, ◌≤◌, List, [], ◌∷◌, ◌++◌, length, take, drop, arith}
use Rattle.std.proofs.lemmas.Bool.{cases_lt}
use Rattle.std.proofs.lemmas.List.{length-drop, take-append-drop}
use Rattle.onvm_base.specs.declared.frame.Frame.{Frame}
use Rattle.onvm_base.specs.declared.limits.TheConstants.{MAX_FRAME_BYTES}
use Rattle.pcap_in.specs.Classic.{AreRecords, HasMagic, IsCapture, IsHeader, IsRecord}
use Rattle.pcap_in.specs.Faulty.{AreRecordsUpTo, IsCaptureUpTo}
use Rattle.pcap_in.specs.Spelling.{head_of, in_nanos, magic_of, number, per_second}
use Rattle.pcap_in.specs.declared.pull.PcapFault.{PcapFault}
use Rattle.pcap_in.specs.declared.pull.PcapFault.TheVariants.{Magic, Version, Link, Torn, TooLong, Fraction}
use Rattle.pcap_in.specs.declared.spelling.Endian.{Endian}
use Rattle.pcap_in.specs.declared.spelling.Endian.TheVariants.{Little, Big}
use Rattle.pcap_in.specs.declared.spelling.RecordHead.{RecordHead}
use Rattle.pcap_in.specs.declared.spelling.Spelling.{Spelling}
use Rattle.pcap_in.specs.declared.spelling.Unit.{Unit}
use Rattle.pcap_in.specs.declared.spelling.Unit.TheVariants.{Micros, Nanos}
use Rattle.pcap_in.proofs.Judging.{header_of, record_of}

-- two numbers are the same or not
same_number : (m n : ℕ) → (m ≡ n) ⊎ (m ≢ n)
same_number m n = below (cases_lt m n) (cases_lt n m)
  where
    below : (m < n) ⊎ (n ≤ m) → (n < m) ⊎ (m ≤ n) → (m ≡ n) ⊎ (m ≢ n)
    below (inl less) more = inr (λ e. omega (arith, less, e))
    below (inr most) (inl less) = inr (λ e. omega (arith, less, e))
    below (inr most) (inr least) = inl (omega (arith, most, least))

-- two texts are the same or not
same_text : (xs ys : List ℕ) → (xs ≡ ys) ⊎ (xs ≢ ys)
same_text [] [] = inl refl
same_text [] (y ∷ ys) = inr (λ e. omega (arith, ap (length {A = ℕ}) e))
same_text (x ∷ xs) [] = inr (λ e. omega (arith, ap (length {A = ℕ}) e))
same_text (x ∷ xs) (y ∷ ys) = both (same_number x y) (same_text xs ys)
  where
    both : (x ≡ y) ⊎ (x ≢ y) → (xs ≡ ys) ⊎ (xs ≢ ys) → (x ∷ xs ≡ y ∷ ys) ⊎ (x ∷ xs ≢ y ∷ ys)
    both (inl head) (inl tail) = inl (cc)
    both (inr differs) either = inr (λ e. differs (cc))
    both (inl head) (inr differs) = inr (λ e. differs (cc))

abbrev spelled : Endian → Unit → Spelling
spelled endian unit = record { endian = endian; unit = unit }

-- a text begins in a spelling or in none
begins : (text : List ℕ) → ((s : Spelling) × HasMagic s text) ⊎ ((s : Spelling) → ¬ (HasMagic s text))
begins text =
    tried (same_text (take 4 text) (magic_of Little Micros)) (same_text (take 4 text) (magic_of Big Micros))
    (same_text (take 4 text) (magic_of Little Nanos)) (same_text (take 4 text) (magic_of Big Nanos))
  where
    Begins : Endian → Unit → Type 0
    Begins endian unit = (take 4 text ≡ magic_of endian unit) ⊎ (take 4 text ≢ magic_of endian unit)

    none : take 4 text ≢ magic_of Little Micros → take 4 text ≢ magic_of Big Micros → take 4 text ≢ magic_of Little Nanos
        → take 4 text ≢ magic_of Big Nanos → (endian : Endian) (unit : Unit) → take 4 text ≢ magic_of endian unit
    none a b c d Little Micros = a
    none a b c d Big Micros = b
    none a b c d Little Nanos = c
    none a b c d Big Nanos = d

    tried : Begins Little Micros → Begins Big Micros → Begins Little Nanos → Begins Big Nanos
        → ((s : Spelling) × HasMagic s text) ⊎ ((s : Spelling) → ¬ (HasMagic s text))
    tried (inl is) b c d = inl (spelled Little Micros, is)
    tried (inr a) (inl is) c d = inl (spelled Big Micros, is)
    tried (inr a) (inr b) (inl is) d = inl (spelled Little Nanos, is)
    tried (inr a) (inr b) (inr c) (inl is) = inl (spelled Big Nanos, is)
    tried (inr a) (inr b) (inr c) (inr d) = inr (λ s. none a b c d s.endian s.unit)

-- how a text from an offset on is read
abbrev ReadsRecords : Spelling → ℕ → List ℕ → Type 0
ReadsRecords s at text =
    ((frames : List Frame) × AreRecords s text frames)
    ⊎ ((frames : List Frame) × (fault : PcapFault) × AreRecordsUpTo s at text frames fault)

-- one record more
read_behind : (s : Spelling) (at : ℕ) (text bytes rest : List ℕ) (frame : Frame) → text ≡ bytes ++ rest → IsRecord s bytes frame
    → ReadsRecords s (at + length bytes) rest → ReadsRecords s at text
read_behind s at text bytes rest frame text-is is (inl (frames, records)) = inl (frame ∷ frames, (bytes, rest, text-is, is, records))
read_behind s at text bytes rest frame text-is is (inr (frames, fault, up_to)) =
    inr (frame ∷ frames, fault, (bytes, rest, text-is, is, up_to))

-- the record of a head that keeps the rules, whose bytes are there
whole_record : (s : Spelling) (text : List ℕ) → number s.endian 4 8 text ≤ MAX_FRAME_BYTES
    → number s.endian 4 4 text < per_second s.unit → 16 + number s.endian 4 8 text ≤ length text
    → (frame : Frame) × IsRecord s (take (16 + number s.endian 4 8 text) text) frame
whole_record s text limit fraction whole =
    let head : RecordHead = head_of s.endian text in
    let is = record_of s text head (in_nanos s.unit head.fraction) (head.original - head.included) refl whole limit fraction refl refl in
    (_, is.1)

-- a text that isn't empty, where the shorter ones behind its first record are read
read_first : (n : ℕ) (s : Spelling) (at : ℕ) (text : List ℕ) → 0 < length text → length text ≤ suc n
    → ((at' : ℕ) (rest : List ℕ) → length rest ≤ n → ReadsRecords s at' rest) → ReadsRecords s at text
read_first n s at text some within shorter = by_head (cases_lt (length text) 16)
  where
    by_bytes : 16 ≤ length text → number s.endian 4 8 text ≤ MAX_FRAME_BYTES → number s.endian 4 4 text < per_second s.unit
        → (length text < 16 + number s.endian 4 8 text) ⊎ (16 + number s.endian 4 8 text ≤ length text) → ReadsRecords s at text
    by_bytes head limit fraction (inl short) = inr ([], Torn at, inr (refl, refl, some, inr (limit, fraction, short)))
    by_bytes head limit fraction (inr whole) =
        let size : ℕ = 16 + number s.endian 4 8 text in
        let one = whole_record s text limit fraction whole in
        let left : length (drop size text) ≤ n = omega (arith, length-drop size text, within, whole) in
        read_behind s at text (take size text) (drop size text) one.0 (sym (take-append-drop size text)) one.1
        (shorter (at + length (take size text)) (drop size text) left)

    by_fraction : 16 ≤ length text → number s.endian 4 8 text ≤ MAX_FRAME_BYTES
        → (number s.endian 4 4 text < per_second s.unit) ⊎ (per_second s.unit ≤ number s.endian 4 4 text) → ReadsRecords s at text
    by_fraction head limit (inl fraction) = by_bytes head limit fraction (cases_lt (length text) (16 + number s.endian 4 8 text))
    by_fraction head limit (inr over) = inr ([], Fraction at, inl (head, (refl, limit, over)))

    by_length : 16 ≤ length text → (MAX_FRAME_BYTES < number s.endian 4 8 text) ⊎ (number s.endian 4 8 text ≤ MAX_FRAME_BYTES)
        → ReadsRecords s at text
    by_length head (inl over) = inr ([], TooLong at (number s.endian 4 8 text), inl (head, (refl, refl, over)))
    by_length head (inr limit) = by_fraction head limit (cases_lt (number s.endian 4 4 text) (per_second s.unit))

    by_head : (length text < 16) ⊎ (16 ≤ length text) → ReadsRecords s at text
    by_head (inl short) = inr ([], Torn at, inr (refl, refl, some, inl short))
    by_head (inr head) = by_length head (cases_lt MAX_FRAME_BYTES (number s.endian 4 8 text))

-- records to the end, or up to a fault
read_records : (n : ℕ) (s : Spelling) (at : ℕ) (text : List ℕ) → length text ≤ n → ReadsRecords s at text
read_records n s at [] within = inl ([], refl)
read_records zero s at (byte ∷ bytes) within = absurd (omega (arith, within))
read_records (suc n) s at (byte ∷ bytes) within =
    read_first n s at (byte ∷ bytes) (omega arith) within (λ at' rest few. read_records n s at' rest few)

-- how a text is read
abbrev Reads : List ℕ → Type 0
Reads text =
    ((frames : List Frame) × IsCapture text frames)
    ⊎ ((frames : List Frame) × (fault : PcapFault) × IsCaptureUpTo text frames fault)

-- behind an accepted header
read_behind_header : (s : Spelling) (text : List ℕ) → IsHeader s (take 24 text) → ReadsRecords s 24 (drop 24 text) → Reads text
read_behind_header s text is (inl (frames, records)) =
    inl (frames, (s, (take 24 text, drop 24 text, sym (take-append-drop 24 text), is, records)))
read_behind_header s text is (inr (frames, fault, up_to)) =
    inr (frames, fault, inr (inr (s, take 24 text, drop 24 text, sym (take-append-drop 24 text), is, up_to)))

-- in the spelling of its magic
read_in : (s : Spelling) (text : List ℕ) → 24 ≤ length text → HasMagic s text → Reads text
read_in s text whole magic =
    by_version (same_number (number s.endian 2 4 text) 2) (same_number (number s.endian 2 6 text) 4)
  where
    by_link : number s.endian 2 4 text ≡ 2 → number s.endian 2 6 text ≡ 4
        → (number s.endian 4 20 text ≡ 1) ⊎ (number s.endian 4 20 text ≢ 1) → Reads text
    by_link major minor (inl link) =
        let is = header_of s text whole magic major minor link in
        read_behind_header s text is.1 (read_records (length (drop 24 text)) s 24 (drop 24 text) (omega arith))
    by_link major minor (inr other) = inr ([], Link, inr (inl (refl, whole, (s, magic, (major, minor), other))))

    by_version : (number s.endian 2 4 text ≡ 2) ⊎ (number s.endian 2 4 text ≢ 2)
        → (number s.endian 2 6 text ≡ 4) ⊎ (number s.endian 2 6 text ≢ 4) → Reads text
    by_version (inr other) either = inr ([], Version, inr (inl (refl, whole, (s, magic, λ is. other is.0))))
    by_version (inl major) (inr other) = inr ([], Version, inr (inl (refl, whole, (s, magic, λ is. other is.1))))
    by_version (inl major) (inl minor) = by_link major minor (same_number (number s.endian 4 20 text) 1)

-- every text is a capture, or one up to a fault
pub reads_every : (text : List ℕ) → Reads text
reads_every text = by_size (cases_lt (length text) 24)
  where
    by_magic : 24 ≤ length text → ((s : Spelling) × HasMagic s text) ⊎ ((s : Spelling) → ¬ (HasMagic s text)) → Reads text
    by_magic whole (inl (s, magic)) = read_in s text whole magic
    by_magic whole (inr none) = inr ([], Magic, inr (inl (refl, whole, none)))

    by_size : (length text < 24) ⊎ (24 ≤ length text) → Reads text
    by_size (inl short) = inr ([], Torn 0, inl (refl, short, refl))
    by_size (inr whole) = by_magic whole (begins text)
