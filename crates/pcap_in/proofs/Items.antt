-- Headers and records that are whole, broken or torn: each is one of these, in one way.
use Rattle.std.proofs.Common.{◌≡◌, ◌∙◌, sym, ap, subst, inl, inr, ◌⊎◌, ℕ, Bool, true, ◌<◌, ◌≤◌, List, ◌++◌, length, arith, refl}
use Rattle.std.proofs.lemmas.List.{length-append, take-append-le}
use Rattle.onvm_base.specs.declared.frame.Frame.{Frame}
use Rattle.onvm_base.specs.declared.limits.TheConstants.{MAX_FRAME_BYTES}
use Rattle.pcap_in.specs.Classic.{HasMagic, IsHeader, IsRecord}
use Rattle.pcap_in.specs.Faulty.{BreaksHeader, BreaksRecord, EndsInRecord, HasVersion, IsTornRecord}
use Rattle.pcap_in.specs.Spelling.{number}
use Rattle.pcap_in.specs.declared.pull.PcapFault.{PcapFault}
use Rattle.pcap_in.specs.declared.pull.PcapFault.TheVariants.{Magic, Version, Link, Torn, TooLong, Fraction}
use Rattle.pcap_in.specs.declared.spelling.Spelling.{Spelling}
use Rattle.pcap_in.proofs.Grammar.{number-append, HasMagic-header, HasMagic-once}

-- an accepted header keeps the version, whatever follows
version_kept : (spelling : Spelling) (header rest : List ℕ) → IsHeader spelling header → HasVersion spelling (header ++ rest)
version_kept spelling header rest is = (
  number-append spelling.endian 2 4 header rest (omega (arith, is.size)) ∙ is.major,
  number-append spelling.endian 2 6 header rest (omega (arith, is.size)) ∙ is.minor,
)

-- an accepted header breaks none of its rules
pub header_keeps : (spelling : Spelling) (header rest : List ℕ) (fault : PcapFault) → IsHeader spelling header
    → BreaksHeader (header ++ rest) fault → ⊥
header_keeps spelling header rest Magic is broken = broken spelling (HasMagic-header spelling header rest is)
header_keeps spelling header rest Version is (other, magic, broken) =
    let same = HasMagic-once (header ++ rest) spelling other (HasMagic-header spelling header rest is) magic in
    let P : Spelling → Type 0 = λ s. HasVersion s (header ++ rest) in
    broken (subst P same (version_kept spelling header rest is))
header_keeps spelling header rest Link is (other, magic, version, broken) =
    let same = HasMagic-once (header ++ rest) spelling other (HasMagic-header spelling header rest is) magic in
    let P : Spelling → Type 0 = λ s. number s.endian 4 20 (header ++ rest) ≡ 1 in
    broken (subst P same (number-append spelling.endian 4 20 header rest (omega (arith, is.size)) ∙ is.link))
header_keeps spelling header rest (Torn at) is wrong = wrong
header_keeps spelling header rest (TooLong at len) is wrong = wrong
header_keeps spelling header rest (Fraction at) is wrong = wrong

-- the rules of a header in their order, of which one is the first that is broken
abbrev pub FirstBroken : List ℕ → PcapFault → Type 0
FirstBroken rest fault =
    ((fault ≡ Magic) × ((spelling : Spelling) → HasMagic spelling rest → ⊥))
    ⊎ ((spelling : Spelling) × HasMagic spelling rest
    × (((fault ≡ Version) × (HasVersion spelling rest → ⊥)) ⊎ ((fault ≡ Link) × HasVersion spelling rest)))

-- a fault of the header is the first rule that is broken
first_broken : (rest : List ℕ) (fault : PcapFault) → BreaksHeader rest fault → FirstBroken rest fault
first_broken rest Magic broken = inl (refl, broken)
first_broken rest Version (spelling, magic, broken) = inr (spelling, magic, inl (refl, broken))
first_broken rest Link (spelling, magic, version, broken) = inr (spelling, magic, inr (refl, version))
first_broken rest (Torn at) wrong = absurd wrong
first_broken rest (TooLong at len) wrong = absurd wrong
first_broken rest (Fraction at) wrong = absurd wrong

first_once : (rest : List ℕ) (f g : PcapFault) → FirstBroken rest f → FirstBroken rest g → f ≡ g
first_once rest f g (inl (e, none)) (inl (e', none')) = e ∙ sym e'
first_once rest f g (inl (e, none)) (inr (spelling, magic, rules)) = absurd (none spelling magic)
first_once rest f g (inr (spelling, magic, rules)) (inl (e', none')) = absurd (none' spelling magic)
first_once rest f g (inr (s, magic, inl (e, broken))) (inr (t, magic', inl (e', broken'))) = e ∙ sym e'
first_once rest f g (inr (s, magic, inr (e, version))) (inr (t, magic', inr (e', version'))) = e ∙ sym e'
first_once rest f g (inr (s, magic, inl (e, broken))) (inr (t, magic', inr (e', version'))) =
    let P : Spelling → Type 0 = λ u. HasVersion u rest in
    absurd (broken (subst P (HasMagic-once rest t s magic' magic) version'))
first_once rest f g (inr (s, magic, inr (e, version))) (inr (t, magic', inl (e', broken'))) =
    let P : Spelling → Type 0 = λ u. HasVersion u rest in
    absurd (broken' (subst P (HasMagic-once rest s t magic magic') version))

-- a header has one fault
pub header_once : (rest : List ℕ) (f g : PcapFault) → BreaksHeader rest f → BreaksHeader rest g → f ≡ g
header_once rest f g broken broken' = first_once rest f g (first_broken rest f broken) (first_broken rest g broken')

-- a rule that a whole header breaks is broken whatever follows
pub BreaksHeader-append : (text more : List ℕ) (fault : PcapFault) → 24 ≤ length text → BreaksHeader text fault → BreaksHeader (text ++ more) fault
BreaksHeader-append text more Magic whole broken =
    λ spelling magic. broken spelling (sym (take-append-le 4 text more (omega arith)) ∙ magic)
BreaksHeader-append text more Version whole (spelling, magic, broken) = (
  spelling,
  take-append-le 4 text more (omega arith) ∙ magic,
  λ is. broken (sym (number-append spelling.endian 2 4 text more (omega arith)) ∙ is.0, sym (number-append spelling.endian 2 6 text more (omega arith)) ∙ is.1),
)
BreaksHeader-append text more Link whole (spelling, magic, version, broken) = (
  spelling,
  take-append-le 4 text more (omega arith) ∙ magic,
  (number-append spelling.endian 2 4 text more (omega arith) ∙ version.0, number-append spelling.endian 2 6 text more (omega arith) ∙ version.1),
  λ is. broken (sym (number-append spelling.endian 4 20 text more (omega arith)) ∙ is),
)
BreaksHeader-append text more (Torn at) whole wrong = absurd wrong
BreaksHeader-append text more (TooLong at len) whole wrong = absurd wrong
BreaksHeader-append text more (Fraction at) whole wrong = absurd wrong

-- a whole record breaks none of its rules
pub record_keeps : (s : Spelling) (at : ℕ) (bytes rest : List ℕ) (frame : Frame) (fault : PcapFault) → IsRecord s bytes frame
    → BreaksRecord s at (bytes ++ rest) fault → ⊥
record_keeps s at bytes rest frame (TooLong place len) is broken =
    let same = number-append s.endian 4 8 bytes rest (omega (arith, is.size)) in
    omega (arith, same, broken.2, is.included, is.limit)
record_keeps s at bytes rest frame (Fraction place) is broken =
    let same = number-append s.endian 4 4 bytes rest (omega (arith, is.size)) in
    omega (arith, same, broken.2, is.fraction)
record_keeps s at bytes rest frame Magic is wrong = wrong
record_keeps s at bytes rest frame Version is wrong = wrong
record_keeps s at bytes rest frame Link is wrong = wrong
record_keeps s at bytes rest frame (Torn place) is wrong = wrong

-- a text doesn't end inside a whole record
pub record_whole : (s : Spelling) (bytes rest : List ℕ) (frame : Frame) → IsRecord s bytes frame → EndsInRecord s (bytes ++ rest) → ⊥
record_whole s bytes rest frame is (inl few) = omega (arith, length-append bytes rest, is.size)
record_whole s bytes rest frame is (inr inside) =
    let same = number-append s.endian 4 8 bytes rest (omega (arith, is.size)) in
    omega (arith, length-append bytes rest, is.size, is.included, same, inside.2)

-- bytes that end inside a record break none of its rules
pub ends_unbroken : (s : Spelling) (at : ℕ) (rest : List ℕ) (fault : PcapFault) → EndsInRecord s rest → 16 ≤ length rest
    → BreaksRecord s at rest fault → ⊥
ends_unbroken s at rest fault (inl short) whole broken = omega arith
ends_unbroken s at rest (TooLong place len) (inr (limit, fraction, short)) whole (place-is, len-is, over) = omega (arith, limit, over)
ends_unbroken s at rest (Fraction place) (inr (limit, fraction, short)) whole (place-is, within, over) = omega (arith, fraction, over)
ends_unbroken s at rest Magic (inr ends) whole wrong = wrong
ends_unbroken s at rest Version (inr ends) whole wrong = wrong
ends_unbroken s at rest Link (inr ends) whole wrong = wrong
ends_unbroken s at rest (Torn place) (inr ends) whole wrong = wrong

-- the rules of a record's head in their order, of which one is the first that is broken
abbrev FirstBrokenOfHead : Spelling → ℕ → List ℕ → PcapFault → Type 0
FirstBrokenOfHead s at rest fault =
    ((fault ≡ TooLong at (number s.endian 4 8 rest)) × (MAX_FRAME_BYTES < number s.endian 4 8 rest))
    ⊎ ((fault ≡ Fraction at) × (number s.endian 4 8 rest ≤ MAX_FRAME_BYTES))

first_broken_of_head : (s : Spelling) (at : ℕ) (rest : List ℕ) (fault : PcapFault) → BreaksRecord s at rest fault
    → FirstBrokenOfHead s at rest fault
first_broken_of_head s at rest (TooLong place len) (place-is, len-is, over) = inl (rw (place-is, len-is) refl, over)
first_broken_of_head s at rest (Fraction place) (place-is, within, over) = inr (rw place-is refl, within)
first_broken_of_head s at rest Magic wrong = absurd wrong
first_broken_of_head s at rest Version wrong = absurd wrong
first_broken_of_head s at rest Link wrong = absurd wrong
first_broken_of_head s at rest (Torn place) wrong = absurd wrong

first_once_of_head : (s : Spelling) (at : ℕ) (rest : List ℕ) (f g : PcapFault) → FirstBrokenOfHead s at rest f
    → FirstBrokenOfHead s at rest g → f ≡ g
first_once_of_head s at rest f g (inl (e, over)) (inl (e', over')) = e ∙ sym e'
first_once_of_head s at rest f g (inl (e, over)) (inr (e', within')) = absurd (omega (arith, over, within'))
first_once_of_head s at rest f g (inr (e, within)) (inl (e', over')) = absurd (omega (arith, within, over'))
first_once_of_head s at rest f g (inr (e, within)) (inr (e', within')) = e ∙ sym e'

-- a record's head has one fault
pub head_once : (s : Spelling) (at : ℕ) (rest : List ℕ) (f g : PcapFault) → BreaksRecord s at rest f → BreaksRecord s at rest g → f ≡ g
head_once s at rest f g broken broken' =
    first_once_of_head s at rest f g (first_broken_of_head s at rest f broken) (first_broken_of_head s at rest g broken')

-- a rule that a record's whole head breaks is broken whatever follows
pub BreaksRecord-append : (s : Spelling) (at : ℕ) (text more : List ℕ) (fault : PcapFault) → 16 ≤ length text
    → BreaksRecord s at text fault → BreaksRecord s at (text ++ more) fault
BreaksRecord-append s at text more (TooLong place len) whole broken =
    let same = number-append s.endian 4 8 text more (omega arith) in
    (broken.0, broken.1 ∙ sym same, omega (arith, same, broken.2))
BreaksRecord-append s at text more (Fraction place) whole broken =
    let length_same = number-append s.endian 4 8 text more (omega arith) in
    let same = number-append s.endian 4 4 text more (omega arith) in
    (broken.0, omega (arith, length_same, broken.1), omega (arith, same, broken.2))
BreaksRecord-append s at text more Magic whole wrong = absurd wrong
BreaksRecord-append s at text more Version whole wrong = absurd wrong
BreaksRecord-append s at text more Link whole wrong = absurd wrong
BreaksRecord-append s at text more (Torn place) whole wrong = absurd wrong

-- a torn record: the text has ended, inside it and not before
pub torn_is : (s : Spelling) (at : ℕ) (rest : List ℕ) (finished : Bool) (fault : PcapFault) → IsTornRecord s at rest finished fault
    → (finished ≡ true) × (fault ≡ Torn at) × (0 < length rest) × EndsInRecord s rest
torn_is s at rest finished (Torn place) torn = (torn.0, ap (λ (n : ℕ). Torn n) torn.1, torn.2, torn.3)
torn_is s at rest finished Magic wrong = absurd wrong
torn_is s at rest finished Version wrong = absurd wrong
torn_is s at rest finished Link wrong = absurd wrong
torn_is s at rest finished (TooLong place len) wrong = absurd wrong
torn_is s at rest finished (Fraction place) wrong = absurd wrong
