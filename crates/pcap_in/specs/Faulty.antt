-- Texts that are no captures: the frames before the first fault, and which fault it is.
use Rattle.std.specs.Prelude.{◌≡◌, ◌≢◌, ◌⊎◌, ℕ, ◌+◌, ◌<◌, ◌≤◌, Bool, true, List, [], ◌∷◌, ◌++◌, length}
use Rattle.onvm_base.specs.declared.frame.Frame.{Frame}
use Rattle.onvm_base.specs.declared.limits.TheConstants.{MAX_FRAME_BYTES}
use Rattle.pcap_in.specs.Classic.{HasMagic, IsHeader, IsRecord}
use Rattle.pcap_in.specs.Spelling.{number, per_second}
use Rattle.pcap_in.specs.declared.judge.TheConstants.{HEADER_LEN, HEAD_LEN}
use Rattle.pcap_in.specs.declared.pull.PcapFault.{PcapFault}
use Rattle.pcap_in.specs.declared.pull.PcapFault.TheVariants.{Magic, Version, Link, Torn, TooLong, Fraction}
use Rattle.pcap_in.specs.declared.spelling.Spelling.{Spelling}

-- the bytes end before a record's head is whole, or inside a record whose head keeps the rules
abbrev pub EndsInRecord : Spelling → List ℕ → Type 0
EndsInRecord spelling rest =
    (length rest < HEAD_LEN)
    ⊎ ((number spelling.endian 4 8 rest ≤ MAX_FRAME_BYTES)
    × (number spelling.endian 4 4 rest < per_second spelling.unit)
    × (length rest < HEAD_LEN + number spelling.endian 4 8 rest))

-- the version is 2.4
abbrev pub HasVersion : Spelling → List ℕ → Type 0
HasVersion spelling rest = (number spelling.endian 2 4 rest ≡ 2) × (number spelling.endian 2 6 rest ≡ 4)

-- the rule that a whole header breaks: of several the first
abbrev pub BreaksHeader : List ℕ → PcapFault → Type 0
BreaksHeader rest Magic = (spelling : Spelling) → ¬ (HasMagic spelling rest)
BreaksHeader rest Version = (spelling : Spelling) × HasMagic spelling rest × ¬ (HasVersion spelling rest)
BreaksHeader rest Link =
    (spelling : Spelling) × HasMagic spelling rest × HasVersion spelling rest
    × (number spelling.endian 4 20 rest ≢ 1)
BreaksHeader rest (Torn at) = ⊥
BreaksHeader rest (TooLong at len) = ⊥
BreaksHeader rest (Fraction at) = ⊥

-- the rule that a record's whole head breaks, at the offset where the record begins: of two the first
abbrev pub BreaksRecord : Spelling → ℕ → List ℕ → PcapFault → Type 0
BreaksRecord spelling at rest (TooLong place len) =
    (place ≡ at) × (len ≡ number spelling.endian 4 8 rest) × (MAX_FRAME_BYTES < number spelling.endian 4 8 rest)
BreaksRecord spelling at rest (Fraction place) =
    (place ≡ at) × (number spelling.endian 4 8 rest ≤ MAX_FRAME_BYTES)
    × (per_second spelling.unit ≤ number spelling.endian 4 4 rest)
BreaksRecord spelling at rest Magic = ⊥
BreaksRecord spelling at rest Version = ⊥
BreaksRecord spelling at rest Link = ⊥
BreaksRecord spelling at rest (Torn place) = ⊥

-- no more bytes come, and they end inside the record at an offset
abbrev pub IsTornRecord : Spelling → ℕ → List ℕ → Bool → PcapFault → Type 0
IsTornRecord spelling at rest finished (Torn place) =
    (finished ≡ true) × (place ≡ at) × (0 < length rest) × EndsInRecord spelling rest
IsTornRecord spelling at rest finished Magic = ⊥
IsTornRecord spelling at rest finished Version = ⊥
IsTornRecord spelling at rest finished Link = ⊥
IsTornRecord spelling at rest finished (TooLong place len) = ⊥
IsTornRecord spelling at rest finished (Fraction place) = ⊥

-- the bytes from an offset on are the records of these frames, and then one that breaks a rule or is torn
abbrev pub AreRecordsUpTo : Spelling → ℕ → List ℕ → List Frame → PcapFault → Type 0
AreRecordsUpTo spelling at text [] fault =
    ((HEAD_LEN ≤ length text) × BreaksRecord spelling at text fault) ⊎ IsTornRecord spelling at text true fault
AreRecordsUpTo spelling at text (frame ∷ frames) fault =
    (record_bytes rest : List ℕ) × (text ≡ record_bytes ++ rest) × IsRecord spelling record_bytes frame
    × AreRecordsUpTo spelling (at + length record_bytes) rest frames fault

-- a text has these frames, and then this fault
abbrev pub IsCaptureUpTo : List ℕ → List Frame → PcapFault → Type 0
IsCaptureUpTo text frames fault =
    ((frames ≡ []) × (length text < HEADER_LEN) × (fault ≡ Torn 0))
    ⊎ ((frames ≡ []) × (HEADER_LEN ≤ length text) × BreaksHeader text fault)
    ⊎ ((spelling : Spelling) × (header rest : List ℕ) × (text ≡ header ++ rest)
    × IsHeader spelling header × AreRecordsUpTo spelling HEADER_LEN rest frames fault)
