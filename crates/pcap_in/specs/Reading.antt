-- What a reader answers, from the bytes that no frame has used.
use Rattle.std.specs.Prelude.{◌≡◌, ◌⊎◌, ℕ, ◌+◌, ◌<◌, ◌≤◌, Bool, true, false, Option, Some, None, List, [], ◌++◌, length}
use Rattle.onvm_base.specs.declared.frame.Frame.{Frame}
use Rattle.pcap_in.specs.Classic.{IsHeader, IsRecord, AreRecords}
use Rattle.pcap_in.specs.Faulty.{BreaksHeader, BreaksRecord, EndsInRecord, IsTornRecord}
use Rattle.pcap_in.specs.declared.judge.TheConstants.{HEADER_LEN, HEAD_LEN}
use Rattle.pcap_in.specs.declared.pull.PcapFault.{PcapFault}
use Rattle.pcap_in.specs.declared.pull.PcapFault.TheVariants.{Magic, Version, Link, Torn, TooLong, Fraction}
use Rattle.pcap_in.specs.declared.pull.Pull.{Pull}
use Rattle.pcap_in.specs.declared.pull.Pull.TheVariants as pull
use Rattle.pcap_in.specs.declared.spelling.Spelling.{Spelling}

-- the bytes fed that no frame has used, how many were fed before them, and whether more may come.
-- Until the first frame the header is among them, and then its spelling is known
pub record Reading : Type 0 where
  pub spelling : Option Spelling
  pub place : ℕ
  pub rest : List ℕ
  pub finished : Bool

-- nothing was fed
abbrev pub unfed_reading : Reading
unfed_reading = record { spelling = None; place = 0; rest = []; finished = false }

-- what stands at the reader's place behind an accepted header: a record of its spelling or nothing, from this offset on
abbrev pub AtRecord : Reading → (Spelling → ℕ → List ℕ → Type 0) → Type 0
AtRecord reading P =
    ((reading.spelling ≡ None)
    × (spelling : Spelling) × (header rest : List ℕ) × (reading.rest ≡ header ++ rest)
    × IsHeader spelling header × P spelling (reading.place + HEADER_LEN) rest)
    ⊎ ((spelling : Spelling) × (reading.spelling ≡ Some spelling) × P spelling reading.place reading.rest)

-- what stands at the reader's place are the records of these frames, to their end
abbrev pub AreLeft : Reading → List Frame → Type 0
AreLeft reading frames = AtRecord reading (λ spelling at rest. AreRecords spelling rest frames)

-- the bytes end inside the header
abbrev pub EndsInHeader : Reading → Type 0
EndsInHeader reading = (reading.spelling ≡ None) × (length reading.rest < HEADER_LEN)

-- no more bytes come, and they end inside the header
abbrev pub IsTornHeader : Reading → PcapFault → Type 0
IsTornHeader reading (Torn at) = (reading.finished ≡ true) × (at ≡ reading.place) × EndsInHeader reading
IsTornHeader reading Magic = ⊥
IsTornHeader reading Version = ⊥
IsTornHeader reading Link = ⊥
IsTornHeader reading (TooLong at len) = ⊥
IsTornHeader reading (Fraction at) = ⊥

-- the item at the reader's place breaks its rule, or no more bytes come and they end inside it
abbrev pub IsFaulty : Reading → PcapFault → Type 0
IsFaulty reading fault =
    ((reading.spelling ≡ None) × (HEADER_LEN ≤ length reading.rest) × BreaksHeader reading.rest fault)
    ⊎ AtRecord reading (λ spelling at rest. (HEAD_LEN ≤ length rest) × BreaksRecord spelling at rest fault)
    ⊎ IsTornHeader reading fault
    ⊎ AtRecord reading (λ spelling at rest. IsTornRecord spelling at rest reading.finished fault)

-- so many of the bytes fed belong neither to an accepted header nor to a frame that was given
abbrev pub IsKept : Reading → ℕ → Type 0
IsKept reading count =
    ((reading.spelling ≡ None)
    × (EndsInHeader reading ⊎ ((HEADER_LEN ≤ length reading.rest) × (fault : PcapFault) × BreaksHeader reading.rest fault))
    × (count ≡ length reading.rest))
    ⊎ AtRecord reading (λ spelling at rest. count ≡ length rest)

-- what is answered, and what it leaves
abbrev pub Pulls : Reading → Pull → Reading → Type 0
Pulls old (pull.Frame frame) new =
    (new.finished ≡ old.finished)
    × AtRecord old (λ spelling at rest.
    (new.spelling ≡ Some spelling)
    × (record_bytes : List ℕ) × (rest ≡ record_bytes ++ new.rest) × IsRecord spelling record_bytes frame
    × (new.place ≡ at + length record_bytes))
Pulls old pull.More new =
    (new ≡ old) × (old.finished ≡ false)
    × (EndsInHeader old ⊎ AtRecord old (λ spelling at rest. EndsInRecord spelling rest))
Pulls old pull.End new = (new ≡ old) × (old.finished ≡ true) × AtRecord old (λ spelling at rest. rest ≡ [])
Pulls old (pull.Bad fault) new = (new ≡ old) × IsFaulty old fault
