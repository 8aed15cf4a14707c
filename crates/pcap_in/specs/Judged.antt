-- What the bytes at an offset are, once they are judged.
use Rattle.std.specs.Prelude.{◌≡◌, ◌⊎◌, ℕ, ◌+◌, ◌<◌, ◌≤◌, Some, List, [], ◌++◌, length, take, drop, true, false}
use Rattle.pcap_in.specs.Classic.{IsHeader, IsRecord}
use Rattle.pcap_in.specs.Faulty.{BreaksHeader, BreaksRecord, EndsInRecord, IsTornRecord}
use Rattle.pcap_in.specs.Reading.{Reading}
use Rattle.pcap_in.specs.declared.judge.TheConstants.{HEADER_LEN, HEAD_LEN}
use Rattle.pcap_in.specs.declared.judge.CaptureHeader.{CaptureHeader}
use Rattle.pcap_in.specs.declared.judge.CaptureHeader.TheVariants as header
use Rattle.pcap_in.specs.declared.judge.CaptureRecord.{CaptureRecord}
use Rattle.pcap_in.specs.declared.judge.CaptureRecord.TheVariants as item
use Rattle.pcap_in.specs.declared.pull.Pull.{Pull}
use Rattle.pcap_in.specs.declared.pull.Pull.TheVariants as pull
use Rattle.pcap_in.specs.declared.spelling.Spelling.{Spelling}

-- the header that these bytes begin with, as far as they go
abbrev pub IsJudgedHeader : List ℕ → CaptureHeader → Type 0
IsJudgedHeader rest header.Part = length rest < HEADER_LEN
IsJudgedHeader rest (header.Broken fault) = (HEADER_LEN ≤ length rest) × BreaksHeader rest fault
IsJudgedHeader rest (header.Whole spelling) = (HEADER_LEN ≤ length rest) × IsHeader spelling (take HEADER_LEN rest)

-- the record that the bytes at an offset begin with, as far as they go
abbrev pub IsJudgedRecord : Spelling → ℕ → List ℕ → CaptureRecord → Type 0
IsJudgedRecord spelling at rest item.Part = EndsInRecord spelling rest
IsJudgedRecord spelling at rest (item.Broken fault) = (HEAD_LEN ≤ length rest) × BreaksRecord spelling at rest fault
IsJudgedRecord spelling at rest (item.Whole stamp len) =
    (HEAD_LEN + len ≤ length rest)
    × IsRecord spelling (take (HEAD_LEN + len) rest) (record { stamp = stamp; packet = take len (drop HEAD_LEN rest) })

-- what is answered behind an accepted header, from the bytes at an offset on, and what it leaves
abbrev pub PullsRecord : Spelling → ℕ → List ℕ → Reading → Pull → Reading → Type 0
PullsRecord spelling at rest old (pull.Frame frame) new =
    (new.finished ≡ old.finished) × (new.spelling ≡ Some spelling)
    × (record_bytes : List ℕ) × (rest ≡ record_bytes ++ new.rest) × IsRecord spelling record_bytes frame
    × (new.place ≡ at + length record_bytes)
PullsRecord spelling at rest old pull.More new = (new ≡ old) × (old.finished ≡ false) × EndsInRecord spelling rest
PullsRecord spelling at rest old pull.End new = (new ≡ old) × (old.finished ≡ true) × (rest ≡ [])
PullsRecord spelling at rest old (pull.Bad fault) new =
    (new ≡ old)
    × (((HEAD_LEN ≤ length rest) × BreaksRecord spelling at rest fault)
    ⊎ IsTornRecord spelling at rest old.finished fault)
