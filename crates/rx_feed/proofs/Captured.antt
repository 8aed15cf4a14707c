-- How long captures are that a port takes, and how little a reader keeps that wants more.
use Rattle.std.proofs.Common.{◌≡◌, ◌∙◌, sym, ap, ◌⊎◌, inl, inr, ℕ, ◌+◌, ◌*◌, ◌<◌, List, [], ◌∷◌, ◌++◌, length, Some, None, append_assoc, arith}
use Rattle.std.proofs.lemmas.List.{length-append}
use Rattle.std.proofs.lemmas.List.Sums.{sum_by-append, sum_by-cons}
use Rattle.onvm_base.specs.declared.frame.Frame.{Frame}
use Rattle.pcap_in.specs.Calls.{HasRead}
use Rattle.pcap_in.specs.Classic.{AreRecords, IsCaptureIn}
use Rattle.pcap_in.specs.Faulty.{EndsInRecord}
use Rattle.pcap_in.specs.declared.judge.TheConstants.{HEAD_LEN, HEADER_LEN}
use Rattle.pcap_in.specs.Reading.{Reading, AtRecord, EndsInHeader, Pulls}
use Rattle.pcap_in.specs.declared.pull.Pull.TheVariants as pull
use Rattle.pcap_in.specs.declared.spelling.Spelling.{Spelling}
use Rattle.pcap_in.proofs.HasRead.{IsBehind-pulled}
use Rattle.pcap_in.proofs.OneAnswer.{GivesFrame}
use Rattle.rx_feed.specs.Streams.{WantsMore}
use Rattle.rx_feed.specs.Limits.{bytes_of, record_limit, IsWithinLimits, PassesLimit}

-- the bytes of records
length-AreRecords : (s : Spelling) (text : List ℕ) (frames : List Frame) → AreRecords s text frames
    → length text ≡ HEAD_LEN * length frames + bytes_of frames
length-AreRecords s text [] are = ap (length {A = ℕ}) are
length-AreRecords s text (f ∷ fs) (bytes, others, text-is, is, are) =
    let rest : length others ≡ HEAD_LEN * length fs + bytes_of fs = length-AreRecords s others fs are in
    let both : length text ≡ length bytes + length others = ap (length {A = ℕ}) text-is ∙ length-append bytes others in
    omega (arith, is.size, sum_by-cons (λ (frame : Frame). length frame.packet) f fs)

-- the bytes of a capture
pub length-IsCapture : (s : Spelling) (text : List ℕ) (frames : List Frame) → IsCaptureIn s text frames
    → length text ≡ HEADER_LEN + HEAD_LEN * length frames + bytes_of frames
length-IsCapture s text frames (header, others, text-is, is, are) =
    let rest : length others ≡ HEAD_LEN * length frames + bytes_of frames = length-AreRecords s others frames are in
    let both : length text ≡ length header + length others =
    ap (length {A = ℕ}) text-is ∙ length-append header others in
    omega (arith, is.size)

-- the first frames of some that a port takes are taken
pub within_first : (frames first rest : List Frame) → frames ≡ first ++ rest → IsWithinLimits frames
    → IsWithinLimits first
within_first frames first rest split within =
    let count = ap (length {A = Frame}) split ∙ length-append first rest in
    let bytes = ap bytes_of split ∙ sum_by-append (λ (frame : Frame). length frame.packet) first rest in
    record {
      few = omega (arith, count, within.few);
      small = omega (arith, bytes, within.small);
    }

short_record : (s : Spelling) (rest : List ℕ) → EndsInRecord s rest → length rest < record_limit
short_record s rest (inl few) = omega arith
short_record s rest (inr (limit, fraction, short)) = omega (arith, limit, short)

short_at : (old : Reading) → AtRecord old (λ s at rest. EndsInRecord s rest)
    → length old.rest < HEADER_LEN + record_limit
short_at old (inl (none, s, header, rest, text, is, ends)) =
    omega (arith, short_record s rest ends, ap (length {A = ℕ}) text, length-append header rest, is.size)
short_at old (inr (s, known, ends)) = omega (arith, short_record s old.rest ends)

early_at : (old : Reading) → EndsInHeader old ⊎ AtRecord old (λ s at rest. EndsInRecord s rest)
    → length old.rest < HEADER_LEN + record_limit
early_at old (inl ends) = omega (arith, ends.1)
early_at old (inr at) = short_at old at

inside_at : (old : Reading) → EndsInHeader old ⊎ AtRecord old (λ s at rest. EndsInRecord s rest)
    → (s : Spelling) → old.spelling ≡ Some s → length old.rest < record_limit
inside_at old (inl (none, short)) s known = let clash : None ≡ Some s = sym none ∙ known in cc
inside_at old (inr (inl (none, s', header, rest, text, is, ends))) s known =
    let clash : None ≡ Some s = sym none ∙ known in cc
inside_at old (inr (inr (s', known', ends))) s known = short_record s' old.rest ends

-- where more is wanted, less than a header and a record is kept
pub short-WantsMore : (reading : Reading) → WantsMore reading → length reading.rest < HEADER_LEN + record_limit
short-WantsMore reading wants = early_at reading wants.2

-- and less than a record once the header is known
pub inside-WantsMore : (reading : Reading) → WantsMore reading
    → (s : Spelling) → reading.spelling ≡ Some s → length reading.rest < record_limit
inside-WantsMore reading wants = inside_at reading wants.2
