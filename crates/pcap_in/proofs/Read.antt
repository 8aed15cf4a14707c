-- A reader of a capture gives the capture's frames.
use Rattle.std.proofs.Common.{◌≡◌, ◌∙◌, sym, ap, subst, inl, inr, ℕ, Bool, true, ◌+◌, Some, None, List, [], ◌∷◌, length, arith, refl}
use Rattle.std.proofs.lemmas.List.{length-append}
use Rattle.onvm_base.specs.declared.frame.Frame.{Frame}
use Rattle.pcap_in.specs.Classic.{AreRecords, IsCapture}
use Rattle.pcap_in.specs.Reading.{Reading, Pulls, AreLeft, AtRecord}
use Rattle.pcap_in.specs.declared.pull.Pull.{Pull}
use Rattle.pcap_in.specs.declared.pull.Pull.TheVariants as pull
use Rattle.pcap_in.specs.declared.spelling.Spelling.{Spelling}
use Rattle.pcap_in.proofs.OneAnswer.{GivesFrame, pulls_once}

-- what is left once a record at an offset is used
abbrev pub behind : Reading → Spelling → ℕ → List ℕ → List ℕ → Reading
behind old spelling at bytes rest =
    record { spelling = Some spelling; place = at + length bytes; rest = rest; finished = old.finished }

-- the first frame of the records that are left, and what its pull leaves
pub first_pull : (old : Reading) (frame : Frame) (frames : List Frame) → AreLeft old (frame ∷ frames)
    → (new : Reading) × Pulls old (pull.Frame frame) new × AreLeft new frames
first_pull old frame frames (inl (start, s, header, rest, text, is, (bytes, more, rest-is, record-is, others))) = (
  behind old s (old.place + 24) bytes more,
  (refl, inl (start, s, header, rest, text, is, (refl, bytes, rest-is, record-is, refl))),
  inr (s, refl, others),
)
first_pull old frame frames (inr (s, known, (bytes, more, rest-is, record-is, others))) = (
  behind old s old.place bytes more,
  (refl, inr (s, known, (refl, bytes, rest-is, record-is, refl))),
  inr (s, refl, others),
)

-- what is answered where records are left
pub answer_first : (old new : Reading) (answer : Pull) (frame : Frame) (frames : List Frame) → AreLeft old (frame ∷ frames)
    → Pulls old answer new → (answer ≡ pull.Frame frame) × AreLeft new frames
answer_first old new answer frame frames left pulled =
    let first = first_pull old frame frames left in
    let one = pulls_once old new first.0 answer (pull.Frame frame) pulled first.1 in
    let P : Reading → Type 0 = λ r. AreLeft r frames in
    (one.0, subst P (sym one.1) first.2)

-- what is answered where no record is left
pub answer_last : (old new : Reading) (answer : Pull) → old.finished ≡ true → AreLeft old [] → Pulls old answer new → answer ≡ pull.End
answer_last old new answer finished left pulled =
    (pulls_once old new old answer pull.End pulled (refl, finished, left)).0

-- behind an accepted header what is left are records of its spelling
pub records_left : (r : Reading) (spelling : Spelling) (frames : List Frame) → r.spelling ≡ Some spelling → AreLeft r frames
    → AreRecords spelling r.rest frames
records_left r spelling frames known (inl (start, s, header, rest, text, is, records)) = absurd (cc)
records_left r spelling frames known (inr (s, there, records)) =
    let some : Some s ≡ Some spelling = sym there ∙ known in
    let same : s ≡ spelling = cc in
    let P : Spelling → Type 0 = λ u. AreRecords u r.rest frames in
    subst P same records

-- a frame that was pulled is the first of those that were left
pub was_first : (old new : Reading) (frame : Frame) (frames : List Frame) → Pulls old (pull.Frame frame) new → AreLeft new frames
    → AreLeft old (frame ∷ frames)
was_first old new frame frames (kept, inl (start, s, header, rest, text, is, (known, bytes, rest-is, record-is, place))) left =
    inl (start, s, header, rest, text, is, (bytes, new.rest, rest-is, record-is, records_left new s frames known left))
was_first old new frame frames (kept, inr (s, there, (known, bytes, rest-is, record-is, place))) left =
    inr (s, there, (bytes, new.rest, rest-is, record-is, records_left new s frames known left))

-- a reader that was fed a text and gave no frame has the capture's frames left
pub left_of_capture : (text : List ℕ) (finished : Bool) (frames : List Frame) → IsCapture text frames
    → AreLeft (record { spelling = None; place = 0; rest = text; finished = finished }) frames
left_of_capture text finished frames (s, (header, rest, text-is, is, records)) =
    inl (refl, s, header, rest, text-is, is, records)

-- and the other way round
pub capture_of_left : (text : List ℕ) (finished : Bool) (frames : List Frame)
    → AreLeft (record { spelling = None; place = 0; rest = text; finished = finished }) frames → IsCapture text frames
capture_of_left text finished frames (inl (start, s, header, rest, text-is, is, records)) = (s, (header, rest, text-is, is, records))
capture_of_left text finished frames (inr (s, known, records)) = absurd (cc)

-- no byte is lost, and none is made up
used_up : (old new : Reading) (frame : Frame) → AtRecord old (GivesFrame frame new)
    → new.place + length new.rest ≡ old.place + length old.rest
used_up old new frame (inl (start, s, header, rest, text, is, (known, bytes, rest-is, record-is, place))) =
    omega (arith, place, ap (length {A = ℕ}) text, length-append header rest, is.size, ap (length {A = ℕ}) rest-is, length-append bytes new.rest)
used_up old new frame (inr (s, there, (known, bytes, rest-is, record-is, place))) =
    omega (arith, place, ap (length {A = ℕ}) rest-is, length-append bytes new.rest)

abbrev pub KeepsBytes : Reading → Reading → Type 0
KeepsBytes old new = (new.place + length new.rest ≡ old.place + length old.rest) × (new.finished ≡ old.finished)

pub bytes_kept : (old new : Reading) (answer : Pull) → Pulls old answer new → KeepsBytes old new
bytes_kept old new (pull.Frame frame) (kept, there) = (used_up old new frame there, kept)
bytes_kept old new pull.More (same, more, ends) = rw same (refl, refl)
bytes_kept old new pull.End (same, finished, end) = rw same (refl, refl)
bytes_kept old new (pull.Bad fault) (same, faulty) = rw same (refl, refl)
