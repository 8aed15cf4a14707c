-- What was read of the bytes fed: more bytes, a frame more, the end and a fault.
use Rattle.std.proofs.Common.{◌≡◌, ◌∙◌, sym, ap, subst, refl, ◌⊎◌, inl, inr, ℕ, Bool, true, ◌+◌, ◌<◌, Some, None, List, [], ◌∷◌, ◌++◌, length, append_assoc, arith}
use Rattle.std.proofs.lemmas.List.{append-nil, length-append}
use Rattle.onvm_base.specs.declared.frame.Frame.{Frame}
use Rattle.pcap_in.specs.Calls.{HasRead, IsBehind}
use Rattle.pcap_in.specs.Classic.{AreRecords, IsCapture, IsCaptureIn, IsHeader, IsRecord}
use Rattle.pcap_in.specs.Faulty.{AreRecordsUpTo, IsCaptureUpTo, IsTornRecord}
use Rattle.pcap_in.specs.Reading.{Reading, AtRecord, IsFaulty, IsTornHeader, Pulls}
use Rattle.pcap_in.specs.declared.pull.PcapFault.{PcapFault}
use Rattle.pcap_in.specs.declared.pull.PcapFault.TheVariants.{Torn}
use Rattle.pcap_in.specs.declared.pull.Pull.TheVariants as pull
use Rattle.pcap_in.specs.declared.spelling.Spelling.{Spelling}
use Rattle.pcap_in.proofs.Faults.{AreRecordsUpTo-behind, IsFaultyRecord}
use Rattle.pcap_in.proofs.Items.{BreaksHeader-append, BreaksRecord-append, torn_is}
use Rattle.pcap_in.proofs.OneAnswer.{Broken, GivesFrame, torn_header_is}

-- records and one more
AreRecords-push : (s : Spelling) (text bytes : List ℕ) (frames : List Frame) (frame : Frame) → AreRecords s text frames
    → IsRecord s bytes frame → AreRecords s (text ++ bytes) (frames ++ frame ∷ [])
AreRecords-push s text bytes [] frame are is =
    (bytes, [], ap (λ t. t ++ bytes) are ∙ sym (append-nil bytes), is, refl)
AreRecords-push s text bytes (f ∷ fs) frame (a, c, text-is, first, others) is =
    (a, c ++ bytes, ap (λ t. t ++ bytes) text-is ∙ append_assoc a c bytes, first, AreRecords-push s c bytes fs frame others is)

-- a capture and one more record
IsCapture-push : (s : Spelling) (text bytes : List ℕ) (frames : List Frame) (frame : Frame) → IsCaptureIn s text frames
    → IsRecord s bytes frame → IsCaptureIn s (text ++ bytes) (frames ++ frame ∷ [])
IsCapture-push s text bytes frames frame (a, c, text-is, header, records) is =
    (a, c ++ bytes, ap (λ t. t ++ bytes) text-is ∙ append_assoc a c bytes, header, AreRecords-push s c bytes frames frame records is)

-- the first frame is behind the header
first_pulled : (s : Spelling) (fed header rest : List ℕ) (frame : Frame) (new : Reading) → fed ≡ header ++ rest → IsHeader s header
    → GivesFrame frame new s 24 rest → IsBehind fed (frame ∷ []) new
first_pulled s fed header rest frame new fed-is is (known, bytes, rest-is, record-is, place) =
    let size : length (header ++ bytes) ≡ 24 + length bytes = length-append header bytes ∙ ap (λ n. n + length bytes) is.size in
    let none : AreRecords s [] [] = refl in
    let one : AreRecords s bytes (frame ∷ []) = (bytes, [], sym (append-nil bytes), record-is, none) in
    record {
      spelling = s;
      known = known;
      some = omega arith;
      used = header ++ bytes;
      is_capture = (header, bytes, refl, is, one);
      fed_is = fed-is ∙ ap (λ t. header ++ t) rest-is ∙ sym (append_assoc header bytes new.rest);
      place = place ∙ sym size;
    }

-- the next frame is behind those before it
next_pulled : (s : Spelling) (fed : List ℕ) (frames : List Frame) (frame : Frame) (old new : Reading) → old.spelling ≡ Some s
    → IsBehind fed frames old → GivesFrame frame new s old.place old.rest → IsBehind fed (frames ++ frame ∷ []) new
next_pulled s fed frames frame old new there behind (known, bytes, rest-is, record-is, place) =
    let some : Some behind.spelling ≡ Some s = sym behind.known ∙ there in
    let same : behind.spelling ≡ s = cc in
    let P : Spelling → Type 0 = λ u. IsCaptureIn u behind.used frames in
    let size : length (behind.used ++ bytes) ≡ length behind.used + length bytes = length-append behind.used bytes in
    record {
      spelling = s;
      known = known;
      some = omega (arith, length-append frames (frame ∷ []));
      used = behind.used ++ bytes;
      is_capture = IsCapture-push s behind.used bytes frames frame (subst P same behind.is_capture) record-is;
      fed_is = behind.fed_is ∙ ap (λ t. behind.used ++ t) rest-is ∙ sym (append_assoc behind.used bytes new.rest);
      place = place ∙ ap (λ n. n + length bytes) behind.place ∙ sym size;
    }

pulled_at : (fed : List ℕ) (frames : List Frame) (frame : Frame) (old new : Reading) → HasRead fed frames old
    → AtRecord old (GivesFrame frame new) → IsBehind fed (frames ++ frame ∷ []) new
pulled_at fed frames frame old new (inl (none, zero, empty, fed-is)) (inl (start, s, header, rest, text, is, gives)) =
    let P : List Frame → Type 0 = λ fs. IsBehind fed (fs ++ frame ∷ []) new in
    let Q : ℕ → Type 0 = λ n. GivesFrame frame new s (n + 24) rest in
    subst P (sym empty) (first_pulled s fed header rest frame new (fed-is ∙ text) is (subst Q zero gives))
pulled_at fed frames frame old new (inl (none, zero, empty, fed-is)) (inr (s, known, gives)) = absurd (cc)
pulled_at fed frames frame old new (inr behind) (inl (start, s, header, rest, text, is, gives)) =
    let known = behind.known in
    absurd (cc)
pulled_at fed frames frame old new (inr behind) (inr (s, known, gives)) = next_pulled s fed frames frame old new known behind gives

-- a frame that was pulled is one more
pub IsBehind-pulled : (fed : List ℕ) (frames : List Frame) (frame : Frame) (old new : Reading) → HasRead fed frames old
    → Pulls old (pull.Frame frame) new → IsBehind fed (frames ++ frame ∷ []) new
IsBehind-pulled fed frames frame old new read pulls = pulled_at fed frames frame old new read pulls.1

pub HasRead-pulled : (fed : List ℕ) (frames : List Frame) (frame : Frame) (old new : Reading) → HasRead fed frames old
    → Pulls old (pull.Frame frame) new → HasRead fed (frames ++ frame ∷ []) new
HasRead-pulled fed frames frame old new read pulls = inr (IsBehind-pulled fed frames frame old new read pulls)

-- more bytes fed stand behind the rest
pub HasRead-fed : (fed piece : List ℕ) (frames : List Frame) (old new : Reading) → HasRead fed frames old
    → new.spelling ≡ old.spelling → new.place ≡ old.place → new.rest ≡ old.rest ++ piece → HasRead (fed ++ piece) frames new
HasRead-fed fed piece frames old new (inl (none, zero, empty, fed-is)) spelling place rest =
    inl (spelling ∙ none, place ∙ zero, empty, ap (λ t. t ++ piece) fed-is ∙ sym rest)
HasRead-fed fed piece frames old new (inr behind) spelling place rest =
    inr (record {
      spelling = behind.spelling;
      known = spelling ∙ behind.known;
      some = behind.some;
      used = behind.used;
      is_capture = behind.is_capture;
      fed_is = ap (λ t. t ++ piece) behind.fed_is ∙ append_assoc behind.used old.rest piece ∙ ap (λ t. behind.used ++ t) (sym rest);
      place = place ∙ behind.place;
    })

-- what was fed is what the frames used and what is left
pub HasRead-length : (fed : List ℕ) (frames : List Frame) (reading : Reading) → HasRead fed frames reading
    → length fed ≡ reading.place + length reading.rest
HasRead-length fed frames reading (inl (none, zero, empty, fed-is)) = omega (arith, zero, ap (length {A = ℕ}) fed-is)
HasRead-length fed frames reading (inr behind) =
    omega (arith, behind.place, ap (length {A = ℕ}) behind.fed_is, length-append behind.used reading.rest)

-- where nothing stands at the reader's place, all that was fed is a capture
pub ended_at : (fed : List ℕ) (frames : List Frame) (old : Reading) → HasRead fed frames old
    → AtRecord old (λ s at rest. rest ≡ []) → IsCapture fed frames
ended_at fed frames old (inl (none, zero, empty, fed-is)) (inl (start, s, header, rest, text, is, end)) =
    let P : List Frame → Type 0 = λ fs. IsCapture fed fs in
    subst P (sym empty) (s, (header, rest, fed-is ∙ text, is, end))
ended_at fed frames old (inl (none, zero, empty, fed-is)) (inr (s, known, end)) = absurd (cc)
ended_at fed frames old (inr behind) (inl (start, s, header, rest, text, is, end)) =
    let known = behind.known in
    absurd (cc)
ended_at fed frames old (inr behind) (inr (s, known, end)) =
    let P : List ℕ → Type 0 = λ t. IsCaptureIn behind.spelling t frames in
    let all : fed ≡ behind.used = behind.fed_is ∙ ap (λ t. behind.used ++ t) end ∙ append-nil behind.used in
    (behind.spelling, subst P (sym all) behind.is_capture)

-- where the reader is at the end, all that was fed is a capture
pub IsCapture-ended : (fed : List ℕ) (frames : List Frame) (old new : Reading) → HasRead fed frames old → Pulls old pull.End new
    → IsCapture fed frames
IsCapture-ended fed frames old new read pulls = ended_at fed frames old read pulls.2

-- what is torn at the end of what was fed is torn at the end of the text
torn_there : (s : Spelling) (at : ℕ) (rest more : List ℕ) (finished : Bool) (fault : PcapFault) → (finished ≡ true → more ≡ [])
    → IsTornRecord s at rest finished fault → IsTornRecord s at (rest ++ more) true fault
torn_there s at rest more finished fault last torn =
    let is = torn_is s at rest finished fault torn in
    let P : List ℕ → Type 0 = λ t. IsTornRecord s at t true fault in
    let Q : PcapFault → Type 0 = λ f. IsTornRecord s at rest true f in
    subst P (sym (ap (λ t. rest ++ t) (last is.0) ∙ append-nil rest)) (subst Q (sym is.1) (refl, refl, is.2, is.3))

-- a faulty record is faulty whatever follows, unless it is torn
faulty_there : (s : Spelling) (at : ℕ) (rest more : List ℕ) (finished : Bool) (fault : PcapFault) → (finished ≡ true → more ≡ [])
    → Broken fault s at rest ⊎ IsTornRecord s at rest finished fault → IsFaultyRecord s at (rest ++ more) fault
faulty_there s at rest more finished fault last (inl broken) =
    inl (omega (arith, length-append rest more, broken.0), BreaksRecord-append s at rest more fault broken.0 broken.1)
faulty_there s at rest more finished fault last (inr torn) = inr (torn_there s at rest more finished fault last torn)

torn_header : (old : Reading) (more : List ℕ) (fault : PcapFault) → old.place ≡ 0 → (old.finished ≡ true → more ≡ [])
    → IsTornHeader old fault → (length (old.rest ++ more) < 24) × (fault ≡ Torn 0)
torn_header old more fault zero last torn =
    let is = torn_header_is old fault torn in (
      omega (arith, length-append old.rest more, ap (length {A = ℕ}) (last is.0), is.3),
      is.1 ∙ ap (λ (n : ℕ). Torn n) zero,
    )

-- before the first frame, a record's fault is the text's first
first_fault : (more : List ℕ) (old : Reading) (fault : PcapFault) → old.place ≡ 0 → old.spelling ≡ None → (old.finished ≡ true → more ≡ [])
    → AtRecord old (λ s at rest. Broken fault s at rest ⊎ IsTornRecord s at rest old.finished fault)
    → IsCaptureUpTo (old.rest ++ more) [] fault
first_fault more old fault zero none last (inl (start, s, header, rest, text, is, faulty)) =
    let At : ℕ → Type 0 = λ n. Broken fault s n rest ⊎ IsTornRecord s n rest old.finished fault in
    let there : At 24 = subst At (ap (λ n. n + 24) zero) faulty in
    inr (inr (
      s,
      header,
      rest ++ more,
      ap (λ t. t ++ more) text ∙ append_assoc header rest more,
      is,
      faulty_there s 24 rest more old.finished fault last there,
    ))
first_fault more old fault zero none last (inr (s, known, faulty)) = absurd (cc)

-- a fault of a record, whole or torn, at the reader's place
record_fault : (old : Reading) (fault : PcapFault)
    → AtRecord old (Broken fault) ⊎ AtRecord old (λ s at rest. IsTornRecord s at rest old.finished fault)
    → AtRecord old (λ s at rest. Broken fault s at rest ⊎ IsTornRecord s at rest old.finished fault)
record_fault old fault (inl (inl (start, s, header, rest, text, is, broken))) = inl (start, s, header, rest, text, is, inl broken)
record_fault old fault (inl (inr (s, known, broken))) = inr (s, known, inl broken)
record_fault old fault (inr (inl (start, s, header, rest, text, is, torn))) = inl (start, s, header, rest, text, is, inr torn)
record_fault old fault (inr (inr (s, known, torn))) = inr (s, known, inr torn)

-- before the first frame, a fault is the text's first
fault_at_start : (more : List ℕ) (old : Reading) (fault : PcapFault) → old.place ≡ 0 → old.spelling ≡ None
    → (old.finished ≡ true → more ≡ []) → IsFaulty old fault → IsCaptureUpTo (old.rest ++ more) [] fault
fault_at_start more old fault zero none last (inl (start, whole, broken)) =
    inr (inl (refl, omega (arith, length-append old.rest more, whole), BreaksHeader-append old.rest more fault whole broken))
fault_at_start more old fault zero none last (inr (inl there)) =
    first_fault more old fault zero none last (record_fault old fault (inl there))
fault_at_start more old fault zero none last (inr (inr (inl torn))) =
    let both = torn_header old more fault zero last torn in
    inl (refl, both.0, both.1)
fault_at_start more old fault zero none last (inr (inr (inr there))) =
    first_fault more old fault zero none last (record_fault old fault (inr there))

-- once a frame was given, a fault is a record's
fault_later : (old : Reading) (fault : PcapFault) (s : Spelling) → old.spelling ≡ Some s → IsFaulty old fault
    → AtRecord old (λ s at rest. Broken fault s at rest ⊎ IsTornRecord s at rest old.finished fault)
fault_later old fault s known (inl (start, whole, broken)) = absurd (cc)
fault_later old fault s known (inr (inl there)) = record_fault old fault (inl there)
fault_later old fault s known (inr (inr (inl torn))) =
    let none = (torn_header_is old fault torn).2 in
    absurd (cc)
fault_later old fault s known (inr (inr (inr there))) = record_fault old fault (inr there)

-- behind the frames, a fault is that of the next record
next_fault : (more : List ℕ) (old : Reading) (fault : PcapFault) (s : Spelling) → old.spelling ≡ Some s → (old.finished ≡ true → more ≡ [])
    → AtRecord old (λ s at rest. Broken fault s at rest ⊎ IsTornRecord s at rest old.finished fault)
    → IsFaultyRecord s old.place (old.rest ++ more) fault
next_fault more old fault s known last (inl (start, t, header, rest, text, is, faulty)) = absurd (cc)
next_fault more old fault s known last (inr (t, there, faulty)) =
    let some : Some t ≡ Some s = sym there ∙ known in
    let same : t ≡ s = cc in
    let P : Spelling → Type 0 = λ u. IsFaultyRecord u old.place (old.rest ++ more) fault in
    subst P same (faulty_there t old.place old.rest more old.finished fault last faulty)

-- a fault that the reader meets is the text's, behind the frames that were read
pub IsCaptureUpTo-met : (fed more : List ℕ) (frames : List Frame) (old : Reading) (fault : PcapFault) → HasRead fed frames old
    → (old.finished ≡ true → more ≡ []) → IsFaulty old fault → IsCaptureUpTo (fed ++ more) frames fault
IsCaptureUpTo-met fed more frames old fault (inl (none, zero, empty, fed-is)) last faulty =
    let P : List Frame → Type 0 = λ fs. IsCaptureUpTo (fed ++ more) fs fault in
    let Q : List ℕ → Type 0 = λ t. IsCaptureUpTo (t ++ more) [] fault in
    subst P (sym empty) (subst Q (sym fed-is) (fault_at_start more old fault zero none last faulty))
IsCaptureUpTo-met fed more frames old fault (inr behind) last faulty =
    met (behind.is_capture)
  where
    met : IsCaptureIn behind.spelling behind.used frames → IsCaptureUpTo (fed ++ more) frames fault
    met (header, records, used-is, is, are) =
        let s : Spelling = behind.spelling in
        let place : old.place ≡ 24 + length records =
        behind.place ∙ ap (length {A = ℕ}) used-is ∙ length-append header records ∙ ap (λ n. n + length records) is.size in
        let At : ℕ → Type 0 = λ n. AreRecordsUpTo s n (old.rest ++ more) [] fault in
        let text : fed ++ more ≡ header ++ (records ++ (old.rest ++ more)) =
        ap (λ t. t ++ more) behind.fed_is ∙ append_assoc behind.used old.rest more
        ∙ ap (λ t. t ++ (old.rest ++ more)) used-is ∙ append_assoc header records (old.rest ++ more) in
        let there = next_fault more old fault s behind.known last (fault_later old fault s behind.known faulty) in
        inr (inr (
          s,
          header,
          records ++ (old.rest ++ more),
          text,
          is,
          AreRecordsUpTo-behind s 24 records (old.rest ++ more) frames fault are (subst At place there),
        ))
