-- What calls of a reader fed and gave, in whatever pieces.
use Rattle.std.proofs.Common.{◌≡◌, ◌∙◌, sym, ap, subst, refl, ◌⊎◌, inl, inr, ℕ, true, ◌+◌, ◌<◌, Some, List, [], ◌∷◌, ◌++◌, length, append_assoc, arith}
use Rattle.std.proofs.lemmas.List.{append-nil}
use Rattle.onvm_base.specs.declared.frame.Frame.{Frame}
use Rattle.pcap_in.specs.Calls.{Call, Feed, Finish, Next, HasRead, Lead, bytes_fed_by, frames_given_by, frames_of_pull}
use Rattle.pcap_in.specs.Classic.{AreRecords, IsCapture, IsCaptureIn}
use Rattle.pcap_in.specs.Faulty.{EndsInRecord, IsCaptureUpTo}
use Rattle.pcap_in.specs.Reading.{AreLeft, AtRecord, EndsInHeader, IsFaulty, Reading, Pulls, unfed_reading}
use Rattle.pcap_in.specs.declared.pull.PcapFault.TheVariants.{Torn}
use Rattle.pcap_in.specs.declared.pull.Pull.{Pull}
use Rattle.pcap_in.specs.declared.pull.Pull.TheVariants as pull
use Rattle.pcap_in.specs.declared.spelling.Spelling.{Spelling}
use Rattle.pcap_in.proofs.Faults.{records_first}
use Rattle.pcap_in.proofs.Grammar.{one_header, one_record}
use Rattle.pcap_in.proofs.HasRead.{ended_at, HasRead-fed, HasRead-length, HasRead-pulled, IsCaptureUpTo-met}
use Rattle.pcap_in.proofs.OneAnswer.{reading_same}
use Rattle.pcap_in.proofs.Told.{ended}

-- an answer is a frame more, or none
HasRead-answered : (fed : List ℕ) (frames : List Frame) (answer : Pull) (old new : Reading) → HasRead fed frames old
    → Pulls old answer new → HasRead fed (frames ++ frames_of_pull answer) new
HasRead-answered fed frames (pull.Frame frame) old new read pulls = HasRead-pulled fed frames frame old new read pulls
HasRead-answered fed frames pull.More old new read pulls =
    rw (append-nil frames, pulls.0) read
HasRead-answered fed frames pull.End old new read pulls = rw (append-nil frames, pulls.0) read
HasRead-answered fed frames (pull.Bad fault) old new read pulls = rw (append-nil frames, pulls.0) read

-- behind calls, the bytes that they fed are those of the frames that they gave, and what is left
pub HasRead-led : (calls : List Call) (fed : List ℕ) (frames : List Frame) (old new : Reading) → HasRead fed frames old
    → Lead calls old new → HasRead (fed ++ bytes_fed_by calls) (frames ++ frames_given_by calls) new
HasRead-led [] fed frames old new read lead = rw (append-nil fed, append-nil frames, lead) read
HasRead-led (Feed piece ∷ calls) fed frames old new read (unfinished, lead) =
    let between : Reading = record old { rest = old.rest ++ piece } in
    let next = HasRead-fed fed piece frames old between read refl refl refl in
    let P : List ℕ → Type 0 = λ t. HasRead t (frames ++ frames_given_by calls) new in
    subst P (append_assoc fed piece (bytes_fed_by calls)) (HasRead-led calls (fed ++ piece) frames between new next lead)
HasRead-led (Finish ∷ calls) fed frames old new read lead =
    let between : Reading = record old { finished = true } in
    let next = HasRead-fed fed [] frames old between read refl refl (sym (append-nil old.rest)) in
    let P : List ℕ → Type 0 = λ t. HasRead (t ++ bytes_fed_by calls) (frames ++ frames_given_by calls) new in
    subst P (append-nil fed) (HasRead-led calls (fed ++ []) frames between new next lead)
HasRead-led (Next answer ∷ calls) fed frames old new read (between, pulls, lead) =
    let next = HasRead-answered fed frames answer old between read pulls in
    let P : List Frame → Type 0 = λ fs. HasRead (fed ++ bytes_fed_by calls) fs new in
    subst P (append_assoc frames (frames_of_pull answer) (frames_given_by calls))
    (HasRead-led calls fed (frames ++ frames_of_pull answer) between new next lead)

-- so it is from the begin on
pub HasRead-begun : (calls : List Call) (new : Reading) → Lead calls unfed_reading new → HasRead (bytes_fed_by calls) (frames_given_by calls) new
HasRead-begun calls new lead = HasRead-led calls [] [] unfed_reading new (inl (refl, refl, refl, refl)) lead

-- of two lists of records of one text, as many of each are the same
records_even : (s : Spelling) (a b c d : List ℕ) (xs ys : List Frame) → AreRecords s a xs → AreRecords s b ys → a ++ c ≡ b ++ d
    → length xs ≡ length ys → (xs ≡ ys) × (c ≡ d)
records_even s a b c d [] [] none nothing text even =
    (refl, sym (ap (λ (t : List ℕ). t ++ c) none) ∙ text ∙ ap (λ (t : List ℕ). t ++ d) nothing)
records_even s a b c d [] (y ∷ ys) none records text even = absurd (omega (arith, even))
records_even s a b c d (x ∷ xs) [] records none text even = absurd (omega (arith, even))
records_even s a b c d (x ∷ xs) (y ∷ ys) (front, rest, a-is, is, records) (front', rest', b-is, is', records') text even =
    let both : front ++ (rest ++ c) ≡ front' ++ (rest' ++ d) =
    sym (ap (λ (t : List ℕ). t ++ c) a-is ∙ append_assoc front rest c) ∙ text ∙ ap (λ (t : List ℕ). t ++ d) b-is ∙ append_assoc front' rest' d in
    let one = one_record s front front' (rest ++ c) (rest' ++ d) x y is is' both in
    let others = records_even s rest rest' c d xs ys records records' one.2 (omega (arith, even)) in
    let heads : x ≡ y = one.1 in
    let tails : xs ≡ ys = others.0 in
    (cc, others.1)

captures_even : (s t : Spelling) (a b c d : List ℕ) (xs ys : List Frame) → IsCaptureIn s a xs → IsCaptureIn t b ys → a ++ c ≡ b ++ d
    → length xs ≡ length ys → (s ≡ t) × (xs ≡ ys) × (c ≡ d)
captures_even s t a b c d xs ys (header, rest, a-is, is, records) (header', rest', b-is, is', records') text even =
    let both : header ++ (rest ++ c) ≡ header' ++ (rest' ++ d) =
    sym (ap (λ (u : List ℕ). u ++ c) a-is ∙ append_assoc header rest c) ∙ text
    ∙ ap (λ (u : List ℕ). u ++ d) b-is ∙ append_assoc header' rest' d in
    let one = one_header s t header header' (rest ++ c) (rest' ++ d) is is' both in
    let P : Spelling → Type 0 = λ u. AreRecords u rest' ys in
    let records = records_even s rest rest' c d xs ys records (subst P (sym one.0) records') one.1 even in
    (one.0, records.0, records.1)

-- of the same bytes and as many frames one reading is left
pub HasRead-same : (fed : List ℕ) (xs ys : List Frame) (r q : Reading) → HasRead fed xs r → HasRead fed ys q → length xs ≡ length ys
    → r.finished ≡ q.finished → (xs ≡ ys) × (r ≡ q)
HasRead-same fed xs ys r q (inl (none, zero, empty, fed-is)) (inl (none', zero', empty', fed-is')) even finished =
    (empty ∙ sym empty', reading_same r q (none ∙ sym none') (zero ∙ sym zero') (sym fed-is ∙ fed-is') finished)
HasRead-same fed xs ys r q (inl (none, zero, empty, fed-is)) (inr behind) even finished =
    absurd (omega (arith, even, ap (length {A = Frame}) empty, behind.some))
HasRead-same fed xs ys r q (inr behind) (inl (none, zero, empty, fed-is)) even finished =
    absurd (omega (arith, even, ap (length {A = Frame}) empty, behind.some))
HasRead-same fed xs ys r q (inr here) (inr there) even finished =
    let one = captures_even here.spelling there.spelling here.used there.used r.rest q.rest xs ys here.is_capture there.is_capture
    (sym here.fed_is ∙ there.fed_is) even in
    let spelling = here.known ∙ ap (λ (s : Spelling). Some s) one.0 ∙ sym there.known in
    let place : r.place ≡ q.place =
    omega (arith, HasRead-length fed xs r (inr here), HasRead-length fed ys q (inr there), ap (length {A = ℕ}) one.2) in
    (one.1, reading_same r q spelling place one.2 finished)

pub led_same : (calls others : List Call) (reading other : Reading) → Lead calls unfed_reading reading → Lead others unfed_reading other
    → bytes_fed_by calls ≡ bytes_fed_by others → length (frames_given_by calls) ≡ length (frames_given_by others) → reading.finished ≡ other.finished
    → (frames_given_by calls ≡ frames_given_by others) × (reading ≡ other)
led_same calls others reading other lead lead' fed even finished =
    let P : List ℕ → Type 0 = λ t. HasRead t (frames_given_by others) other in
    HasRead-same (bytes_fed_by calls) (frames_given_by calls) (frames_given_by others) reading other (HasRead-begun calls reading lead)
    (subst P (sym fed) (HasRead-begun others other lead')) even finished

-- of a capture that was fed, the frames that were not given are left
pub AreLeft-read : (fed : List ℕ) (given frames : List Frame) (reading : Reading) → HasRead fed given reading → IsCapture fed frames
    → (others : List Frame) × (frames ≡ given ++ others) × AreLeft reading others
AreLeft-read fed given frames reading (inl (none, zero, empty, fed-is)) (s, (header, rest, text, is, records)) = (
  frames,
  ap (λ (fs : List Frame). fs ++ frames) (sym empty),
  inl (none, s, header, rest, sym fed-is ∙ text, is, records),
)
AreLeft-read fed given frames reading (inr behind) (s, (header, rest, text, is, records)) = left behind.is_capture
  where
    left : IsCaptureIn behind.spelling behind.used given → (others : List Frame) × (frames ≡ given ++ others) × AreLeft reading others
    left (a, c, used-is, a-is, first) =
        let both : header ++ rest ≡ a ++ (c ++ reading.rest) =
        sym text ∙ behind.fed_is ∙ ap (λ t. t ++ reading.rest) used-is ∙ append_assoc a c reading.rest in
        let same = one_header s behind.spelling header a rest (c ++ reading.rest) is a-is both in
        let P : Spelling → Type 0 = λ u. AreRecords u rest frames in
        let split = records_first behind.spelling rest c reading.rest frames given (subst P same.0 records) same.1 first in
        (split.0, split.1, inr (behind.spelling, behind.known, split.2))

nothing_or_some : (rest : List ℕ) → (rest ≡ []) ⊎ (0 < length rest)
nothing_or_some [] = inl refl
nothing_or_some (byte ∷ bytes) = inr (omega arith)

-- where more is wanted and no more came, the capture has ended or is torn
ended_or_torn : (reading : Reading) → EndsInHeader reading ⊎ AtRecord reading (λ s at rest. EndsInRecord s rest)
    → AtRecord reading (λ s at rest. rest ≡ []) ⊎ ((at : ℕ) × IsFaulty (ended reading) (Torn at))
ended_or_torn reading (inl (none, short)) = inr (reading.place, inr (inr (inl (refl, refl, (none, short)))))
ended_or_torn reading (inr (inl (start, s, header, rest, text, is, ends))) = first (nothing_or_some rest)
  where
    first : (rest ≡ []) ⊎ (0 < length rest)
        → AtRecord reading (λ s at rest. rest ≡ []) ⊎ ((at : ℕ) × IsFaulty (ended reading) (Torn at))
    first (inl none) = inl (inl (start, s, header, rest, text, is, none))
    first (inr some) =
        inr (reading.place + 24, inr (inr (inr (inl (start, s, header, rest, text, is, (refl, refl, some, ends))))))
ended_or_torn reading (inr (inr (s, known, ends))) = next (nothing_or_some reading.rest)
  where
    next : (reading.rest ≡ []) ⊎ (0 < length reading.rest)
        → AtRecord reading (λ s at rest. rest ≡ []) ⊎ ((at : ℕ) × IsFaulty (ended reading) (Torn at))
    next (inl none) = inl (inr (s, known, none))
    next (inr some) = inr (reading.place, inr (inr (inr (inr (s, known, (refl, refl, some, ends))))))

-- so the bytes fed are a capture of the frames given, or one that is torn behind them
pub short_read : (fed : List ℕ) (given : List Frame) (reading next : Reading) → HasRead fed given reading → Pulls reading pull.More next
    → IsCapture fed given ⊎ ((at : ℕ) × IsCaptureUpTo fed given (Torn at))
short_read fed given reading next read (same, unfinished, ends) = told (ended_or_torn reading ends)
  where
    told : AtRecord reading (λ s at rest. rest ≡ []) ⊎ ((at : ℕ) × IsFaulty (ended reading) (Torn at))
        → IsCapture fed given ⊎ ((at : ℕ) × IsCaptureUpTo fed given (Torn at))
    told (inl there) = inl (ended_at fed given reading read there)
    told (inr (at, faulty)) =
        let over = HasRead-fed fed [] given reading (ended reading) read refl refl (sym (append-nil reading.rest)) in
        let P : List ℕ → Type 0 = λ t. IsCaptureUpTo t given (Torn at) in
        let Q : List ℕ → Type 0 = λ t. HasRead t given (ended reading) in
        inr (
          at,
          subst P (append-nil fed)
              (IsCaptureUpTo-met fed [] given (ended reading) (Torn at) (subst Q (append-nil fed) over) (λ finished. refl) faulty),
        )
