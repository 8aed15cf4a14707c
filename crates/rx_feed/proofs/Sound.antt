-- What was fed to a reader that wants more is sound so far.
use Rattle.std.proofs.Common.{◌≡◌, sym, subst, refl, ◌⊎◌, inl, inr, ℕ, ◌+◌, ◌<◌, true, List, [], ◌∷◌, ◌++◌, length, arith}
use Rattle.std.proofs.lemmas.List.{append-nil}
use Rattle.onvm_base.specs.declared.frame.Frame.{Frame}
use Rattle.pcap_in.specs.Calls.{HasRead}
use Rattle.pcap_in.specs.Faulty.{EndsInRecord, IsCaptureUpTo}
use Rattle.pcap_in.specs.Reading.{Reading, AtRecord, EndsInHeader, IsFaulty, unfed_reading}
use Rattle.pcap_in.specs.declared.pull.PcapFault.{PcapFault}
use Rattle.pcap_in.specs.declared.pull.PcapFault.TheVariants.{Torn}
use Rattle.pcap_in.proofs.Faults.{capture_first, fault_once, no_fault, up_to_first}
use Rattle.pcap_in.proofs.HasRead.{HasRead-fed, IsCapture-ended, IsCaptureUpTo-met}
use Rattle.rx_feed.specs.Streams.{WantsMore}
use Rattle.rx_feed.specs.Limits.{IsSoundSoFar, IsWithinLimits, PassesLimit}
use Rattle.rx_feed.proofs.Captured.{within_first}

-- the same reader, with nothing more to come
ended : Reading → Reading
ended reading = record reading { finished = true }

read_ended : (fed : List ℕ) (frames : List Frame) (reading : Reading)
    → HasRead fed frames reading → HasRead fed frames (ended reading)
unfolding ended
read_ended fed frames reading read =
    let P : List ℕ → Type 0 = λ t. HasRead t frames (ended reading) in
    subst P (append-nil fed)
    (HasRead-fed fed [] frames reading (ended reading) read refl refl (sym (append-nil reading.rest)))

-- bytes that a reader met a torn end of, if they were all
torn_so_far : (fed : List ℕ) (frames : List Frame) (reading : Reading) (at : ℕ) → HasRead fed frames reading
    → IsWithinLimits frames → IsFaulty (ended reading) (Torn at) → IsSoundSoFar fed
torn_so_far fed frames reading at read within faulty =
    let P : List ℕ → Type 0 = λ t. IsCaptureUpTo t frames (Torn at) in
    let up_to = IsCaptureUpTo-met fed [] frames (ended reading) (Torn at) (read_ended fed frames reading read)
    (λ _. refl) faulty in
    (frames, within, inr (at, subst P (append-nil fed) up_to))

-- bytes behind which a reader is at the end, if they were all
whole_so_far : (fed : List ℕ) (frames : List Frame) (reading : Reading) → HasRead fed frames reading
    → IsWithinLimits frames → AtRecord (ended reading) (λ s at rest. rest ≡ []) → IsSoundSoFar fed
unfolding ended
whole_so_far fed frames reading read within end = (
  frames,
  within,
  inl (IsCapture-ended fed frames (ended reading) (ended reading) (read_ended fed frames reading read)
      (refl, refl, end)),
)

at_record : (fed : List ℕ) (frames : List Frame) (reading : Reading) → HasRead fed frames reading
    → IsWithinLimits frames → AtRecord reading (λ s at rest. EndsInRecord s rest) → IsSoundSoFar fed
unfolding ended
at_record fed frames reading read within (inl (start, s, header, rest, text, is, ends)) = cases rest text ends
  where
    cases : (t : List ℕ) → reading.rest ≡ header ++ t → EndsInRecord s t → IsSoundSoFar fed
    cases [] text ends = whole_so_far fed frames reading read within (inl (start, s, header, [], text, is, refl))
    cases (byte ∷ bytes) text ends =
        torn_so_far fed frames reading (reading.place + 24) read within
        (inr (inr (inr (inl (start, s, header, byte ∷ bytes, text, is, (refl, refl, omega arith, ends))))))
at_record fed frames reading read within (inr (s, known, ends)) = cases reading.rest refl ends
  where
    cases : (t : List ℕ) → reading.rest ≡ t → EndsInRecord s t → IsSoundSoFar fed
    cases [] text ends = whole_so_far fed frames reading read within (inr (s, known, text))
    cases (byte ∷ bytes) text ends =
        let P : List ℕ → Type 0 = λ t. (0 < length t) × EndsInRecord s t in
        let both : P reading.rest = subst P (sym text) (omega arith, ends) in
        torn_so_far fed frames reading reading.place read within
        (inr (inr (inr (inr (s, known, (refl, refl, both.0, both.1))))))

ends_early : (fed : List ℕ) (frames : List Frame) (reading : Reading) → HasRead fed frames reading
    → IsWithinLimits frames → EndsInHeader reading ⊎ AtRecord reading (λ s at rest. EndsInRecord s rest)
    → IsSoundSoFar fed
unfolding ended
ends_early fed frames reading read within (inl ends) =
    torn_so_far fed frames reading reading.place read within (inr (inr (inl (refl, refl, ends))))
ends_early fed frames reading read within (inr at) = at_record fed frames reading read within at

-- a reader that wants more met no fault, and its frames pass no limit
pub sound-WantsMore : (fed : List ℕ) (frames : List Frame) (reading : Reading) → HasRead fed frames reading
    → IsWithinLimits frames → WantsMore reading → IsSoundSoFar fed
sound-WantsMore fed frames reading read within wants = ends_early fed frames reading read within wants.2

-- a reader that was fed nothing wants more
pub WantsMore-unfed_reading : WantsMore unfed_reading
WantsMore-unfed_reading = (refl, refl, inl (refl, omega arith))

-- what is sound so far has no fault but that it ends early
pub only_torn : (front : List ℕ) (frames : List Frame) (fault : PcapFault) → IsSoundSoFar front
    → IsCaptureUpTo front frames fault → (at : ℕ) × (fault ≡ Torn at)
only_torn front frames fault (read, within, inl is) faulty = absurd (no_fault front read frames fault is faulty)
only_torn front frames fault (read, within, inr (at, torn)) faulty =
    (at, (fault_once front frames read fault (Torn at) faulty torn).1)

-- and passes no limit
pub passes_none : (front : List ℕ) → IsSoundSoFar front → PassesLimit front → ⊥
passes_none front (frames, within, inl is) (used, rest, first, split, capture, large) =
    let begins = capture_first front used rest frames first is split capture in
    large (within_first frames first begins.0 begins.1 within)
passes_none front (frames, within, inr (at, torn)) (used, rest, first, split, capture, large) =
    let begins = up_to_first front used rest frames first (Torn at) torn split capture in
    large (within_first frames first begins.0 begins.1 within)
