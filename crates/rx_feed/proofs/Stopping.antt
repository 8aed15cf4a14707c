-- Why a port has stopped, by the whole text that its source told.
use Rattle.std.proofs.Common.{◌≡◌, ◌≢◌, ◌∙◌, sym, ap, subst, refl, ◌⊎◌, inl, inr, ℕ, Bool, true, false, List, [], ◌∷◌, ◌++◌, Option, Some, None, append_assoc}
use Rattle.std.specs.Io.KnownBytes.{Consumes, IsAtEnd}
use Rattle.onvm_base.specs.declared.frame.Frame.{Frame}
use Rattle.onvm_host.specs.Deeds.{Amounts}
use Rattle.onvm_host.proofs.Bytes.{Consumes-to_end}
use Rattle.rx_feed.specs.Limits.{IsWithinLimits, PassesLimit}
use Rattle.rx_feed.proofs.Captured.{within_first}
use Rattle.pcap_in.specs.Classic.{IsCapture}
use Rattle.pcap_in.specs.Faulty.{IsCaptureUpTo}
use Rattle.pcap_in.specs.declared.pull.PcapFault.{PcapFault}
use Rattle.pcap_in.proofs.Faults.{capture_first, fault_once, no_fault, up_to_first}
use Rattle.pcap_in.proofs.Grammar.{capture_once}
use Rattle.rx_feed.specs.Standing.{HasStopped, IsStanding, IsTakenSince, Standing, last_takes}
use Rattle.rx_feed.specs.declared.fault.FeedFault.{FeedFault}
use Rattle.rx_feed.specs.declared.fault.FeedFault.TheVariants.{Read, Capture, TooMany}

-- what is left of a told text
told_rest : (left : Option (List ℕ)) (text taken : List ℕ) → Consumes (Some text) left taken
    → (more : List ℕ) × (left ≡ Some more) × (text ≡ taken ++ more)
told_rest None text taken is = absurd is
told_rest (Some more) text taken is = (more, refl, is)

nothing_left : (left : Option (List ℕ)) (more : List ℕ) → left ≡ Some more → IsAtEnd left → more ≡ []
nothing_left left more is end = subst IsAtEnd is end

pub whole_capture : (left : Option (List ℕ)) (takes takes' : Amounts) (s : Standing) (text : List ℕ)
    → IsStanding s → IsTakenSince (Some text) left takes takes' s → s.ended ≡ true → IsCapture text s.pulled
whole_capture left takes takes' s text stands since ended =
    let both = stands.ended ended in
    let whole = Consumes-to_end (Some text) left text s.taken refl since.consumed (since.at_end both.1) in
    let P : List ℕ → Type 0 = λ t. IsCapture t s.pulled in
    subst P (sym whole) both.0

pub broken_capture : (left : Option (List ℕ)) (takes takes' : Amounts) (s : Standing) (text : List ℕ) (fault : PcapFault)
    → IsStanding s → IsTakenSince (Some text) left takes takes' s → s.fault ≡ Some (Capture fault)
    → IsCaptureUpTo text s.pulled fault
broken_capture left takes takes' s text fault stands since told =
    let rest = told_rest left text s.taken since.consumed in
    let P : List ℕ → Type 0 = λ t. IsCaptureUpTo t s.pulled fault in
    subst P (sym rest.2)
    (stands.broken fault told rest.0 (λ complete. nothing_left left rest.0 rest.1 (since.at_end complete)))

pub large_capture : (left : Option (List ℕ)) (takes takes' : Amounts) (s : Standing) (text : List ℕ)
    → IsStanding s → IsTakenSince (Some text) left takes takes' s → s.fault ≡ Some TooMany → PassesLimit text
large_capture left takes takes' s text stands since told =
    let rest = told_rest left text s.taken since.consumed in
    let passes = stands.too_many told in (
      passes.0,
      passes.1 ++ rest.0,
      passes.2,
      rest.2 ∙ ap (λ t. t ++ rest.0) passes.3 ∙ append_assoc passes.0 passes.1 rest.0,
      passes.4,
      passes.5,
    )

pub failed_take : (left left' : Option (List ℕ)) (takes takes' : Amounts) (s : Standing)
    → IsStanding s → IsTakenSince left left' takes takes' s → s.fault ≡ Some Read
    → (earlier : Amounts) × (takes' ≡ takes ++ (earlier ++ None ∷ []))
failed_take left left' takes takes' s stands since told =
    let last : last_takes s.complete s.fault ≡ None ∷ [] =
    ap (λ (c : Bool). last_takes c s.fault) (stands.read told).1 ∙ ap (λ (f : Option FeedFault). last_takes false f) told in
    (since.earlier, since.calls ∙ ap (λ x. takes ++ (since.earlier ++ x)) last)

-- what has stopped it, where no take failed
Stops : Standing → Type 0
Stops s = (s.ended ≡ true) ⊎ ((fault : PcapFault) × (s.fault ≡ Some (Capture fault))) ⊎ (s.fault ≡ Some TooMany)

stops_by : (s : Standing) (f : Option FeedFault) → s.fault ≡ f → HasStopped s → s.fault ≢ Some Read → Stops s
unfolding Stops
stops_by s f is (inl ended) unread = inl ended
stops_by s None is (inr some) unread = absurd (some is)
stops_by s (Some Read) is (inr some) unread = absurd (unread is)
stops_by s (Some (Capture fault)) is (inr some) unread = inr (inl (fault, is))
stops_by s (Some TooMany) is (inr some) unread = inr (inr is)

not_large : (text : List ℕ) (frames : List Frame) → IsCapture text frames → IsWithinLimits frames → PassesLimit text → ⊥
not_large text frames is within (used, rest, first, split, capture, large) =
    let begins = capture_first text used rest frames first is split capture in
    large (within_first frames first begins.0 begins.1 within)

not_large_before : (text : List ℕ) (frames : List Frame) (fault : PcapFault) → IsCaptureUpTo text frames fault
    → IsWithinLimits frames → PassesLimit text → ⊥
not_large_before text frames fault is within (used, rest, first, split, capture, large) =
    let begins = up_to_first text used rest frames first fault is split capture in
    large (within_first frames first begins.0 begins.1 within)

pub ends_where_it_does : (left : Option (List ℕ)) (takes takes' : Amounts) (s : Standing) (text : List ℕ) (frames : List Frame)
    → IsStanding s → IsTakenSince (Some text) left takes takes' s → HasStopped s → s.fault ≢ Some Read
    → IsCapture text frames → IsWithinLimits frames → (s.ended ≡ true) × (s.pulled ≡ frames)
unfolding Stops
ends_where_it_does left takes takes' s text frames stands since stopped unread is within =
    cases (stops_by s s.fault refl stopped unread)
  where
    cases : Stops s → (s.ended ≡ true) × (s.pulled ≡ frames)
    cases (inl ended) = (ended, capture_once text s.pulled frames (whole_capture left takes takes' s text stands since ended) is)
    cases (inr (inl (fault, told))) =
        absurd (no_fault text frames s.pulled fault is (broken_capture left takes takes' s text fault stands since told))
    cases (inr (inr told)) = absurd (not_large text frames is within (large_capture left takes takes' s text stands since told))

pub breaks_where_it_does : (left : Option (List ℕ)) (takes takes' : Amounts) (s : Standing) (text : List ℕ) (frames : List Frame)
    (fault : PcapFault) → IsStanding s → IsTakenSince (Some text) left takes takes' s → HasStopped s → s.fault ≢ Some Read
    → IsCaptureUpTo text frames fault → IsWithinLimits frames → (s.fault ≡ Some (Capture fault)) × (s.pulled ≡ frames)
unfolding Stops
breaks_where_it_does left takes takes' s text frames fault stands since stopped unread is within =
    cases (stops_by s s.fault refl stopped unread)
  where
    cases : Stops s → (s.fault ≡ Some (Capture fault)) × (s.pulled ≡ frames)
    cases (inl ended) = absurd (no_fault text s.pulled frames fault (whole_capture left takes takes' s text stands since ended) is)
    cases (inr (inl (other, told))) =
        let same = fault_once text s.pulled frames other fault (broken_capture left takes takes' s text other stands since told) is in
        (told ∙ ap (λ (f : PcapFault). Some (Capture f)) same.1, same.0)
    cases (inr (inr told)) =
        absurd (not_large_before text frames fault is within (large_capture left takes takes' s text stands since told))

pub passes_where_it_does : (left : Option (List ℕ)) (takes takes' : Amounts) (s : Standing) (text : List ℕ)
    → IsStanding s → IsTakenSince (Some text) left takes takes' s → HasStopped s → s.fault ≢ Some Read
    → PassesLimit text → s.fault ≡ Some TooMany
unfolding Stops
passes_where_it_does left takes takes' s text stands since stopped unread passes =
    cases (stops_by s s.fault refl stopped unread)
  where
    cases : Stops s → s.fault ≡ Some TooMany
    cases (inl ended) =
        absurd (not_large text s.pulled (whole_capture left takes takes' s text stands since ended) stands.within passes)
    cases (inr (inl (fault, told))) =
        absurd (not_large_before text s.pulled fault (broken_capture left takes takes' s text fault stands since told)
        stands.within passes)
    cases (inr (inr told)) = told
