-- What a stream's steps keep: feeding, taking, finishing and pulling.
use Rattle.std.proofs.Common.{◌≡◌, ◌∙◌, sym, ap, subst, refl, inl, inr, ◌⊎◌, ℕ, ◌+◌, ◌*◌, ◌^◌, ◌<◌, ◌≤◌, ◌≢◌, true, false, List, [], ◌∷◌, ◌++◌, length, take, Some, None, append_assoc, arith}
use Rattle.std.proofs.lemmas.List.{append-nil, length-append}
use Rattle.std.proofs.lemmas.List.Sums.{sum_by-append, sum_by-cons}
use Rattle.onvm_base.specs.declared.frame.Frame.{Frame}
use Rattle.onvm_base.specs.declared.limits.TheConstants.{MAX_FRAME_BYTES, MAX_PORT_BYTES, MAX_PORT_FRAMES}
use Rattle.pcap_in.specs.Calls.{HasRead}
use Rattle.pcap_in.specs.Classic.{IsCapture}
use Rattle.pcap_in.specs.Faulty.{IsCaptureUpTo}
use Rattle.pcap_in.specs.Reading.{Pulls, Reading, unfed_reading}
use Rattle.pcap_in.specs.declared.judge.TheConstants.{HEADER_LEN, HEAD_LEN}
use Rattle.pcap_in.specs.declared.pull.PcapFault.{PcapFault}
use Rattle.pcap_in.specs.declared.pull.Pull.TheVariants as pull
use Rattle.pcap_in.specs.declared.spelling.Spelling.{Spelling}
use Rattle.pcap_in.proofs.HasRead.{HasRead-fed, HasRead-length, HasRead-pulled, IsCapture-ended, IsCaptureUpTo-met}
use Rattle.rx_feed.specs.Streams.{WantsMore}
use Rattle.rx_feed.specs.Limits.{IsSoundSoFar, IsWithinLimits, PassesLimit, bytes_of, record_limit}
use Rattle.rx_feed.proofs.Captured.{inside-WantsMore, length-IsCapture, short-WantsMore}
use Rattle.rx_feed.proofs.Sound.{sound-WantsMore}
use Rattle.rx_feed.specs.Standing.{BeginsWith, StandsSoFar, most_unused, used_by}
use Rattle.rx_feed.specs.Streams.{IsFlow}
use Rattle.rx_feed.specs.declared.stream.TheConstants.{PIECE_LEN}

-- what was taken begins with a capture of what was pulled
begins_with : (taken fed waiting : List ℕ) (frames : List Frame) (r : Reading) → taken ≡ fed ++ waiting
    → HasRead fed frames r → BeginsWith taken frames
begins_with taken fed waiting frames r taken-is (inl (none, zero, empty, fed-is)) = inl empty
begins_with taken fed waiting frames r taken-is (inr behind) =
    inr (
      behind.used,
      r.rest ++ waiting,
      taken-is ∙ ap (λ t. t ++ waiting) behind.fed_is ∙ append_assoc behind.used r.rest waiting,
      (behind.spelling, behind.is_capture),
    )

pub stands_so_far : (taken waiting : List ℕ) (frames : List Frame) (r : Reading) → IsFlow taken frames r waiting
    → StandsSoFar taken frames
stands_so_far taken waiting frames r flow =
    record { begins = begins_with taken flow.fed waiting frames r flow.taken_is flow.read; few = flow.few }

-- Nothing waits

all_fed : (taken : List ℕ) (frames : List Frame) (r : Reading) (flow : IsFlow taken frames r []) → flow.fed ≡ taken
all_fed taken frames r flow = sym (flow.taken_is ∙ append-nil flow.fed)

read_all : (taken : List ℕ) (frames : List Frame) (r : Reading) → IsFlow taken frames r [] → HasRead taken frames r
read_all taken frames r flow =
    let P : List ℕ → Type 0 = λ t. HasRead t frames r in
    subst P (all_fed taken frames r flow) flow.read

-- the end was met
pub ended_flow : (taken : List ℕ) (frames : List Frame) (old new : Reading) → IsFlow taken frames old [] → Pulls old pull.End new
    → IsCapture taken frames
ended_flow taken frames old new flow pulls = IsCapture-ended taken frames old new (read_all taken frames old flow) pulls

-- a fault was met
pub broken_flow : (taken : List ℕ) (frames : List Frame) (old new : Reading) (fault : PcapFault) → IsFlow taken frames old []
    → Pulls old (pull.Bad fault) new → (more : List ℕ) → (new.finished ≡ true → more ≡ [])
    → IsCaptureUpTo (taken ++ more) frames fault
broken_flow taken frames old new fault flow pulls more last =
    let P : Reading → Type 0 = λ r. r.finished ≡ true → more ≡ [] in
    IsCaptureUpTo-met taken more frames old fault (read_all taken frames old flow) (subst P pulls.0 last) pulls.1

-- a take failed where more was wanted
pub sound_flow : (taken : List ℕ) (frames : List Frame) (r : Reading) → IsFlow taken frames r [] → IsWithinLimits frames
    → WantsMore r → IsSoundSoFar taken
sound_flow taken frames r flow within wants = sound-WantsMore taken frames r (read_all taken frames r flow) within wants

-- a frame was pulled
pub pulled_flow : (taken : List ℕ) (frames : List Frame) (frame : Frame) (old new : Reading) → IsFlow taken frames old []
    → Pulls old (pull.Frame frame) new → IsFlow taken (frames ++ frame ∷ []) new []
pulled_flow taken frames frame old new flow pulls =
    record {
      fed = flow.fed;
      taken_is = flow.taken_is;
      read = HasRead-pulled flow.fed frames frame old new flow.read pulls;
      few = omega (
        arith,
        flow.few,
        length-append frames (frame ∷ []),
        sum_by-append (λ (f : Frame). length f.packet) frames (frame ∷ []),
      );
    }

-- a frame more than a port takes
pub passed_flow : (taken waiting : List ℕ) (frames : List Frame) (r : Reading) → IsFlow taken frames r waiting
    → frames ≢ [] → ¬ (IsWithinLimits frames) → PassesLimit taken
passed_flow taken waiting frames r flow some large = cases (begins_with taken flow.fed waiting frames r flow.taken_is flow.read)
  where
    cases : BeginsWith taken frames → PassesLimit taken
    cases (inl none) = absurd (some none)
    cases (inr (used, rest, split, is)) = (used, rest, frames, split, is, large)

-- what waited was fed
pub fed_flow : (taken waiting : List ℕ) (frames : List Frame) (old new : Reading) → IsFlow taken frames old waiting
    → new ≡ record old { rest = old.rest ++ waiting } → IsFlow taken frames new []
fed_flow taken waiting frames old new flow is =
    record {
      fed = flow.fed ++ waiting;
      taken_is = flow.taken_is ∙ sym (append-nil (flow.fed ++ waiting));
      read = HasRead-fed flow.fed waiting frames old new flow.read (ap (λ (r : Reading). r.spelling) is)
          (ap (λ (r : Reading). r.place) is) (ap (λ (r : Reading). r.rest) is);
      few = flow.few;
    }

-- no more bytes come
pub finished_flow : (taken waiting : List ℕ) (frames : List Frame) (old new : Reading) → IsFlow taken frames old waiting
    → new ≡ record old { finished = true } → IsFlow taken frames new waiting
finished_flow taken waiting frames old new flow is =
    let P : List ℕ → Type 0 = λ t. HasRead t frames new in
    record {
      fed = flow.fed;
      taken_is = flow.taken_is;
      read = subst P (append-nil flow.fed)
          (HasRead-fed flow.fed [] frames old new flow.read (ap (λ (r : Reading). r.spelling) is)
          (ap (λ (r : Reading). r.place) is) (ap (λ (r : Reading). r.rest) is ∙ sym (append-nil old.rest)));
      few = flow.few;
    }

-- less than a record is unused where more is wanted
little_unused : (fed : List ℕ) (frames : List Frame) (r : Reading) → HasRead fed frames r → WantsMore r
    → length fed < used_by frames + record_limit
little_unused fed frames r (inl (none, zero, empty, fed-is)) wants =
    omega (arith, ap (length {A = ℕ}) fed-is, short-WantsMore r wants)
little_unused fed frames r (inr behind) wants =
    omega (
      arith,
      ap (length {A = ℕ}) behind.fed_is,
      length-append behind.used r.rest,
      length-IsCapture behind.spelling behind.used frames behind.is_capture,
      inside-WantsMore r wants behind.spelling behind.known,
    )

-- a piece was taken where more was wanted
pub taken_flow : (taken bytes : List ℕ) (frames : List Frame) (r : Reading) → IsFlow taken frames r [] → WantsMore r
    → length bytes ≤ PIECE_LEN → IsFlow (taken ++ bytes) frames r bytes
taken_flow taken bytes frames r flow wants fits =
    record {
      fed = taken;
      taken_is = refl;
      read = read_all taken frames r flow;
      few = omega (
        arith,
        little_unused taken frames r (read_all taken frames r flow) wants,
        length-append taken bytes,
        fits,
      );
    }

-- the most bytes that a stream takes
abbrev pub most_taken : ℕ
most_taken = HEADER_LEN + HEAD_LEN * MAX_PORT_FRAMES + MAX_PORT_BYTES + most_unused

-- what is kept is few
pub few_fed : (taken waiting : List ℕ) (frames : List Frame) (r : Reading) → IsFlow taken frames r waiting → IsWithinLimits frames
    → r.place + length r.rest + length waiting ≤ most_taken
few_fed taken waiting frames r flow within =
    omega (
      arith,
      HasRead-length flow.fed frames r flow.read,
      ap (length {A = ℕ}) flow.taken_is,
      length-append flow.fed waiting,
      flow.few,
      within.few,
      within.small,
    )

-- where nothing waits
pub none_waits : (taken items : List ℕ) (frames : List Frame) (r : Reading) (n : ℕ) → n ≡ 0 → IsFlow taken frames r (take n items)
    → IsFlow taken frames r []
none_waits taken items frames r n zero flow =
    let P : ℕ → Type 0 = λ k. IsFlow taken frames r (take k items) in
    subst P zero flow

-- one frame more is within the limits, or too many are
pub within_more : (frames : List Frame) (frame : Frame) (count bytes : ℕ) → count ≡ length frames → bytes ≡ bytes_of frames
    → count + 1 ≤ MAX_PORT_FRAMES → bytes + length frame.packet ≤ MAX_PORT_BYTES → IsWithinLimits (frames ++ frame ∷ [])
within_more frames frame count bytes counted measured few small =
    record {
      few = omega (arith, counted, few, length-append frames (frame ∷ []));
      small = omega (
        arith,
        measured,
        small,
        sum_by-append (λ (f : Frame). length f.packet) frames (frame ∷ []),
        sum_by-cons (λ (f : Frame). length f.packet) frame [],
      );
    }

pub too_large : (frames : List Frame) (frame : Frame) (count bytes : ℕ) → count ≡ length frames → bytes ≡ bytes_of frames
    → (MAX_PORT_FRAMES < count + 1) ⊎ (MAX_PORT_BYTES < bytes + length frame.packet)
    → IsWithinLimits (frames ++ frame ∷ []) → ⊥
too_large frames frame count bytes counted measured (inl many) within =
    omega (arith, counted, many, within.few, length-append frames (frame ∷ []))
too_large frames frame count bytes counted measured (inr large) within =
    omega (
      arith,
      measured,
      large,
      within.small,
      sum_by-append (λ (f : Frame). length f.packet) frames (frame ∷ []),
      sum_by-cons (λ (f : Frame). length f.packet) frame [],
    )

-- nothing was taken
pub new_flow : (r : Reading) → r ≡ unfed_reading → IsFlow [] [] r []
new_flow r is =
    let P : Reading → Type 0 = λ x. HasRead [] [] x in
    record { fed = []; taken_is = refl; read = subst P (sym is) (inl (refl, refl, refl, refl)); few = omega arith }

-- a reader that answered More still wants more
pub wants_more : (old new : Reading) → Pulls old pull.More new → WantsMore new
wants_more old new pulls =
    let P : Reading → Type 0 = λ r. Pulls r pull.More r in
    subst P (sym pulls.0) (refl, pulls.1, pulls.2)

pub waits_none : (taken items : List ℕ) (frames : List Frame) (r : Reading) (n : ℕ) → n ≡ 0 → IsFlow taken frames r []
    → IsFlow taken frames r (take n items)
waits_none taken items frames r n zero flow =
    let P : ℕ → Type 0 = λ k. IsFlow taken frames r (take k items) in
    subst P (sym zero) flow
