-- Where a port stands with its capture: what was taken of the source, and what was pulled of that.
use Rattle.std.specs.Prelude.{ℕ, ◌≡◌, ◌≢◌, ◌⊎◌, ◌+◌, ◌-◌, ◌*◌, ◌≤◌, Bool, true, false, List, [], ◌∷◌, ◌++◌, length, Option, Some, None}
use Rattle.std.specs.Io.KnownBytes.{Consumes, IsAtEnd}
use Rattle.onvm_base.specs.declared.frame.Frame.{Frame}
use Rattle.onvm_base.specs.declared.limits.TheConstants.{MAX_FRAME_BYTES}
use Rattle.onvm_host.specs.Deeds.{Amounts}
use Rattle.onvm_host.specs.Moved.{Moved}
use Rattle.pcap_in.specs.Classic.{IsCapture}
use Rattle.pcap_in.specs.Faulty.{IsCaptureUpTo}
use Rattle.pcap_in.specs.declared.judge.TheConstants.{HEADER_LEN, HEAD_LEN}
use Rattle.pcap_in.specs.declared.pull.PcapFault.{PcapFault}
use Rattle.rx_feed.specs.Limits.{IsSoundSoFar, IsWithinLimits, PassesLimit, bytes_of}
use Rattle.rx_feed.specs.declared.fault.FeedFault.{FeedFault}
use Rattle.rx_feed.specs.declared.fault.FeedFault.TheVariants.{Read, Capture, TooMany}
use Rattle.rx_feed.specs.declared.stream.TheConstants.{PIECE_LEN}

-- the bytes taken, whether no more come, the frames pulled, whether the end was seen, and what stopped the port
pub record Standing : Type 0 where
  pub taken : List ℕ
  pub complete : Bool
  pub pulled : List Frame
  pub ended : Bool
  pub fault : Option FeedFault

-- no more frames come
abbrev pub HasStopped : Standing → Type 0
HasStopped s = (s.ended ≡ true) ⊎ (s.fault ≢ None)

-- the bytes of the header and of the records of these frames
abbrev pub used_by : List Frame → ℕ
used_by frames = HEADER_LEN + HEAD_LEN * length frames + bytes_of frames

-- the most bytes that are taken and not used: less than a record, and a piece
abbrev pub most_unused : ℕ
most_unused = HEAD_LEN + MAX_FRAME_BYTES - 1 + PIECE_LEN

-- the bytes begin with a capture of these frames. Without a frame nothing is said of them
abbrev pub BeginsWith : List ℕ → List Frame → Type 0
BeginsWith taken pulled =
    (pulled ≡ []) ⊎ ((used rest : List ℕ) × (taken ≡ used ++ rest) × IsCapture used pulled)

-- few bytes are taken before they are used
pub record StandsSoFar (taken : List ℕ) (pulled : List Frame) : Type 0 where
  pub begins : BeginsWith taken pulled
  pub few : length taken ≤ used_by pulled + most_unused

-- what was pulled is the reading of what was taken, within the limits of a port, and what stopped the port is the
-- first fault there
pub record IsStanding (s : Standing) : Type 0 where
  pub within : IsWithinLimits s.pulled
  pub so_far : StandsSoFar s.taken s.pulled
  pub ended : s.ended ≡ true → IsCapture s.taken s.pulled × (s.complete ≡ true)
  pub broken : (fault : PcapFault) → s.fault ≡ Some (Capture fault) → (more : List ℕ) → (s.complete ≡ true → more ≡ [])
      → IsCaptureUpTo (s.taken ++ more) s.pulled fault
  pub too_many : s.fault ≡ Some TooMany → PassesLimit s.taken
  pub read : s.fault ≡ Some Read → IsSoundSoFar s.taken × (s.complete ≡ false)

-- the takes at the end: the one that found no more bytes, or the one that failed
abbrev pub last_takes : Bool → Option FeedFault → Amounts
last_takes true fault = Some 0 ∷ []
last_takes false (Some Read) = None ∷ []
last_takes false fault = []

-- since a moment these bytes were taken of the source: each take but the last gave at least one byte
pub record IsTakenSince (left left' : Option (List ℕ)) (takes takes' : Amounts) (s : Standing) : Type 0 where
  pub consumed : Consumes left left' s.taken
  pub earlier : Amounts
  pub calls : takes' ≡ takes ++ (earlier ++ last_takes s.complete s.fault)
  pub moved : Moved (length s.taken) earlier
  pub at_end : s.complete ≡ true → IsAtEnd left'
