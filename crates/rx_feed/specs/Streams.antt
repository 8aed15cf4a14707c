-- What holds of a stream.
use Rattle.std.specs.Prelude.{ℕ, ◌≡◌, ◌⊎◌, ◌+◌, ◌<◌, ◌≤◌, Bool, true, false, List, [], ◌∷◌, ◌++◌, length, take, Option, Some, None, Result, Ok, Err}
use Rattle.onvm_base.specs.declared.frame.Frame.{Frame}
use Rattle.pcap_in.specs.Calls.{HasRead}
use Rattle.pcap_in.specs.Classic.{IsCapture}
use Rattle.pcap_in.specs.Faulty.{IsCaptureUpTo}
use Rattle.pcap_in.specs.Reading.{Pulls, Reading}
use Rattle.pcap_in.specs.declared.pull.PcapFault.{PcapFault}
use Rattle.pcap_in.specs.declared.pull.Pull.TheVariants as pull
use Rattle.rx_feed.specs.Limits.{IsSoundSoFar, IsWithinLimits, bytes_of}
use Rattle.rx_feed.specs.History.{bytes_in, frames_in}
use Rattle.rx_feed.specs.Standing.{IsStanding, Standing, most_unused, used_by}
use Rattle.rx_feed.specs.declared.fault.FeedFault.{FeedFault}
use Rattle.rx_feed.specs.declared.fault.FeedFault.TheVariants.{Read, Capture, TooMany}
use Rattle.rx_feed.specs.declared.stream.Answer.{Answer}
use Rattle.rx_feed.specs.declared.stream.Answer.TheVariants as answer
use Rattle.rx_feed.specs.declared.stream.Stream.{Stream}
use Rattle.rx_feed.specs.declared.stream.TheConstants.{PIECE_LEN}

-- the reader answers More: no frame and no fault stands among the bytes that it keeps
abbrev pub WantsMore : Reading → Type 0
WantsMore reading = Pulls reading pull.More reading

-- the bytes that were taken and not fed yet
abbrev pub waiting_of : Stream → List ℕ
waiting_of s = take s.waiting s.piece.items

-- where a stream stands
abbrev pub standing_of : Stream → Standing
standing_of s =
    record {
      taken = bytes_in s.taken;
      complete = s.reader.finished;
      pulled = frames_in s.pulled;
      ended = s.ended;
      fault = s.fault;
    }

-- the reader was fed what was taken, but for the bytes that wait, and these frames were pulled of it
pub record IsFlow (taken : List ℕ) (frames : List Frame) (reading : Reading) (waiting : List ℕ) : Type 0 where
  pub fed : List ℕ
  pub taken_is : taken ≡ fed ++ waiting
  pub read : HasRead fed frames reading
  pub few : length taken ≤ used_by frames + most_unused

-- the piece has its length, and nothing waits that can't be fed any more
pub record HasPiece (s : Stream) : Type 0 where
  pub long : length s.piece.items ≡ PIECE_LEN
  pub fits : s.waiting ≤ PIECE_LEN
  pub last : s.reader.finished ≡ true → s.waiting ≡ 0

-- so many frames with so many bytes were pulled, within the limits
pub record IsCounted (s : Stream) : Type 0 where
  pub count : s.count ≡ length (frames_in s.pulled)
  pub bytes : s.bytes ≡ bytes_of (frames_in s.pulled)
  pub within : IsWithinLimits (frames_in s.pulled)

-- nothing has stopped the stream, and these frames were pulled of its reader
pub record IsFlowing (frames : List Frame) (s : Stream) : Type 0 where
  pub piece : HasPiece s
  pub flow : IsFlow (bytes_in s.taken) frames s.reader (waiting_of s)
  pub counted : IsCounted s
  pub going : s.ended ≡ false
  pub sound : s.fault ≡ None

-- of a stream at any time
pub record IsStream (s : Stream) : Type 0 where
  pub standing : IsStanding (standing_of s)
  pub counted : IsCounted s
  pub flowing : s.ended ≡ false → s.fault ≡ None → IsFlowing (frames_in s.pulled) s

-- a call left these as they were
pub record SameFrames (old new : Stream) : Type 0 where
  pub pulled : new.pulled ≡ old.pulled
  pub count : new.count ≡ old.count
  pub bytes : new.bytes ≡ old.bytes
  pub ended : new.ended ≡ old.ended
  pub fault : new.fault ≡ old.fault

-- a reader was fed more bytes, or told that no more come
abbrev pub GoesOn : Reading → Reading → Type 0
GoesOn old new = (length old.rest < length new.rest) ⊎ ((new.rest ≡ old.rest) × (new.finished ≡ true))

-- where a stream stands behind a failed take
abbrev pub failed : Standing → Standing
failed s = record s { fault = Some Read }

-- what stops a stream is there
abbrev pub IsStopOf : FeedFault → Standing → Type 0
IsStopOf Read s = IsSoundSoFar s.taken × (s.complete ≡ false)
IsStopOf (Capture fault) s = (more : List ℕ) → (s.complete ≡ true → more ≡ []) → IsCaptureUpTo (s.taken ++ more) s.pulled fault
IsStopOf TooMany s = ⊥

-- the answer is what stands next in the capture
abbrev pub IsAnswer : Answer → Stream → Type 0
IsAnswer (answer.Frame frame) s = IsFlowing (frames_in s.pulled ++ frame ∷ []) s
IsAnswer answer.End s = IsCapture (bytes_in s.taken) (frames_in s.pulled) × (s.reader.finished ≡ true)
IsAnswer (answer.Stop fault) s = IsStopOf fault (standing_of s)
