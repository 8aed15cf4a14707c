-- The calls of a reader, what was fed by them and given, and how both belong together.
use Rattle.std.specs.Prelude.{◌≡◌, ◌⊎◌, ℕ, ◌<◌, true, false, Some, None, List, [], ◌∷◌, ◌++◌, length}
use Rattle.onvm_base.specs.declared.frame.Frame.{Frame}
use Rattle.pcap_in.specs.Classic.{IsCaptureIn}
use Rattle.pcap_in.specs.Reading.{Reading, Pulls}
use Rattle.pcap_in.specs.declared.pull.Pull.{Pull}
use Rattle.pcap_in.specs.declared.pull.Pull.TheVariants as pull
use Rattle.pcap_in.specs.declared.spelling.Spelling.{Spelling}

-- a call that was not refused, with the piece that was fed or what was answered
pub data Call : Type 0 where
  Feed : (piece : List ℕ) → Call
  Finish : Call
  Next : (answer : Pull) → Call

-- these calls, in order, lead from one reading to another
abbrev pub Lead : List Call → Reading → Reading → Type 0
Lead [] old new = new ≡ old
Lead (Feed piece ∷ calls) old new =
    (old.finished ≡ false) × Lead calls (record old { rest = old.rest ++ piece }) new
Lead (Finish ∷ calls) old new = Lead calls (record old { finished = true }) new
Lead (Next answer ∷ calls) old new = (between : Reading) × Pulls old answer between × Lead calls between new

-- the bytes that were fed
abbrev pub bytes_fed_by : List Call → List ℕ
bytes_fed_by [] = []
bytes_fed_by (Feed piece ∷ calls) = piece ++ bytes_fed_by calls
bytes_fed_by (Finish ∷ calls) = bytes_fed_by calls
bytes_fed_by (Next answer ∷ calls) = bytes_fed_by calls

-- the frame of an answer, if it is one
abbrev pub frames_of_pull : Pull → List Frame
frames_of_pull (pull.Frame frame) = frame ∷ []
frames_of_pull pull.More = []
frames_of_pull pull.End = []
frames_of_pull (pull.Bad fault) = []

-- the frames that were given
abbrev pub frames_given_by : List Call → List Frame
frames_given_by [] = []
frames_given_by (Feed piece ∷ calls) = frames_given_by calls
frames_given_by (Finish ∷ calls) = frames_given_by calls
frames_given_by (Next answer ∷ calls) = frames_of_pull answer ++ frames_given_by calls

-- some frames were given: the bytes fed are a capture of them and then the reader's rest
pub record IsBehind (fed : List ℕ) (frames : List Frame) (reading : Reading) : Type 0 where
  pub spelling : Spelling
  pub known : reading.spelling ≡ Some spelling
  pub some : 0 < length frames
  pub used : List ℕ
  pub is_capture : IsCaptureIn spelling used frames
  pub fed_is : fed ≡ used ++ reading.rest
  pub place : reading.place ≡ length used

-- of the bytes fed no frame was given, or these
abbrev pub HasRead : List ℕ → List Frame → Reading → Type 0
HasRead fed frames reading =
    ((reading.spelling ≡ None) × (reading.place ≡ 0) × (frames ≡ []) × (fed ≡ reading.rest))
    ⊎ IsBehind fed frames reading
