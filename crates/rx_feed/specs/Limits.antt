-- What a port takes of a capture.
use Rattle.std.specs.Prelude.{◌≡◌, ◌⊎◌, ℕ, ◌+◌, ◌*◌, ◌≤◌, List, ◌++◌, length, sum_by}
use Rattle.onvm_base.specs.declared.frame.Frame.{Frame}
use Rattle.onvm_base.specs.declared.limits.TheConstants.{MAX_FRAME_BYTES, MAX_PORT_FRAMES, MAX_PORT_BYTES}
use Rattle.pcap_in.specs.declared.judge.TheConstants.{HEADER_LEN, HEAD_LEN}
use Rattle.pcap_in.specs.Classic.{IsCapture}
use Rattle.pcap_in.specs.Faulty.{IsCaptureUpTo}
use Rattle.pcap_in.specs.declared.pull.PcapFault.TheVariants.{Torn}

-- the bytes of these frames together
abbrev pub bytes_of : List Frame → ℕ
bytes_of frames = sum_by (λ frame. length frame.packet) frames

pub record IsWithinLimits (frames : List Frame) : Type 0 where
  pub few : length frames ≤ MAX_PORT_FRAMES
  pub small : bytes_of frames ≤ MAX_PORT_BYTES

-- the text begins with a capture of more than a port takes
abbrev pub PassesLimit : List ℕ → Type 0
PassesLimit text =
    (used rest : List ℕ) × (frames : List Frame) × (text ≡ used ++ rest)
    × IsCapture used frames
    × ¬ (IsWithinLimits frames)

-- the first bytes of a text show no fault and pass no limit: they are a capture of frames that a port
-- takes, or would be but that they end inside a header or a record
abbrev pub IsSoundSoFar : List ℕ → Type 0
IsSoundSoFar front =
    (frames : List Frame) × IsWithinLimits frames
    × (IsCapture front frames ⊎ ((at : ℕ) × IsCaptureUpTo front frames (Torn at)))

-- the most bytes of a record: of its head and of a frame
abbrev pub record_limit : ℕ
record_limit = HEAD_LEN + MAX_FRAME_BYTES
