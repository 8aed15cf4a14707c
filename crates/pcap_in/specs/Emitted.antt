-- The emitted spelling: numbers low byte first, nanoseconds, link type Ethernet. The snap length is the most bytes of a
-- frame.
use Rattle.std.specs.Prelude.{ℕ, ◌+◌, ◌-◌, ◌<◌, ◌≤◌, ◌^◌, min, List, ◌++◌, length}
use Rattle.std.specs.List.{flat_map}
use Rattle.byteorder.specs.Endian.{little_bytes}
use Rattle.onvm_base.specs.declared.frame.Frame.{Frame}
use Rattle.onvm_base.specs.declared.frame.Stamp.{Stamp}
use Rattle.onvm_base.specs.declared.limits.TheConstants.{MAX_FRAME_BYTES}

-- magic a1b23c4d, version 2.4, zone 0, accuracy 0, snap length, link type
abbrev pub emitted_header : List ℕ
emitted_header =
    little_bytes 4 0xa1b23c4d ++ little_bytes 2 2 ++ little_bytes 2 4 ++ little_bytes 4 0 ++ little_bytes 4 0
    ++ little_bytes 4 MAX_FRAME_BYTES ++ little_bytes 4 1

-- the original length is included length and tail together, as far as four bytes go
abbrev pub emitted_head : Stamp → ℕ → List ℕ
emitted_head stamp len =
    little_bytes 4 stamp.seconds ++ little_bytes 4 stamp.nanos ++ little_bytes 4 len
    ++ little_bytes 4 (min (len + stamp.tail) 4294967295)

abbrev pub emitted_frame : Frame → List ℕ
emitted_frame frame = emitted_head frame.stamp (length frame.packet) ++ frame.packet

-- the capture text of these frames
abbrev pub emit : List Frame → List ℕ
emit frames = emitted_header ++ flat_map emitted_frame frames

-- a frame that can be spelled: seconds take four bytes, nanoseconds are less than a second
pub record IsEmittable (frame : Frame) : Type 0 where
  pub seconds : frame.stamp.seconds < 2 ^ 32
  pub nanos : frame.stamp.nanos < 1000000000
  pub limit : length frame.packet ≤ MAX_FRAME_BYTES

-- the frame with its tail cut, so that with the packet's length it is at most what four bytes hold
abbrev pub with_cut_tail : Frame → Frame
with_cut_tail frame =
    record {
      stamp = record {
        seconds = frame.stamp.seconds;
        nanos = frame.stamp.nanos;
        tail = min frame.stamp.tail (4294967295 - length frame.packet);
      };
      packet = frame.packet;
    }
