-- Captures in the classic pcap format, version 2.4 and link type Ethernet, by byte offset.
use Rattle.std.specs.Prelude.{◌≡◌, ℕ, ◌+◌, ◌-◌, ◌<◌, ◌≤◌, List, [], ◌∷◌, ◌++◌, length, take, drop}
use Rattle.onvm_base.specs.declared.frame.Frame.{Frame}
use Rattle.onvm_base.specs.declared.limits.TheConstants.{MAX_FRAME_BYTES}
use Rattle.pcap_in.specs.Spelling.{in_nanos, magic_of, number, per_second}
use Rattle.pcap_in.specs.declared.judge.TheConstants.{HEADER_LEN, HEAD_LEN}
use Rattle.pcap_in.specs.declared.spelling.Spelling.{Spelling}

-- the bytes begin as a capture of this spelling does
abbrev pub HasMagic : Spelling → List ℕ → Type 0
HasMagic spelling bytes = take 4 bytes ≡ magic_of spelling.endian spelling.unit

-- the 24 bytes before the records. Zone at 8, accuracy at 12 and snap length at 16 are as they are
pub record IsHeader (spelling : Spelling) (bytes : List ℕ) : Type 0 where
  pub size : length bytes ≡ HEADER_LEN
  pub magic : HasMagic spelling bytes
  pub major : number spelling.endian 2 4 bytes ≡ 2
  pub minor : number spelling.endian 2 6 bytes ≡ 4
  pub link : number spelling.endian 4 20 bytes ≡ 1

-- the 16 bytes of a record's head, and then the frame's bytes
pub record IsRecord (spelling : Spelling) (bytes : List ℕ) (frame : Frame) : Type 0 where
  pub seconds : frame.stamp.seconds ≡ number spelling.endian 4 0 bytes
  pub fraction : number spelling.endian 4 4 bytes < per_second spelling.unit
  pub nanos : frame.stamp.nanos ≡ in_nanos spelling.unit (number spelling.endian 4 4 bytes)
  pub included : number spelling.endian 4 8 bytes ≡ length frame.packet
  pub limit : length frame.packet ≤ MAX_FRAME_BYTES
  pub tail : frame.stamp.tail ≡ number spelling.endian 4 12 bytes - number spelling.endian 4 8 bytes
  pub size : length bytes ≡ HEAD_LEN + length frame.packet
  pub packet : frame.packet ≡ drop HEAD_LEN bytes

-- a text is the records of these frames, in order and to its end
abbrev pub AreRecords : Spelling → List ℕ → List Frame → Type 0
AreRecords spelling text [] = text ≡ []
AreRecords spelling text (frame ∷ frames) =
    (record_bytes rest : List ℕ) × (text ≡ record_bytes ++ rest)
    × IsRecord spelling record_bytes frame × AreRecords spelling rest frames

-- a text is a capture of these frames in this spelling
abbrev pub IsCaptureIn : Spelling → List ℕ → List Frame → Type 0
IsCaptureIn spelling text frames =
    (header rest : List ℕ) × (text ≡ header ++ rest) × IsHeader spelling header × AreRecords spelling rest frames

-- a text is a capture of these frames, in one of the four spellings
abbrev pub IsCapture : List ℕ → List Frame → Type 0
IsCapture text frames = (spelling : Spelling) × IsCaptureIn spelling text frames
