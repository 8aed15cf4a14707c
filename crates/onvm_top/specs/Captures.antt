-- What the captures of a command hold: of a file what stands in it, of a generator the frames that it makes.
use Rattle.std.specs.Borrow.{Bor}
use Rattle.std.specs.Prelude.{◌≡◌, ◌⊎◌, ◌<◌, ℕ, List, [], Option, Some, None, slice_get}
use Rattle.onvm_base.specs.declared.frame.Frame.{Frame}
use Rattle.onvm_host.specs.Files.{Entries, file_of}
use Rattle.pcap_in.specs.Classic.{IsCapture}
use Rattle.pcap_in.specs.Faulty.{IsCaptureUpTo}
use Rattle.pcap_in.specs.declared.pull.PcapFault.{PcapFault}
use Rattle.rx_feed.specs.Limits.{IsWithinLimits, PassesLimit}
use Rattle.rx_feed.specs.Made.{made_frames}
use Rattle.command_words.specs.declared.capture.CaptureWord.{CaptureWord}
use Rattle.command_words.specs.declared.capture.CaptureWord.TheVariants.{File, Generated}
use Rattle.onvm_top.specs.Known.{OnTold}

-- the file of this name is a capture of these frames, which the port takes
pub record IsGoodCapture (name : List ℕ) (files : Entries) (frames : List Frame) : Type 0 where
  pub text : List ℕ
  pub file : file_of name files ≡ Some text
  pub is_capture : IsCapture text frames
  pub within : IsWithinLimits frames

-- the file of this name has this fault, before a limit of the port
pub record IsFaultyCapture (name : List ℕ) (files : Entries) (fault : PcapFault) : Type 0 where
  pub text : List ℕ
  pub frames : List Frame
  pub file : file_of name files ≡ Some text
  pub up_to : IsCaptureUpTo text frames fault
  pub within : IsWithinLimits frames

-- the file of this name has more frames or bytes than the port takes, before a fault
pub record IsLargeCapture (name : List ℕ) (files : Entries) : Type 0 where
  pub text : List ℕ
  pub file : file_of name files ≡ Some text
  pub passes : PassesLimit text

abbrev pub IsBadCapture : List ℕ → Entries → Type 0
IsBadCapture name files = ((fault : PcapFault) × IsFaultyCapture name files fault) ⊎ IsLargeCapture name files

-- the frames of a port, by its capture: of a file where files are told
abbrev pub AreFramesOf : Option Entries → Option CaptureWord → List Frame → Type 0
AreFramesOf told None frames = frames ≡ []
AreFramesOf told (Some (File name)) frames =
    IsWithinLimits frames × OnTold told (λ files. IsGoodCapture name.now files frames)
AreFramesOf told (Some (Generated seed count)) frames = frames ≡ made_frames seed count

-- each port has these frames, of captures that are good
abbrev pub AreGood : Option Entries → List CaptureWord → (ℕ → List Frame) → Type 0
AreGood told captures frames = (port : ℕ) → AreFramesOf told (slice_get captures port) (frames port)

-- the port's capture is the file of this name
abbrev pub IsFileOf : List CaptureWord → (port : ℕ) → List ℕ → Type 0
IsFileOf captures port name = (file : Bor (List ℕ)) × (slice_get captures port ≡ Some (File file)) × (file.now ≡ name)

-- the lowest port whose capture is bad
pub record IsLowestBad (files : Entries) (captures : List CaptureWord) (port : ℕ) : Type 0 where
  pub name : List ℕ
  pub file : IsFileOf captures port name
  pub bad : IsBadCapture name files
  pub lower : (p : ℕ) → p < port → (frames : List Frame) × AreFramesOf (Some files) (slice_get captures p) frames
