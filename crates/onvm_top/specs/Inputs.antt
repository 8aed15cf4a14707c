-- The feeds of a command's captures.
use Rattle.std.specs.Borrow.{Bor}
use Rattle.std.specs.Prelude.{◌≡◌, ◌⊎◌, ℕ, List, [], ◌∷◌, Option, Some, Result, length, slice_get}
use Rattle.onvm_base.specs.declared.ids.PortId.{PortId}
use Rattle.onvm_host.specs.Deeds.{Amounts, Deed, Opened, OpenFailed, Shut, made_or_failed}
use Rattle.onvm_host.specs.declared.fault.HostFault.{HostFault}
use Rattle.onvm_host.specs.Files.{Entries, Opens as OpensFile}
use Rattle.rx_feed.specs.declared.feed.Feed.{Feed}
use Rattle.rx_feed.specs.declared.feed.Feed.TheVariants.{Live, Made}
use Rattle.command_words.specs.declared.capture.CaptureWord.{CaptureWord}
use Rattle.command_words.specs.declared.capture.CaptureWord.TheVariants.{File, Generated}
use Rattle.onvm_top.specs.Calls.{CannotOpen, StopsOpening}
use Rattle.onvm_top.specs.declared.fault.Fault.{Fault}
use Rattle.onvm_top.specs.declared.fault.Fault.TheVariants.{ReadCapture, Memory}

-- the captures that are files may be opened
abbrev pub MayOpen : (List ℕ → Type 0) → List CaptureWord → Type 0
MayOpen may_open captures = (port : ℕ) (name : Bor (List ℕ)) → slice_get captures port ≡ Some (File name) → may_open name.now

-- where captures couldn't all be opened
abbrev pub StopsAtOpens : List CaptureWord → List Deed → Fault → Type 0
StopsAtOpens captures deeds fault =
    ((port : PortId) × (fault ≡ ReadCapture port) × CannotOpen captures port.0 deeds)
    ⊎ ((fault ≡ Memory) × StopsOpening captures deeds)

-- the deeds of opening a capture
abbrev pub opens_of : {T : Type 0} → CaptureWord → Result T HostFault → List Deed
opens_of (File name) result = made_or_failed (Opened name.now) (OpenFailed name.now) result
opens_of (Generated seed count) result = []

-- Of an input these are its name, the bytes that are left and its takes
module _ {I : Type 0} (name_of : I → List ℕ) (left_of : I → Option (List ℕ)) (takes_of : I → Amounts) where
  -- the feed is that of the capture, and nothing was taken of it
  abbrev pub IsFeedOf : Option Entries → CaptureWord → Feed I → Type 0
  IsFeedOf told (File name) (Live input) =
      (name_of input ≡ name.now) × (takes_of input ≡ []) × OpensFile told name.now (left_of input)
  IsFeedOf told (File name) (Made generator) = ⊥
  IsFeedOf told (Generated seed count) (Live input) = ⊥
  IsFeedOf told (Generated seed count) (Made generator) =
      generator ≡ record { seed = seed; count = count; given = 0 }

  pub record AreFeedsOf (told : Option Entries) (captures : List CaptureWord) (feeds : List (Feed I)) : Type 0 where
    pub many : length feeds ≡ length captures
    pub each : (port : ℕ) (capture : CaptureWord) (feed : Feed I) → slice_get captures port ≡ Some capture
        → slice_get feeds port ≡ Some feed → IsFeedOf told capture feed

  -- the deeds of shutting these feeds
  abbrev pub shuts_of : List (Feed I) → List Deed
  shuts_of [] = []
  shuts_of (Live input ∷ feeds) = Shut (name_of input) (takes_of input) ∷ shuts_of feeds
  shuts_of (Made generator ∷ feeds) = shuts_of feeds
