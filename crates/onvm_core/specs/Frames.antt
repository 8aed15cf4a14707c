-- Which frame is in a buffer, and which frames are on their way or recorded.
use Rattle.std.specs.Prelude.{ℕ, ◌≡◌, ◌≢◌, ◌+◌, ◌*◌, ◌<◌, Bool, false, ◌==◌, ◌&&◌, nat_lt, nat_le, if◌then◌else◌, [], ◌∷◌, length, Option, Some, None}
use Rattle.onvm_base.specs.declared.ids.FrameId.{FrameId}
use Rattle.onvm_core.specs.declared.entry.Entry.{Entry}
use Rattle.onvm_core.specs.declared.parcel.Parcel.{Parcel}
use Rattle.onvm_core.specs.declared.step.Item.{Item}
use Rattle.onvm_core.specs.declared.step.Item.TheVariants.{Buffer, Number}
use Rattle.onvm_core.specs.declared.step.Act.{Act}
use Rattle.onvm_core.specs.declared.step.Act.TheVariants.{Take, Give, Push, Pop}
use Rattle.onvm_core.specs.declared.place.Place.TheVariants.{Pool}
use Rattle.onvm_core.specs.Layouts.{IsBuffer}
use Rattle.onvm_core.specs.History.{History, place_of}
use Rattle.onvm_core.specs.Records.{records_in}
use Rattle.onvm_core.specs.Places.{numbers_below, how_many}
use Rattle.onvm_core.specs.Logs.{Setting, Log, log_of, entries_of_port, entry_after}
use Rattle.onvm_core.specs.Receiving.{receive_phase, ReceivePhase, done_count}
use Rattle.onvm_core.specs.Receiving.ReceivePhase.{Between, Asks, Seeks, Sees, Took, Barred}

-- what a buffer outside the pool has: a frame for which it was just taken, or the parcel of its last push or pop
pub data Load : Type 0 where
  Fresh : (frame : FrameId) → Load
  Loaded : (parcel : Parcel) → Load

abbrev pub frame_of : Load → FrameId
frame_of (Fresh frame) = frame
frame_of (Loaded parcel) = parcel.frame

-- the frame of the block that a receive role is in
abbrev pub block_frame : Setting → ℕ → Log → FrameId
block_frame setting port log =
    record { port = record { 0 = port }; number = done_count (receive_phase setting log) + 1 }

abbrev pub load_of : ℕ → Item → Option Load → Option Load
load_of buf (Buffer b parcel) was = if b.0 == buf then Some (Loaded parcel) else was
load_of buf (Number n) was = was

abbrev pub load_after : ℕ → FrameId → Act → Option Load → Option Load
load_after buf fresh (Take b) was = if b.0 == buf then Some (Fresh fresh) else was
load_after buf fresh (Give b outcome parcel) was = if b.0 == buf then None else was
load_after buf fresh (Push ring item) was = load_of buf item was
load_after buf fresh (Pop ring item) was = load_of buf item was
load_after buf fresh _ was = was

-- what is in a buffer: by the last step that names it
abbrev pub load : Setting → ℕ → History → Option Load
load setting buf [] = None
load setting buf (step ∷ before) =
    load_after buf (block_frame setting step.role (log_of step.role before)) step.act (load setting buf before)

abbrev pub same_frame : FrameId → FrameId → Bool
same_frame a b = (a.port.0 == b.port.0) && (a.number == b.number)

abbrev pub has_frame : FrameId → Option Load → Bool
has_frame frame None = false
has_frame frame (Some l) = same_frame (frame_of l) frame

-- how many buffers have the frame
abbrev pub buffer_count : Setting → FrameId → History → ℕ
buffer_count setting frame past =
    how_many (λ buf. has_frame frame (load setting buf past))
    (numbers_below (setting.layout.ports * setting.layout.buffers))

-- how many records there are of the frame
abbrev pub record_count : FrameId → History → ℕ
record_count frame past = how_many (λ told. same_frame told.frame frame) (records_in past)

-- of how many frames the block has a take or a record
abbrev pub begun_count : ReceivePhase → ℕ
begun_count (Between done) = done
begun_count (Asks done k) = done
begun_count (Seeks done k) = done
begun_count (Sees done index seen) = done
begun_count (Took done buf) = done + 1
begun_count (Barred done buf ring) = done + 1

-- the frame's block has a take or a record
abbrev pub has_begun : Setting → FrameId → History → Bool
has_begun setting frame past =
    nat_lt frame.port.0 setting.layout.ports
    && (nat_lt 0 frame.number
    && nat_le frame.number (begun_count (receive_phase setting (log_of frame.port.0 past))))

-- every frame's block has ended
abbrev pub AllEnded : Setting → History → Type 0
AllEnded setting past =
    (port : ℕ) → port < setting.layout.ports
    → (receive_phase setting (log_of port past) ≡ Between (length (entries_of_port port setting.entries)))

-- every buffer is in the pool
abbrev pub AllInPool : Setting → History → Type 0
AllInPool setting past = (buf : ℕ) → IsBuffer setting.layout buf → place_of buf past ≡ Pool

-- the frame is none of the setting's
abbrev pub IsNoFrame : Setting → FrameId → Type 0
IsNoFrame setting frame =
    (port done : ℕ) (e : Entry) → port < setting.layout.ports → entry_after setting port done ≡ Some e → e.frame ≢ frame

-- each frame has one record, and no other has one
pub record HasOneRecordEach (setting : Setting) (past : History) : Type 0 where
  pub each : (port done : ℕ) (e : Entry) → port < setting.layout.ports → entry_after setting port done ≡ Some e
      → record_count e.frame past ≡ 1
  pub no_other : (frame : FrameId) → IsNoFrame setting frame → record_count frame past ≡ 0
