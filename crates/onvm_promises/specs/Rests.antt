-- Where a role stands between its passes.
use Rattle.std.specs.Prelude.{ℕ, ◌≡◌, ◌%◌, Bool, true, false, ◌==◌, [], ◌∷◌, Option}
use Rattle.onvm_base.specs.declared.ids.FnId.{FnId}
use Rattle.onvm_base.specs.declared.ids.RingId.TheVariants.{Lane, Output}
use Rattle.onvm_core.specs.declared.layout.Word.TheVariants.{Cell}
use Rattle.onvm_core.specs.declared.step.Act.{Act}
use Rattle.onvm_core.specs.declared.step.Act.TheVariants.{Pop, Empty, Look}
use Rattle.onvm_core.specs.Blocks.{IsOfBlocks}
use Rattle.onvm_core.specs.Handling.{IsOwn, core_hand}
use Rattle.onvm_core.specs.Logs.{Log, Setting, Hand, push_count}
use Rattle.onvm_core.specs.Marks.{Ages, AreMarked, IsPaid, IsResting, mark_events, mark_phase}
use Rattle.onvm_core.specs.Pace.{IsPaced}
use Rattle.onvm_core.specs.Places.{how_many}
use Rattle.onvm_core.specs.Receiving.{done_count, receive_phase}
use Rattle.onvm_core.specs.Receiving.ReceivePhase.{Between}
use Rattle.onvm_core.specs.Samples.{AreSamples, is_sampled}
use Rattle.onvm_core.specs.Sending.{send_phase}
use Rattle.onvm_core.specs.Sending.SendPhase.{Free}
use Rattle.onvm_core.specs.Layouts.{feeder_count}

-- a feeder is in no marks pass and owes no post
pub record IsSettledFeeder (setting : Setting) (feeder : ℕ) (aged : Ages) (log : Log) : Type 0 where
  pub marked : AreMarked setting feeder aged log
  pub ended : IsResting (mark_phase setting feeder log)
  pub paid : IsPaid aged (mark_events setting feeder log)
  pub paced : IsPaced setting feeder log

pub record RestsReceiving (setting : Setting) (port : ℕ) (aged : Ages) (log : Log) : Type 0 where
  pub blocks : IsOfBlocks setting port log
  pub between : receive_phase setting log ≡ Between (done_count (receive_phase setting log))
  pub feeder : IsSettledFeeder setting port aged log

pub record RestsSending (setting : Setting) (role : ℕ) (aged : Ages) (log : Log) : Type 0 where
  pub blocks : IsOfBlocks setting role log
  pub free : send_phase log ≡ Free
  pub feeder : IsSettledFeeder setting role aged log

-- a core tries a function's lanes in turn: try k of its whole log, counted from 0, is of feeder k modulo their number

abbrev pub is_try : FnId → Act → Bool
is_try f (Pop (Lane g p) item) = g.0 == f.0
is_try f (Empty (Lane g p)) = g.0 == f.0
is_try f _ = false

abbrev pub MayTry : Setting → Log → Act → Type 0
MayTry setting before (Pop (Lane f p) item) = p ≡ how_many (is_try f) before % feeder_count setting.layout
MayTry setting before (Empty (Lane f p)) = p ≡ how_many (is_try f) before % feeder_count setting.layout
MayTry setting before _ = Unit {0}

abbrev pub AreTries : Setting → Log → Type 0
AreTries setting [] = Unit {0}
AreTries setting (act ∷ before) = MayTry setting before act × AreTries setting before

-- a core looks for room only at the cell of the next push on an output ring

abbrev pub MayLook : Setting → Log → Act → Type 0
MayLook setting before (Look (Cell (Output f) at) seen told) =
    at ≡ push_count (Output f) before % setting.layout.output
MayLook setting before _ = Unit {0}

abbrev pub AreLooks : Setting → Log → Type 0
AreLooks setting [] = Unit {0}
AreLooks setting (act ∷ before) = MayLook setting before act × AreLooks setting before

-- with the parcel that a function's want of memory left in hand, if any
pub record RestsHandling (setting : Setting) (role : ℕ) (kept : Option Hand) (log : Log) : Type 0 where
  pub blocks : IsOfBlocks setting role log
  pub hand : core_hand log ≡ kept
  pub tries : AreTries setting log
  pub looks : AreLooks setting log
  -- each sample counts what was handled since the last one, and nothing that was handled waits for one
  pub samples : AreSamples log
  pub sampled : (f : FnId) → IsOwn setting role f → is_sampled f log ≡ true
