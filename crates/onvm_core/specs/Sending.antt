-- The pattern of a transmit role's log: each parcel that it pops from an output ring goes where its last crumb sends
-- it.
use Rattle.std.specs.Prelude.{ℕ, ◌≡◌, ◌<◌, [], ◌∷◌, length, Some}
use Rattle.onvm_base.specs.declared.ids.FnId.{FnId}
use Rattle.onvm_base.specs.declared.ids.RingId.{RingId}
use Rattle.onvm_base.specs.declared.ids.RingId.TheVariants.{Lane, Output}
use Rattle.onvm_base.specs.declared.moves.Move.{Move}
use Rattle.onvm_base.specs.declared.moves.Move.TheVariants.{To, Leave, End}
use Rattle.onvm_base.specs.declared.outcome.Outcome.TheVariants.{Sent, Dropped, RingFull}
use Rattle.onvm_base.specs.Moves.{step as move_after}
use Rattle.onvm_core.specs.declared.parcel.Crumb.{Crumb}
use Rattle.onvm_core.specs.declared.parcel.Parcel.{Parcel}
use Rattle.onvm_core.specs.declared.step.Item.TheVariants.{Buffer}
use Rattle.onvm_core.specs.declared.step.Act.{Act}
use Rattle.onvm_core.specs.declared.step.Act.TheVariants.{Give, Push, Full, Pop, Empty}
use Rattle.onvm_core.specs.Layouts.{consumer}
use Rattle.onvm_core.specs.Logs.{Log, Setting, Hand, last_crumb, with_cursor}
use Rattle.onvm_core.specs.Receiving.{IsMarkAct}

-- where a transmit role stands: free, with a parcel to move, or with one whose ring it found full
pub data SendPhase : Type 0 where
  Free : SendPhase
  Moves : (hand : Hand) → SendPhase
  TurnsBack : (hand : Hand) (ring : RingId) → SendPhase

abbrev pub send_after : SendPhase → Act → SendPhase
send_after Free (Pop (Output f) (Buffer b parcel)) = Moves (record { function = f; buf = b.0; parcel = parcel })
send_after (Moves hand) (Push ring item) = Free
send_after (Moves hand) (Full ring) = TurnsBack hand ring
send_after (Moves hand) (Give b outcome parcel) = Free
send_after (TurnsBack hand ring) (Give b outcome parcel) = Free
send_after phase _ = phase

abbrev pub send_phase : Log → SendPhase
send_phase [] = Free
send_phase (act ∷ before) = send_after (send_phase before) act

-- the role reads the function's output ring
pub record Reads (setting : Setting) (role : ℕ) (f : FnId) : Type 0 where
  pub known : f.0 < setting.layout.functions
  pub consumes : consumer setting.layout (Output f) ≡ role

-- the verdict of the parcel's last crumb moves it so
pub record IsNext (setting : Setting) (parcel : Parcel) (move : Move) : Type 0 where
  pub crumb : Crumb
  pub last : last_crumb parcel.trail ≡ Some crumb
  pub moved : move_after setting.plan parcel.chain parcel.cursor (length parcel.trail) crumb.verdict parcel.hash ≡ move

-- the parcel goes on to a function, with this cursor, by this role's lane to it
pub record GoesBy (setting : Setting) (feeder : ℕ) (parcel : Parcel) (cursor : ℕ) (ring : RingId) : Type 0 where
  pub function : FnId
  pub next : IsNext setting parcel (To function cursor)
  pub lane : ring ≡ Lane function feeder

abbrev pub MaySendOn : Setting → ℕ → Hand → Act → Type 0
MaySendOn setting feeder hand (Push ring (Buffer b parcel)) = (b.0 ≡ hand.buf)
    × ((cursor : ℕ) × GoesBy setting feeder hand.parcel cursor ring × (parcel ≡ with_cursor cursor hand.parcel))
MaySendOn setting feeder hand (Full ring) = (cursor : ℕ) × GoesBy setting feeder hand.parcel cursor ring
MaySendOn setting feeder hand (Give b (Sent q) parcel) =
    (b.0 ≡ hand.buf) × IsNext setting hand.parcel (Leave q) × (parcel ≡ hand.parcel)
MaySendOn setting feeder hand (Give b (Dropped f why) parcel) =
    (b.0 ≡ hand.buf) × IsNext setting hand.parcel (End why) × (f ≡ hand.function) × (parcel ≡ hand.parcel)
MaySendOn setting feeder hand _ = ⊥

-- the act may follow in the log of a transmit role, in this phase. Between moves stand marks passes, and looks into the
-- role's rings that find them empty
abbrev pub MaySend : Setting → ℕ → SendPhase → Act → Type 0
MaySend setting role Free (Pop (Output f) (Buffer b parcel)) = Reads setting role f
MaySend setting role Free (Empty (Output f)) = Reads setting role f
MaySend setting role Free act = IsMarkAct setting role act
MaySend setting role (Moves hand) act = MaySendOn setting role hand act
MaySend setting role (TurnsBack hand ring) (Give b outcome parcel) = (b.0 ≡ hand.buf) × (outcome ≡ RingFull ring)
    × ((cursor : ℕ) × GoesBy setting role hand.parcel cursor ring × (parcel ≡ with_cursor cursor hand.parcel))
MaySend setting role (TurnsBack hand ring) act = ⊥
