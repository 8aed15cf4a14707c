-- What a move adds to a transmit role's log.
use Rattle.std.specs.Prelude.{ℕ, ◌≡◌, ◌≤◌, Bool, true, false, List, [], ◌∷◌, length, Option, Some}
use Rattle.onvm_base.specs.declared.ids.BufId.{BufId}
use Rattle.onvm_base.specs.declared.ids.FnId.{FnId}
use Rattle.onvm_base.specs.declared.ids.RingId.{RingId}
use Rattle.onvm_base.specs.declared.moves.Move.{Move}
use Rattle.onvm_base.specs.declared.outcome.Outcome.TheVariants.{RingFull}
use Rattle.onvm_base.specs.declared.plan.Plan.{Plan}
use Rattle.onvm_base.specs.Moves.{step}
use Rattle.onvm_core.specs.declared.entry.Entry.{Entry}
use Rattle.onvm_core.specs.declared.layout.Layout.{Layout}
use Rattle.onvm_core.specs.declared.parcel.Crumb.{Crumb}
use Rattle.onvm_core.specs.declared.parcel.Parcel.{Parcel}
use Rattle.onvm_core.specs.declared.step.Act.TheVariants.{Give, Push, Full}
use Rattle.onvm_core.specs.declared.step.Item.TheVariants.{Buffer}
use Rattle.onvm_core.specs.Logs.{Hand, Log, last_crumb}
use Rattle.onvm_core.specs.Sending.{SendPhase}
use Rattle.onvm_core.specs.Sending.SendPhase.{Free, Moves}
use Rattle.onvm_board.specs.Tokens.{BoardView, TokenView, grown}
use Rattle.desc_ring.specs.Arrays.{AreLanes}
use Rattle.onvm_promises.specs.Acts.{AreMoveSteps}
use Rattle.onvm_promises.specs.Follows.{SendsFrom, send_phase_from}
use Rattle.onvm_promises.specs.Kept.{Told}
use Rattle.onvm_promises.specs.Roles.{setting_of}
use Rattle.entry_throttle.specs.Feeders.{IsFeederOf}
use Rattle.tx_pass.specs.declared.outlet.Outlet.{Outlet}
use Rattle.tx_pass.specs.Keeping.{outcomes_of}
use Rattle.tx_pass.specs.Noting.{HasNoted}

-- the token with this buffer in hand, and this in its slot
abbrev pub holding : ℕ → Option Parcel → TokenView → TokenView
holding buf content token = record token { hand = (buf, content) ∷ [] }

-- the verdict of the parcel's last crumb makes this move
pub record IsMoveOf (plan : Plan) (parcel : Parcel) (move : Move) : Type 0 where
  pub crumb : Crumb
  pub last : last_crumb parcel.trail ≡ Some crumb
  pub moved : move ≡ step plan parcel.chain parcel.cursor (length parcel.trail) crumb.verdict parcel.hash

-- the lanes' ends and the feeder are the token's own, and the feeder keeps the moments of each lane
pub record IsOutletOf (site : BoardView) (outlet : Outlet) (token : TokenView) : Type 0 where
  pub lanes : AreLanes site outlet.lanes.items token
  pub feeder : IsFeederOf site outlet.feeder token
  pub ages : length outlet.feeder.ages ≡ site.layout.functions
  pub high : 1 ≤ outlet.feeder.high

-- these acts follow the pattern from this phase on, whatever frames there are, and end with nothing in hand
pub record GoFrom (layout : Layout) (plan : Plan) (role : ℕ) (phase : SendPhase) (added : Log) : Type 0 where
  pub follows : (entries : List Entry) → SendsFrom (setting_of layout plan entries) role phase added
  pub free : send_phase_from phase added ≡ Free

-- a parcel goes on by a ring, or turns back from it
abbrev pub went_on : RingId → BufId → Parcel → (went : Bool) → Log
went_on ring buf parcel true = Push ring (Buffer buf parcel) ∷ []
went_on ring buf parcel false = Give buf (RingFull ring) parcel ∷ Full ring ∷ []

-- these acts try no output ring
abbrev pub never : FnId → Type 0
never f = ⊥

-- the parcel in hand was moved by these acts, at this moment
pub record IsMoved (site : BoardView) (plan : Plan) (now : ℕ) (hand : Hand) (before after : TokenView)
    (old new : Outlet) : Type 0 where
  pub added : Log
  pub grew : after ≡ grown added [] before
  pub told : Told added (outcomes_of old.kept) (outcomes_of new.kept)
  pub noted : HasNoted now added before.log old.feeder new.feeder
  pub goes : GoFrom site.layout plan before.role (Moves hand) added
  pub steps : AreMoveSteps never added
