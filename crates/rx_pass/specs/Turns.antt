-- What a part of a block adds to a receive role's log, and to what the role keeps.
use Rattle.std.specs.Prelude.{ℕ, ◌≡◌, ◌+◌, ◌≤◌, Bool, true, false, List, [], ◌∷◌, length, Option, Some, None}
use Rattle.onvm_base.specs.declared.ids.BufId.{BufId}
use Rattle.onvm_base.specs.declared.ids.FnId.{FnId}
use Rattle.onvm_base.specs.declared.ids.RingId.{RingId}
use Rattle.onvm_base.specs.declared.moves.Move.TheVariants.{To, Leave}
use Rattle.onvm_base.specs.declared.outcome.Outcome.TheVariants.{RingFull}
use Rattle.onvm_base.specs.declared.plan.Plan.{Plan}
use Rattle.onvm_core.specs.declared.entry.Entry.{Entry}
use Rattle.onvm_core.specs.declared.layout.Layout.{Layout}
use Rattle.onvm_core.specs.declared.parcel.Parcel.{Parcel}
use Rattle.onvm_core.specs.declared.step.Act.TheVariants.{Give, Push, Full}
use Rattle.onvm_core.specs.declared.step.Item.TheVariants.{Buffer}
use Rattle.onvm_core.specs.Logs.{Log, Setting, entry_after}
use Rattle.onvm_core.specs.Receiving.{ReceivePhase}
use Rattle.onvm_core.specs.Receiving.ReceivePhase.{Between, Seeks, Took}
use Rattle.onvm_board.specs.Rule.{Hand}
use Rattle.onvm_board.specs.Tokens.{BoardView, TokenView, grown}
use Rattle.desc_ring.specs.Arrays.{AreLanes}
use Rattle.onvm_promises.specs.Acts.{AreBlockSteps}
use Rattle.onvm_promises.specs.Follows.{ReceivesFrom, receive_phase_from}
use Rattle.onvm_promises.specs.Kept.{Told}
use Rattle.entry_throttle.specs.Feeders.{IsFeederOf}
use Rattle.mbuf_pool.specs.Parts.{IsPartOf}
use Rattle.rx_pass.specs.declared.inlet.Inlet.{Inlet}
use Rattle.rx_pass.specs.Keeping.{outcomes_of}
use Rattle.rx_pass.specs.Noting.{HasNoted}

-- the inlet's lanes, its feeder and its part of the pool are the token's own
pub record IsInletOf (site : BoardView) (inlet : Inlet) (token : TokenView) : Type 0 where
  pub lanes : AreLanes site inlet.lanes.items token
  pub feeder : IsFeederOf site inlet.feeder token
  pub ages : length inlet.feeder.ages ≡ site.layout.functions
  pub high : 1 ≤ inlet.feeder.high
  pub part : IsPartOf site.layout inlet.part
  pub port : token.role ≡ inlet.part.port.0

-- a run of this layout and plan, in which this is the port's next frame after so many
pub record Knows (layout : Layout) (plan : Plan) (port done : ℕ) (e : Entry) (setting : Setting) : Type 0 where
  pub layout_is : setting.layout ≡ layout
  pub plan_is : setting.plan ≡ plan
  pub next : entry_after setting port done ≡ Some e

-- these acts lead by the pattern from one phase to another. The role keeps what they tell, and takes note of its pushes
pub record IsTurn (setting : Setting) (port now : ℕ) (from upto : ReceivePhase) (before after : TokenView)
    (old new : Inlet) : Type 0 where
  pub added : Log
  pub grew : after ≡ grown added after.hand before
  pub told : Told added (outcomes_of old.kept) (outcomes_of new.kept)
  pub noted : HasNoted now added before.log old.feeder new.feeder
  pub steps : AreBlockSteps added
  pub follows : ReceivesFrom setting port from added
  pub stands : receive_phase_from setting from added ≡ upto

-- where a block stands once the posts were looked at: the frame may enter, or was held back
abbrev pub asked_phase : (done : ℕ) → (may : Bool) → ReceivePhase
asked_phase done true = Seeks done 0
asked_phase done false = Between (done + 1)

-- where it stands once a buffer was sought
abbrev pub sought_phase : (done : ℕ) → Option BufId → ReceivePhase
sought_phase done (Some buf) = Took done buf.0
sought_phase done None = Between (done + 1)

-- a parcel goes on by a ring, or turns back from it
abbrev pub went_on : RingId → BufId → Parcel → (went : Bool) → Log
went_on ring buf parcel true = Push ring (Buffer buf parcel) ∷ []
went_on ring buf parcel false = Give buf (RingFull ring) parcel ∷ Full ring ∷ []

-- what is in hand once a buffer was sought
abbrev pub taken_hand : Option BufId → Hand
taken_hand (Some buf) = (buf.0, None) ∷ []
taken_hand None = []
