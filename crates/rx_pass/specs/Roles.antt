-- A receive role between its passes.
use Rattle.std.specs.Prelude.{ℕ, ◌≡◌, ◌-◌, ◌<◌, ◌≤◌, ◌++◌, Bool, List, [], length}
use Rattle.onvm_base.specs.declared.frame.Frame.{Frame}
use Rattle.onvm_base.specs.declared.ids.PortId.{PortId}
use Rattle.onvm_base.specs.declared.plan.Plan.{Plan}
use Rattle.onvm_core.specs.declared.entry.Entry.{Entry}
use Rattle.onvm_core.specs.declared.layout.Layout.{Layout}
use Rattle.onvm_core.specs.Layouts.{IsLayoutOf}
use Rattle.onvm_core.specs.Logs.{Log, Setting}
use Rattle.onvm_core.specs.Receiving.{receive_phase}
use Rattle.onvm_core.specs.Receiving.ReceivePhase.{Between}
use Rattle.onvm_board.specs.Tokens.{BoardView, TokenView}
use Rattle.onvm_promises.specs.Entries.{entries_from}
use Rattle.onvm_promises.specs.Kept.{FeederKeeps}
use Rattle.onvm_promises.specs.Roles.{Fits, IsReceiverSoFar}
use Rattle.onvm_promises.specs.Times.{aged_by}
use Rattle.entry_throttle.specs.Feeders.{FeederView}
use Rattle.entry_throttle.specs.Moments.{KeepsMoments}
use Rattle.entry_throttle.specs.Throttles.{AreMarksOf}
use Rattle.flow_table.specs.Flows.{table_of}
use Rattle.rx_feed.specs.Feeds.{IsPulledOf}
use Rattle.rx_feed.specs.Standing.{Standing}
use Rattle.rx_pass.specs.declared.role.RxRole.{RxRole}
use Rattle.rx_pass.specs.Keeping.{outcomes_of}
use Rattle.rx_pass.specs.Turns.{IsInletOf}

-- the records, sent frames and posts of a role, in order
abbrev pub keeps_of : {I : Type 0} → RxRole I → FeederKeeps
keeps_of rx = record { outcomes = outcomes_of rx.inlet.kept; posts = rx.inlet.feeder.posts }

-- the frames that were pulled, and those of them that have no block yet
abbrev pub pulled_of : {I : Type 0} → RxRole I → List Frame
pulled_of rx = rx.intake.standing.pulled

abbrev pub waiting_of : {I : Type 0} → RxRole I → List Frame
waiting_of rx = rx.waiting.items

-- how many frames have a block
abbrev pub done_of : {I : Type 0} → RxRole I → ℕ
done_of rx = length (pulled_of rx) - length (waiting_of rx)

-- the frames that wait are the last that were pulled
abbrev pub IsQueue : {I : Type 0} → RxRole I → Type 0
IsQueue rx = (earlier : List Frame) × (pulled_of rx ≡ earlier ++ waiting_of rx)

-- the feeder's marks are the plan's
pub record IsFeederBy (plan : Plan) (feeder : FeederView) : Type 0 where
  pub high : feeder.high ≡ plan.high
  pub low : feeder.low ≡ plan.low
  pub age : feeder.age ≡ plan.age

-- the role is this board's and has this token: all that a pass asks, and keeps
pub record IsRxRole {I : Type 0} (site : BoardView) (plan : Plan) (token : TokenView) (rx : RxRole I) : Type 0 where
  pub layout_of : IsLayoutOf plan site.layout
  pub receives : token.role < site.layout.ports
  pub inlet : IsInletOf site rx.inlet token
  pub marks : IsFeederBy plan rx.inlet.feeder
  pub empty_handed : token.hand ≡ []
  pub flows : rx.flows ≡ table_of plan (record { 0 = token.role })
  pub queue : IsQueue rx
  pub few : length (waiting_of rx) ≤ plan.burst
  pub frames : IsPulledOf rx.intake.feed rx.intake.standing

-- a run of the layout and plan in which the port's frames begin with those pulled, and are just these once the end was seen
abbrev pub FitsRole : {I : Type 0} → Layout → Plan → (port : ℕ) → RxRole I → Setting → Type 0
FitsRole layout plan port rx setting =
    Fits layout plan port (entries_from plan (record { 0 = port }) 0 (pulled_of rx)) rx.intake.standing.ended setting

-- the role's log is right so far, where each act has this moment, and the role knows of it what the next pass needs
pub record IsInOrder {I : Type 0} (setting : Setting) (port : ℕ) (moment : ℕ → ℕ) (log : Log) (rx : RxRole I)
    : Type 0 where
  pub so_far : IsReceiverSoFar setting port moment log (keeps_of rx)
  pub done : receive_phase setting log ≡ Between (done_of rx)
  pub marks : AreMarksOf setting port (aged_by setting port moment log) rx.inlet.feeder.marks
      (length rx.inlet.feeder.posts) log
  pub moments : KeepsMoments moment rx.inlet.feeder log
