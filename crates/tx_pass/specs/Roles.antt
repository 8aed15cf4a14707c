-- A transmit role between its passes.
use Rattle.std.specs.Prelude.{ℕ, ◌≡◌, ◌+◌, ◌<◌, ◌≤◌, List, [], length}
use Rattle.onvm_base.specs.declared.plan.Plan.{Plan}
use Rattle.onvm_core.specs.declared.entry.Entry.{Entry}
use Rattle.onvm_core.specs.declared.layout.Layout.{Layout}
use Rattle.onvm_core.specs.Layouts.{IsLayoutOf}
use Rattle.onvm_core.specs.Logs.{Log, Setting}
use Rattle.onvm_board.specs.Tokens.{BoardView, TokenView}
use Rattle.desc_ring.specs.Arrays.{AreHeads}
use Rattle.onvm_promises.specs.Kept.{FeederKeeps}
use Rattle.onvm_promises.specs.Roles.{IsSenderSoFar, setting_of}
use Rattle.onvm_promises.specs.Times.{aged_by}
use Rattle.entry_throttle.specs.Feeders.{FeederView}
use Rattle.entry_throttle.specs.Moments.{KeepsMoments}
use Rattle.entry_throttle.specs.Throttles.{AreMarksOf}
use Rattle.tx_pass.specs.declared.role.TxRole.{TxRole}
use Rattle.tx_pass.specs.Keeping.{outcomes_of}
use Rattle.tx_pass.specs.Moving.{IsOutletOf}

-- a transmit role of the layout
pub record IsTransmit (layout : Layout) (role : ℕ) : Type 0 where
  pub from : layout.ports ≤ role
  pub below : role < layout.ports + layout.transmit

-- the records, sent frames and posts of a role, in order
abbrev pub keeps_of : TxRole → FeederKeeps
keeps_of role = record { outcomes = outcomes_of role.outlet.kept; posts = role.outlet.feeder.posts }

-- the feeder's marks are the plan's
pub record IsFeederBy (plan : Plan) (feeder : FeederView) : Type 0 where
  pub high : feeder.high ≡ plan.high
  pub low : feeder.low ≡ plan.low
  pub age : feeder.age ≡ plan.age

-- the role is this board's and has this token: all that a pass asks, and keeps
pub record IsTxRole (site : BoardView) (plan : Plan) (token : TokenView) (role : TxRole) : Type 0 where
  pub layout_of : IsLayoutOf plan site.layout
  pub transmit : IsTransmit site.layout token.role
  pub number : token.role ≡ role.number
  pub heads : AreHeads site role.heads.items token
  pub outlet : IsOutletOf site role.outlet token
  pub marks : IsFeederBy plan role.outlet.feeder
  pub empty_handed : token.hand ≡ []

-- the role's log is right so far, where each act has this moment, and the role knows of it what the next pass needs
pub record IsInOrder (setting : Setting) (role : ℕ) (moment : ℕ → ℕ) (log : Log) (tx : TxRole) : Type 0 where
  pub so_far : IsSenderSoFar setting role moment log (keeps_of tx)
  pub marks : AreMarksOf setting role (aged_by setting role moment log) tx.outlet.feeder.marks
      (length tx.outlet.feeder.posts) log
  pub moments : KeepsMoments moment tx.outlet.feeder log

-- a role that has done nothing: with the token of this number that has made no act it is ready for a pass
pub record IsNewRole (site : BoardView) (plan : Plan) (number : ℕ) (role : TxRole) : Type 0 where
  pub ready : (token : TokenView) → token.board ≡ site.id → token.role ≡ number → token.log ≡ [] → token.hand ≡ []
      → IsTxRole site plan token role
  pub in_order : (entries : List Entry) (moment : ℕ → ℕ)
      → IsInOrder (setting_of site.layout plan entries) number moment [] role
