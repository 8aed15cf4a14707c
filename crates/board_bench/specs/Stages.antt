-- A role that pops from one ring and pushes on another.
use Rattle.std.specs.Prelude.{◌≡◌, ℕ, []}
use Rattle.onvm_base.specs.declared.ids.RingId.TheVariants.{Lane, Output}
use Rattle.onvm_board.specs.Tokens.{BoardView, TokenView, IsHead, IsTail}
use Rattle.board_bench.specs.declared.hops.Stage.{Stage}
use Rattle.board_bench.specs.declared.boards.TheConstants.{RING}

-- both kinds of rings have this many cells
pub record IsSized (site : BoardView) : Type 0 where
  pub lane : site.layout.ring ≡ RING
  pub output : site.layout.output ≡ RING

-- the token's own ends, with nothing in hand
pub record IsStage (site : BoardView) (stage : Stage) : Type 0 where
  pub head : IsHead site stage.from stage.token
  pub tail : IsTail site stage.onto stage.token
  pub hand : stage.token.hand ≡ []

-- a core, from a feeder's lane of a function to the function's output ring
pub record IsCore (site : BoardView) (function feeder : ℕ) (stage : Stage) : Type 0 where
  pub ends : IsStage site stage
  pub from : stage.from.ring ≡ Lane (record { 0 = function }) feeder
  pub onto : stage.onto.ring ≡ Output (record { 0 = function })

-- a transmit role, from a function's output ring to its own lane of the function
pub record IsTransmit (site : BoardView) (function feeder : ℕ) (stage : Stage) : Type 0 where
  pub ends : IsStage site stage
  pub from : stage.from.ring ≡ Output (record { 0 = function })
  pub onto : stage.onto.ring ≡ Lane (record { 0 = function }) feeder

-- the tokens differ at most in what is in hand
pub record IsSame (before after : TokenView) : Type 0 where
  pub board : after.board ≡ before.board
  pub role : after.role ≡ before.role
  pub log : after.log ≡ before.log
