-- A receive role with all that its passes ask, and the core that empties its lane.
use Rattle.std.specs.Prelude.{◌≡◌, []}
use Rattle.onvm_board.specs.Tokens.{BoardView, TokenView}
use Rattle.desc_ring.specs.declared.head.Head.{Head}
use Rattle.desc_ring.specs.Arrays.{lane_to}
use Rattle.desc_ring.specs.Ends.{IsHeadOf}
use Rattle.rx_pass.specs.Roles.{IsRxRole}
use Rattle.pass_bench.specs.declared.receiving.Dock.{Dock}

-- a core with its end of function 0's lane from feeder 0
pub record Empties (site : BoardView) (core : TokenView) (lane : Head) : Type 0 where
  pub head : IsHeadOf site lane core
  pub lane_is : lane.spot.ring ≡ lane_to 0 0
  pub empty_handed : core.hand ≡ []

pub record IsDock (dock : Dock) : Type 0 where
  pub role : IsRxRole dock.board dock.plan dock.token dock.role
  pub registry : dock.registry ≡ dock.plan
  pub core : Empties dock.board dock.core dock.lane
