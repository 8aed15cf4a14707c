-- The plan of the tests, and the role that feeds its lane.
use Rattle.std.specs.Prelude.{◌≡◌, List, [], ◌∷◌}
use Rattle.onvm_base.specs.declared.function.FunctionPlan.{FunctionPlan}
use Rattle.onvm_base.specs.declared.function.Kind.TheVariants.{Forward}
use Rattle.onvm_base.specs.declared.plan.Plan.{Plan}
use Rattle.onvm_core.specs.declared.layout.Layout.{Layout}
use Rattle.onvm_board.specs.Tokens.{BoardView, TokenView}
use Rattle.desc_ring.specs.declared.tail.Tail.{Tail}
use Rattle.desc_ring.specs.Ends.{IsTailOf}
use Rattle.entry_throttle.specs.Feeders.{FeederView, IsFeederOf}
use Rattle.entry_throttle.specs.Looks.{lane}

-- a function that forwards
abbrev pub one_function : List FunctionPlan
one_function =
    record {
      name = 102 ∷ [];
      service = 1;
      core = 0;
      kind = Forward;
      priority = 1;
      weight = 1024;
      cost = 100;
    } ∷ []

-- one port with eight buffers, one role of each other kind, that function, and lanes of eight cells
pub record IsSmallPlan (plan : Plan) : Type 0 where
  pub ports : plan.ports ≡ 1
  pub transmit : plan.transmit ≡ 1
  pub cores : plan.cores ≡ 1
  pub functions : plan.functions ≡ one_function
  pub buffers : plan.buffers ≡ 8
  pub ring : plan.ring ≡ 8

pub record IsSmall (layout : Layout) : Type 0 where
  pub ports : layout.ports ≡ 1
  pub transmit : layout.transmit ≡ 1
  pub cores : layout.cores ≡ 1
  pub functions : layout.functions ≡ 1
  pub buffers : layout.buffers ≡ 8
  pub ring : layout.ring ≡ 8

-- the receive role, with nothing in hand, its feeder, and the end of its lane
pub record Feeds (board : BoardView) (fed : FeederView) (end : Tail) (token : TokenView) : Type 0 where
  pub feeder : IsFeederOf board fed token
  pub tail : IsTailOf board end token
  pub ring : end.spot.ring ≡ lane 0 0
  pub role : token.role ≡ 0
  pub empty_handed : token.hand ≡ []
