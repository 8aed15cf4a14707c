-- The roles of the tests, which bring frames to a transmit role and take them on.
use Rattle.std.specs.Prelude.{ℕ, ◌≡◌, ◌+◌, ◌<◌, ◌≤◌, false, []}
use Rattle.onvm_base.specs.declared.plan.Plan.{Plan}
use Rattle.onvm_core.specs.declared.layout.Layout.{Layout}
use Rattle.onvm_core.specs.Layouts.{IsLayout, core_role}
use Rattle.onvm_board.specs.Known.{is_split_in}
use Rattle.onvm_board.specs.Tokens.{BoardView, IsFirstToken, TokenView, kept_log}
use Rattle.desc_ring.specs.declared.head.Head.{Head}
use Rattle.desc_ring.specs.declared.tail.Tail.{Tail}
use Rattle.desc_ring.specs.Arrays.{lane_to, output_of}
use Rattle.desc_ring.specs.Ends.{IsHeadOf, IsTailOf}
use Rattle.mbuf_pool.specs.declared.part.Part.{Part}
use Rattle.mbuf_pool.specs.Parts.{IsPartOf}
use Rattle.nf_registry.specs.Examples.{three_functions}

-- one port, two transmit roles and two cores, and three functions
pub record IsTestPlan (plan : Plan) : Type 0 where
  pub ports : plan.ports ≡ 1
  pub transmit : plan.transmit ≡ 2
  pub cores : plan.cores ≡ 2
  pub functions : plan.functions ≡ three_functions

pub record IsTestLayout (layout : Layout) : Type 0 where
  pub ranges : IsLayout layout
  pub ports : layout.ports ≡ 1
  pub transmit : layout.transmit ≡ 2
  pub cores : layout.cores ≡ 2
  pub functions : layout.functions ≡ 3
  pub core : (f : ℕ) → f < 2 → core_role layout f ≡ 3 + f

-- the first token, which has split no role from this one on and joined none
pub record IsOpen (site : BoardView) (role : ℕ) (token : TokenView) : Type 0 where
  pub first : IsFirstToken site token
  pub unsplit : (r : ℕ) → role ≤ r → is_split_in r token.log ≡ false
  pub unused : (r : ℕ) → kept_log r token ≡ []

-- a role's token that has made no act
pub record IsFresh (site : BoardView) (role : ℕ) (token : TokenView) : Type 0 where
  pub board : token.board ≡ site.id
  pub role_is : token.role ≡ role
  pub log : token.log ≡ []
  pub empty_handed : token.hand ≡ []

-- the receive role of port 0, its part of the pool, and its end of function 0's lane
pub record Enters (site : BoardView) (token : TokenView) (part : Part) (lane : Tail) : Type 0 where
  pub role : token.role ≡ 0
  pub part_of : IsPartOf site.layout part
  pub port : part.port.0 ≡ 0
  pub tail : IsTailOf site lane token
  pub ring : lane.spot.ring ≡ lane_to 0 0
  pub empty_handed : token.hand ≡ []

-- a core with its ends of a function's lane from one feeder and of the function's output ring
pub record Handles (site : BoardView) (token : TokenView) (lane : Head) (output : Tail) : Type 0 where
  pub f : ℕ
  pub feeder : ℕ
  pub head : IsHeadOf site lane token
  pub lane_is : lane.spot.ring ≡ lane_to f feeder
  pub tail : IsTailOf site output token
  pub output_is : output.spot.ring ≡ output_of f
  pub empty_handed : token.hand ≡ []
