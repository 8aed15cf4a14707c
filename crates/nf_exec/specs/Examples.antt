-- The plan of the tests, and the roles round a core: two feeds of its function, the reader of the output ring, and the
-- role that posts weights.
use Rattle.std.specs.Prelude.{ℕ, ◌≡◌, ◌≤◌, false, []}
use Rattle.onvm_base.specs.declared.plan.Plan.{Plan}
use Rattle.onvm_core.specs.declared.layout.Layout.{Layout}
use Rattle.onvm_core.specs.Layouts.{IsLayout, tick_role}
use Rattle.onvm_board.specs.Known.{is_split_in}
use Rattle.onvm_board.specs.Tokens.{BoardView, IsFirstToken, TokenView, kept_log}
use Rattle.desc_ring.specs.declared.head.Head.{Head}
use Rattle.desc_ring.specs.declared.tail.Tail.{Tail}
use Rattle.desc_ring.specs.Arrays.{lane_to, output_of}
use Rattle.desc_ring.specs.Ends.{IsHeadOf, IsTailOf}
use Rattle.mbuf_pool.specs.declared.part.Part.{Part}
use Rattle.mbuf_pool.specs.Parts.{IsPartOf}
use Rattle.nf_api.specs.Acts.{Acts}
use Rattle.nf_api.specs.Tree.{Tree}
use Rattle.nf_registry.specs.Examples.{three_functions}
use Rattle.onvm_promises.specs.Sampling.{AreTimed, is_cost}
use Rattle.nf_exec.specs.declared.role.CoreRole.{CoreRole}
use Rattle.nf_exec.specs.Roles.{IsCoreRole}

-- two ports, one transmit role and two cores, and three functions: function 1 is alone on core 1
pub record IsTestPlan (plan : Plan) : Type 0 where
  pub ports : plan.ports ≡ 2
  pub transmit : plan.transmit ≡ 1
  pub cores : plan.cores ≡ 2
  pub functions : plan.functions ≡ three_functions

pub record IsTestLayout (layout : Layout) : Type 0 where
  pub ranges : IsLayout layout
  pub ports : layout.ports ≡ 2
  pub transmit : layout.transmit ≡ 1
  pub cores : layout.cores ≡ 2
  pub functions : layout.functions ≡ 3

-- the first token, which has split no role from this one on and joined none
pub record IsOpen (site : BoardView) (role : ℕ) (token : TokenView) : Type 0 where
  pub first : IsFirstToken site token
  pub unsplit : (r : ℕ) → role ≤ r → is_split_in r token.log ≡ false
  pub unused : (r : ℕ) → kept_log r token ≡ []

-- a role's token that has made no act
pub record IsUnused (site : BoardView) (role : ℕ) (token : TokenView) : Type 0 where
  pub board : token.board ≡ site.id
  pub role_is : token.role ≡ role
  pub log : token.log ≡ []
  pub empty_handed : token.hand ≡ []

-- a receive role with nothing in hand, its part of the pool, and its end of the lane to function 1
pub record IsFeed (site : BoardView) (part : Part) (lane : Tail) (token : TokenView) : Type 0 where
  pub part_of : IsPartOf site.layout part
  pub role : token.role ≡ part.port.0
  pub lane_of : IsTailOf site lane token
  pub ring : lane.spot.ring ≡ lane_to 1 part.port.0
  pub empty_handed : token.hand ≡ []

-- the head of function 1's output ring, of a role with nothing in hand
pub record IsOutlet (site : BoardView) (head : Head) (token : TokenView) : Type 0 where
  pub head_of : IsHeadOf site head token
  pub ring : head.spot.ring ≡ output_of 1
  pub empty_handed : token.hand ≡ []

-- the tick role of a board of three functions
pub record IsTicker (site : BoardView) (token : TokenView) : Type 0 where
  pub board : token.board ≡ site.id
  pub role : token.role ≡ tick_role site.layout
  pub functions : site.layout.functions ≡ 3

-- the core between two passes, whose clock tells the cost
pub record IsCore {N : Type 0} (acts : N → Acts) (state : N → Tree) (site : BoardView) (plan : Plan)
    (token : TokenView) (role : CoreRole N) : Type 0 where
  pub role_is : IsCoreRole acts state site plan token role
  pub timed : AreTimed is_cost plan token.log
