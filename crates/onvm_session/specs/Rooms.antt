-- A session before its first turn.
use Rattle.std.specs.Prelude.{ℕ, ◌≡◌, ◌+◌, ◌≤◌, ◌==◌, if◌then◌else◌, List, [], ◌∷◌, ◌++◌, length, Some, Option, slice_get, Vec, vec_capacity}
use Rattle.std.proofs.Common.{Global}
use Rattle.onvm_base.specs.declared.function.FunctionPlan.{FunctionPlan}
use Rattle.onvm_base.specs.declared.plan.Plan.{Plan}
use Rattle.onvm_core.specs.Layouts.{IsLayout, IsLayoutOf, first_role}
use Rattle.onvm_core.specs.Logs.{Setting}
use Rattle.onvm_board.specs.Tokens.{BoardView, TokenView, first_token}
use Rattle.onvm_host.specs.Deeds.{Amounts}
use Rattle.nf_api.specs.Acts.{Acts}
use Rattle.nf_api.specs.Tree.{Tree}
use Rattle.nf_exec.specs.declared.room.CoreRoom.{CoreRoom}
use Rattle.nf_exec.specs.Rooms.{IsNewRoom as IsNewCoreRoom}
use Rattle.nf_registry.specs.Places.{residents}
use Rattle.onvm_promises.specs.Sampling.{is_cost}
use Rattle.rx_feed.specs.declared.feed.Feed.{Feed}
use Rattle.rx_feed.specs.Feeds.{IsFreshFeed}
use Rattle.rx_feed.specs.Rooms.{IsRoom}
use Rattle.rx_pass.specs.declared.room.RxRoom.{RxRoom}
use Rattle.rx_pass.specs.Rooms.{IsNewRoom as IsNewReceiverRoom}
use Rattle.tick_pass.specs.Roles.{IsNewRoom as IsNewTickRoom}
use Rattle.tx_pass.specs.declared.room.TxRoom.{TxRoom}
use Rattle.tx_pass.specs.Roles.{IsNewRole as IsNewSender}
use Rattle.onvm_session.specs.declared.manager.Manager.{Manager}
use Rattle.onvm_session.specs.declared.role.Role.{Role}
use Rattle.onvm_session.specs.declared.rooms.Beginning.{Beginning}
use Rattle.onvm_session.specs.declared.rooms.Rooms.{Rooms}
use Rattle.onvm_session.specs.Managers.{OfEach}
use Rattle.onvm_session.specs.RoleStates.{FitsOne, HasStates, IsBoundTo, IsFed, IsReady, IsRoleInOrder, IsUpTo, StartedAt, keeps_of, start_by}

-- Rooms

-- of the first n ports' receive roles
pub record AreReceivers (site : BoardView) (plan : Plan) (n : ℕ) (rooms : List RxRoom) : Type 0 where
  pub many : length rooms ≡ n
  pub each : (port : ℕ) (room : RxRoom) → slice_get rooms port ≡ Some room
      → IsNewReceiverRoom site plan (record { 0 = port }) room

-- of the first n transmit roles
pub record AreSenders (site : BoardView) (plan : Plan) (n : ℕ) (rooms : List TxRoom) : Type 0 where
  pub many : length rooms ≡ n
  pub each : (k : ℕ) (room : TxRoom) → slice_get rooms k ≡ Some room
      → IsNewSender site plan (plan.ports + k) room.role

-- of the first n cores
pub record AreCores (site : BoardView) (plan : Plan) (n : ℕ) (rooms : List CoreRoom) : Type 0 where
  pub many : length rooms ≡ n
  pub each : (core : ℕ) (room : CoreRoom) → slice_get rooms core ≡ Some room → IsNewCoreRoom site plan core room

-- the memory of their intakes is new
abbrev pub AreIntakes : List RxRoom → Type 0
AreIntakes rooms = (port : ℕ) (room : RxRoom) → slice_get rooms port ≡ Some room → IsRoom room.intake

-- each core has a unit for each of its functions
pub record FitStations {N : Type 0} (rooms : List CoreRoom) (lists : List (Vec N Global)) : Type 0 where
  pub many : length lists ≡ length rooms
  pub each : (core : ℕ) (room : CoreRoom) (list : Vec N Global) → slice_get rooms core ≡ Some room
      → slice_get lists core ≡ Some list → length list.items ≡ length room.stations.items

-- Units

-- of units by function, those of the functions of a core
abbrev pub units_of : {N : Type 0} → (core : ℕ) → List FunctionPlan → List N → List N
units_of core [] units = []
units_of core (f ∷ fs) [] = []
units_of core (f ∷ fs) (unit ∷ units) =
    if f.core == core then unit ∷ units_of core fs units else units_of core fs units

-- for each core a list without units, that has room for those of its functions
pub record HaveRoom {N : Type 0} (plan : Plan) (lists : List (Vec N Global)) : Type 0 where
  pub many : length lists ≡ plan.cores
  pub none : (core : ℕ) (list : Vec N Global) → slice_get lists core ≡ Some list → list.items ≡ []
  pub room : (core : ℕ) (list : Vec N Global) → slice_get lists core ≡ Some list
      → length (residents core plan.functions) ≤ vec_capacity list

-- a list with one unit more, in the same memory
pub record IsHandedTo {N : Type 0} (unit : N) (was now : Vec N Global) : Type 0 where
  pub items : now.items ≡ was.items ++ unit ∷ []
  pub room : vec_capacity now ≡ vec_capacity was

-- each core has the units of its functions
pub record AreUnitsOf {N : Type 0} (plan : Plan) (units : List N) (lists : List (Vec N Global)) : Type 0 where
  pub many : length lists ≡ plan.cores
  pub each : (core : ℕ) (list : Vec N Global) → slice_get lists core ≡ Some list
      → list.items ≡ units_of core plan.functions units

-- the rooms of all roles on a board of the plan
pub record AreRooms {I N : Type 0} (site : BoardView) (plan : Plan) (rooms : Rooms I N) : Type 0 where
  pub receivers : AreReceivers site plan plan.ports rooms.receivers.items
  pub senders : AreSenders site plan plan.transmit rooms.senders.items
  pub cores : AreCores site plan plan.cores rooms.cores.items
  pub units : HaveRoom plan rooms.units.items
  pub ticker : IsNewTickRoom plan rooms.ticker
  pub roles : rooms.roles.items ≡ []
  pub role_room : plan.ports + plan.transmit + plan.cores + 1 ≤ vec_capacity rooms.roles
  pub feeds : rooms.feeds.items ≡ []
  pub feed_room : plan.ports ≤ vec_capacity rooms.feeds

-- some board of the plan is that of all these rooms
pub record AreOnBoard {I N : Type 0} (plan : Plan) (rooms : Rooms I N) : Type 0 where
  pub site : BoardView
  pub are : AreRooms site plan rooms

pub record IsBeginning {I N : Type 0} (plan : Plan) (beginning : Beginning I N) : Type 0 where
  pub layout_is : beginning.layout ≡ beginning.board.layout
  pub layout_of : IsLayoutOf plan beginning.board.layout
  pub ranges : IsLayout beginning.board.layout
  pub registry : beginning.registry ≡ plan
  pub first : beginning.first ≡ first_token beginning.board
  pub rooms : AreRooms beginning.board plan beginning.rooms

-- Roles that have done nothing

-- generators have given no frame, and give at most as many as a port takes
abbrev pub AreFresh : {I : Type 0} → List (Feed I) → Type 0
AreFresh {I} feeds = (port : ℕ) (feed : Feed I) → slice_get feeds port ≡ Some feed → IsFreshFeed (Some feed)

module _ {I N : Type 0} (name_of : I → List ℕ) (left_of : I → Option (List ℕ)) (takes_of : I → Amounts)
    (acts : N → Acts) (state : N → Tree) where
  -- a role that began at this moment: with the token of this number that has made no act it is ready for a pass
  pub record IsNewRole (site : BoardView) (plan : Plan) (units : List N) (feeds : List (Feed I)) (first r : ℕ)
      (role : Role I N) : Type 0 where
    pub ready : (token : TokenView) → token.board ≡ site.id → token.role ≡ r
        → token.log ≡ [] → token.hand ≡ [] → IsReady acts state is_cost site plan token role
    pub in_order : (setting : Setting) (moment : ℕ → ℕ) → FitsOne site.layout plan r role setting
        → IsRoleInOrder setting r moment [] role
    pub started : StartedAt first role
    pub bound : IsBoundTo acts state site.layout r units role
    -- its functions are in the states of their units
    pub states : HasStates acts state site.layout r role (start_by acts state units)
    pub unticked : (keeps_of role).ticks ≡ []
    pub fed : IsFed name_of left_of takes_of (slice_get feeds r) role
    pub upto : IsUpTo first role

  -- so many roles that began at this moment, and have done nothing
  pub record AreNewUpTo (site : BoardView) (plan : Plan) (units : List N) (feeds : List (Feed I)) (first n : ℕ)
      (roles : List (Role I N)) : Type 0 where
    pub many : length roles ≡ n
    pub each : OfEach (IsNewRole site plan units feeds first) roles

  pub record AreNewRoles (site : BoardView) (plan : Plan) (units : List N) (feeds : List (Feed I)) (first : ℕ)
      (roles : List (Role I N)) : Type 0 where
    pub many : length roles ≡ first_role site.layout
    pub each : OfEach (IsNewRole site plan units feeds first) roles

  -- a session that began at this moment and of which no turn was made, on a board of the plan
  pub record IsNewManager (plan : Plan) (units : List N) (given : List (Feed I)) (first_moment : ℕ) (manager : Manager I N)
      : Type 0 where
    pub layout_is : manager.layout ≡ manager.board.layout
    pub layout_of : IsLayoutOf plan manager.board.layout
    pub ranges : IsLayout manager.board.layout
    pub registry : manager.registry ≡ plan
    pub first : manager.first ≡ first_token manager.board
    pub roles : AreNewRoles manager.board plan units given first_moment manager.roles.items
    pub feeds : manager.feeds.items ≡ []
    pub feed_room : plan.ports ≤ vec_capacity manager.feeds
