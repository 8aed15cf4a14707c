-- A role of whatever kind between its passes: what it keeps, what its next pass asks, and what it knows of its feed.
use Rattle.std.specs.Prelude.{ℕ, ◌≡◌, ◌≢◌, ◌⊎◌, ◌<◌, ◌≤◌, Bool, true, false, List, ◌++◌, Option, None, slice_get}
use Rattle.onvm_base.specs.declared.frame.Frame.{Frame}
use Rattle.onvm_base.specs.declared.ids.FnId.{FnId}
use Rattle.onvm_base.specs.declared.plan.Plan.{Plan}
use Rattle.onvm_core.specs.declared.layout.Layout.{Layout}
use Rattle.onvm_core.specs.Blocks.{RoleKind}
use Rattle.onvm_core.specs.Blocks.RoleKind.{Receives, Sends, Handles, Ticks}
use Rattle.onvm_core.specs.Journals.{Handling}
use Rattle.onvm_core.specs.Layouts.{core_role}
use Rattle.onvm_core.specs.Logs.{Log, Setting}
use Rattle.onvm_board.specs.Tokens.{BoardView, TokenView}
use Rattle.onvm_host.specs.Deeds.{Amounts}
use Rattle.nf_api.specs.Acts.{Acts}
use Rattle.nf_api.specs.Tree.{Tree}
use Rattle.nf_exec.specs.declared.role.CoreRole.{CoreRole}
use Rattle.nf_exec.specs.Handing.{acts_in, state_in, unit_of}
use Rattle.nf_exec.specs.Roles.{IsCoreRole, counted, state_of}
use Rattle.nf_exec.specs.Stations.{functions_of}
use Rattle.onvm_promises.specs.Roles.{IsTickerSoFar}
use Rattle.onvm_promises.specs.Sampling.{AreTimed}
use Rattle.rx_feed.specs.declared.fault.FeedFault.{FeedFault}
use Rattle.rx_feed.specs.declared.feed.Feed.{Feed}
use Rattle.rx_feed.specs.Feeds.{IsPulledOf, IsTakenFrom, StaysFeed, WasLeft, no_standing}
use Rattle.rx_feed.specs.Standing.{Standing}
use Rattle.rx_pass.specs.Roles.{FitsRole, IsInOrder as IsReceiverInOrder, IsRxRole, keeps_of as receiver_keeps}
use Rattle.tick_pass.specs.Roles.{IsTickRole, first_of, latest_of, logged, ticked}
use Rattle.tx_pass.specs.Roles.{IsInOrder as IsSenderInOrder, IsTxRole, keeps_of as sender_keeps}
use Rattle.onvm_session.specs.declared.role.Role.{Role}
use Rattle.onvm_session.specs.declared.role.Role.TheVariants.{Receive, Send, Handle, Tick}
use Rattle.onvm_session.specs.Sessions.{Keeps}
use Rattle.onvm_session.specs.Starts.{no_keeps}

-- what a role keeps
abbrev pub keeps_of : {I N : Type 0} → Role I N → Keeps
keeps_of (Receive rx) = record no_keeps { feeder = receiver_keeps rx }
keeps_of (Send tx) = record no_keeps { feeder = sender_keeps tx }
keeps_of (Handle core) = record no_keeps { core = counted core }
keeps_of (Tick tick) = record no_keeps { samples = logged tick; ticks = ticked tick }

-- Feeds

-- where its port stands; a role that receives nothing stands as a port without a feed
abbrev pub standing_of : {I N : Type 0} → Role I N → Standing
standing_of (Receive rx) = rx.intake.standing
standing_of (Send tx) = no_standing
standing_of (Handle core) = no_standing
standing_of (Tick tick) = no_standing

abbrev pub feed_of : {I N : Type 0} → Role I N → Option (Feed I)
feed_of (Receive rx) = rx.intake.feed
feed_of (Send tx) = None
feed_of (Handle core) = None
feed_of (Tick tick) = None

-- the frames that it pulled
abbrev pub pulled_in : {I N : Type 0} → Role I N → List Frame
pulled_in role = (standing_of role).pulled

-- no more frames come of its feed
abbrev pub ended_in : {I N : Type 0} → Role I N → Bool
ended_in role = (standing_of role).ended

-- what stopped its port
abbrev pub fault_of : {I N : Type 0} → Role I N → Option FeedFault
fault_of role = (standing_of role).fault

-- no more frames come
abbrev pub HasNoMore : {I N : Type 0} → Role I N → Type 0
HasNoMore role = (ended_in role ≡ true) ⊎ (fault_of role ≢ None)

-- of which kind a role is
abbrev pub kind_in : {I N : Type 0} → Role I N → RoleKind
kind_in (Receive rx) = Receives
kind_in (Send tx) = Sends
kind_in (Handle core) = Handles
kind_in (Tick tick) = Ticks

-- it is of the same kind; frames were pulled behind the earlier ones, and none behind the end
pub record Grows {I N : Type 0} (old new : Role I N) : Type 0 where
  pub kind : kind_in new ≡ kind_in old
  pub more : (frames : List Frame) × (pulled_in new ≡ pulled_in old ++ frames)
  pub ended : ended_in old ≡ true → (pulled_in new ≡ pulled_in old) × (ended_in new ≡ true)

-- a receive role's port stands with its feed as the bytes and the takes of that tell, which began as this one
pub record IsFedBy {I : Type 0} (name_of : I → List ℕ) (left_of : I → Option (List ℕ)) (takes_of : I → Amounts)
    (began feed : Option (Feed I)) (standing : Standing) : Type 0 where
  pub pulled : IsPulledOf feed standing
  pub stays : StaysFeed name_of began feed
  pub since : (left : Option (List ℕ)) (takes : Amounts) → WasLeft left_of takes_of left takes began
      → IsTakenFrom left_of takes_of left takes feed standing

-- a receive role has this feed, and stands with it so. Others have none
abbrev pub IsFed : {I N : Type 0} → (I → List ℕ) → (I → Option (List ℕ)) → (I → Amounts) → Option (Feed I) → Role I N
    → Type 0
IsFed name_of left_of takes_of began (Receive rx) =
    IsFedBy name_of left_of takes_of began rx.intake.feed rx.intake.standing
IsFed name_of left_of takes_of began (Send tx) = Unit {0}
IsFed name_of left_of takes_of began (Handle core) = Unit {0}
IsFed name_of left_of takes_of began (Tick tick) = Unit {0}

abbrev pub StaysFed : {I N : Type 0} → (I → List ℕ) → (I → Option (List ℕ)) → (I → Amounts) → (old new : Role I N) → Type 0
StaysFed {I} name_of left_of takes_of old new = (began : Option (Feed I)) → IsFed name_of left_of takes_of began old
    → IsFed name_of left_of takes_of began new

-- Settings

-- a run that the role may be of: of a receive role, one in which its port's frames begin with those that it pulled
abbrev pub FitsOne : {I N : Type 0} → Layout → Plan → (role : ℕ) → Role I N → Setting → Type 0
FitsOne layout plan role (Receive rx) setting = FitsRole layout plan role rx setting
FitsOne layout plan role (Send tx) setting = (setting.layout ≡ layout) × (setting.plan ≡ plan)
FitsOne layout plan role (Handle core) setting = (setting.layout ≡ layout) × (setting.plan ≡ plan)
FitsOne layout plan role (Tick tick) setting = (setting.layout ≡ layout) × (setting.plan ≡ plan)

-- the role's log is right so far, where each act has this moment, and the role knows of it what the next pass needs
abbrev pub IsRoleInOrder : {I N : Type 0} → Setting → (role : ℕ) → (moment : ℕ → ℕ) → Log → Role I N → Type 0
IsRoleInOrder setting role moment log (Receive rx) = IsReceiverInOrder setting role moment log rx
IsRoleInOrder setting role moment log (Send tx) = IsSenderInOrder setting role moment log tx
IsRoleInOrder setting role moment log (Handle core) = Unit {0}
IsRoleInOrder setting role moment log (Tick tick) = IsTickerSoFar setting role moment log (logged tick)

-- Moments

-- the tick role's passes had moments up to this one
abbrev pub IsUpTo : {I N : Type 0} → (now : ℕ) → Role I N → Type 0
IsUpTo now (Receive rx) = Unit {0}
IsUpTo now (Send tx) = Unit {0}
IsUpTo now (Handle core) = Unit {0}
IsUpTo now (Tick tick) = latest_of tick ≤ now

-- the tick role began at this moment
abbrev pub StartedAt : {I N : Type 0} → (first : ℕ) → Role I N → Type 0
StartedAt first (Receive rx) = Unit {0}
StartedAt first (Send tx) = Unit {0}
StartedAt first (Handle core) = Unit {0}
StartedAt first (Tick tick) = first_of tick ≡ first

module _ {N : Type 0} (acts : N → Acts) (state : N → Tree) where
  -- function f acts as unit f of these, and begins in its state
  abbrev pub acts_by : List N → ℕ → Tree → Handling → Tree → Type 0
  acts_by units f = acts_in acts state (slice_get units f)

  abbrev pub start_by : List N → ℕ → Tree
  start_by units f = state_in acts state (slice_get units f)

  -- each function of a core began as its unit of these
  pub record IsCoreBoundTo (layout : Layout) (role : ℕ) (units : List N) (core : CoreRole N) : Type 0 where
    pub each : (f : FnId) → f.0 < layout.functions → core_role layout f.0 ≡ role
        → unit_of acts state (functions_of core.stations.items) core.began.value.items f.0 ≡ slice_get units f.0

  abbrev pub IsBoundTo : {I : Type 0} → Layout → (role : ℕ) → List N → Role I N → Type 0
  IsBoundTo layout role units (Receive rx) = Unit {0}
  IsBoundTo layout role units (Send tx) = Unit {0}
  IsBoundTo layout role units (Handle core) = IsCoreBoundTo layout role units core
  IsBoundTo layout role units (Tick tick) = Unit {0}

  -- each function of a core has its state of these
  abbrev pub HasStates : {I : Type 0} → Layout → (role : ℕ) → Role I N → (ℕ → Tree) → Type 0
  HasStates layout role (Receive rx) states = Unit {0}
  HasStates layout role (Send tx) states = Unit {0}
  HasStates layout role (Handle core) states =
      (f : FnId) → f.0 < layout.functions → core_role layout f.0 ≡ role → states f.0 ≡ state_of acts state core f.0
  HasStates layout role (Tick tick) states = Unit {0}

  -- all that a pass asks, and keeps: the role is this board's and has this token
  abbrev pub IsReady : {I : Type 0} → (cost_may_take : ℕ → ℕ → Type 0) → BoardView → Plan → TokenView → Role I N → Type 0
  IsReady cost_may_take site plan token (Receive rx) = IsRxRole site plan token rx
  IsReady cost_may_take site plan token (Send tx) = IsTxRole site plan token tx
  IsReady cost_may_take site plan token (Handle core) =
      IsCoreRole acts state site plan token core × AreTimed cost_may_take plan token.log
  IsReady cost_may_take site plan token (Tick tick) = IsTickRole site plan false token tick
