-- A manager between turns: the board, the first token, and the roles.
use Rattle.std.specs.Prelude.{ℕ, ◌≡◌, ◌≢◌, ◌+◌, ◌<◌, ◌≤◌, Bool, true, false, List, length, Option, Some, None, slice_get}
use Rattle.onvm_base.specs.declared.plan.Plan.{Plan}
use Rattle.onvm_core.specs.declared.layout.Layout.{Layout}
use Rattle.onvm_core.specs.Layouts.{IsLayout, IsLayoutOf, core_role, first_role}
use Rattle.onvm_core.specs.Logs.{Setting}
use Rattle.onvm_core.specs.Potential.{sum_below}
use Rattle.onvm_core.specs.Settings.{IsSetting}
use Rattle.onvm_board.specs.Rule.{AllJoined}
use Rattle.onvm_board.specs.Tokens.{IsFirstToken, kept_log, split_token}
use Rattle.onvm_host.specs.Deeds.{Amounts}
use Rattle.nf_api.specs.Acts.{Acts}
use Rattle.nf_api.specs.Tree.{Tree, nothing}
use Rattle.nf_exec.specs.Roles.{state_of}
use Rattle.rx_feed.specs.declared.fault.FeedFault.{FeedFault}
use Rattle.rx_feed.specs.declared.feed.Feed.{Feed}
use Rattle.onvm_session.specs.declared.manager.Manager.{Manager}
use Rattle.onvm_session.specs.declared.role.Role.{Role}
use Rattle.onvm_session.specs.declared.role.Role.TheVariants.{Receive, Send, Handle, Tick}
use Rattle.onvm_session.specs.Boards.{view_of_token}
use Rattle.onvm_session.specs.Moments.{place_of_turn, round_of_turn}
use Rattle.onvm_session.specs.RoleStates.{FitsOne, Grows, IsBoundTo, IsFed, IsReady, IsRoleInOrder, StartedAt, acts_by, ended_in, fault_of, keeps_of, pulled_in, start_by}
use Rattle.onvm_session.specs.Sessions.{IsSession, Keeps}
use Rattle.onvm_session.specs.Starts.{no_keeps}
use Rattle.onvm_session.specs.Views.{place_in, turns_in}

-- What roles keep, by their numbers

abbrev pub keeps_at : {I N : Type 0} → Option (Role I N) → Keeps
keeps_at None = no_keeps
keeps_at (Some role) = keeps_of role

abbrev pub keeps_in : {I N : Type 0} → List (Role I N) → ℕ → Keeps
keeps_in roles r = keeps_at (slice_get roles r)

-- where the next turn stands in its round, and which round that is

abbrev pub place_now : {I N : Type 0} → Manager I N → ℕ
place_now manager = place_in manager.board.layout manager.first.log

abbrev pub round_now : {I N : Type 0} → Manager I N → ℕ
round_now manager = round_of_turn manager.board.layout (turns_in (view_of_token manager.first))

-- Each role

-- what holds of each role, by its number
abbrev pub OfEach : {I N : Type 0} → (ℕ → Role I N → Type 0) → List (Role I N) → Type 0
OfEach {I} {N} holds roles = (r : ℕ) (role : Role I N) → slice_get roles r ≡ Some role → holds r role

-- the run may be of these roles: each port's frames begin with those that were pulled, and are just these once the end was
-- seen
pub record FitsAll {I N : Type 0} (plan : Plan) (setting : Setting) (manager : Manager I N) : Type 0 where
  pub is : IsSetting setting
  pub layout_is : setting.layout ≡ manager.board.layout
  pub plan_is : setting.plan ≡ plan
  pub fits : OfEach (λ r role. FitsOne manager.board.layout plan r role setting) manager.roles.items

-- the frames of a port
abbrev pub pulled_at : {I N : Type 0} → Option (Role I N) → ℕ
pulled_at None = 0
pulled_at (Some role) = length (pulled_in role)

-- each capture was pulled to its end, and there are as many records as frames
pub record IsOver {I N : Type 0} (manager : Manager I N) : Type 0 where
  pub ended : OfEach (λ r role. ended_in role ≡ true) manager.roles.items
  pub recorded : sum_below (λ r. length (keeps_in manager.roles.items r).feeder.outcomes.records)
      (manager.board.layout.ports + manager.board.layout.transmit)
      ≡ sum_below (λ r. pulled_at (slice_get manager.roles.items r)) manager.board.layout.ports

-- the ports stand with their feeds as their bytes tell, which began as these, port by port
abbrev pub AreFed : {I N : Type 0} → (I → List ℕ) → (I → Option (List ℕ)) → (I → Amounts) → List (Feed I) → List (Role I N)
    → Type 0
AreFed name_of left_of takes_of feeds roles = OfEach (λ r role. IsFed name_of left_of takes_of (slice_get feeds r) role) roles

-- with later roles in place of these, nothing of their feeds is lost
pub record AllGrow {I N : Type 0} (name_of : I → List ℕ) (left_of : I → Option (List ℕ)) (takes_of : I → Amounts)
    (old new : Manager I N) : Type 0 where
  pub many : length new.roles.items ≡ length old.roles.items
  pub board : new.board ≡ old.board
  pub feeds : new.feeds ≡ old.feeds
  pub grow : (r : ℕ) (role later : Role I N) → slice_get old.roles.items r ≡ Some role
      → slice_get new.roles.items r ≡ Some later → Grows role later
  pub fed : (feeds : List (Feed I)) → AreFed name_of left_of takes_of feeds old.roles.items
      → AreFed name_of left_of takes_of feeds new.roles.items

-- the role of the lowest port that has a fault: no more frames come of the lower ones' feeds, without a fault
pub record HasFault {I N : Type 0} (roles : List (Role I N)) (port : ℕ) (fault : FeedFault) : Type 0 where
  pub role : Role I N
  pub at : slice_get roles port ≡ Some role
  pub fault_is : fault_of role ≡ Some fault
  pub lower : (r : ℕ) (other : Role I N) → r < port → slice_get roles r ≡ Some other → ended_in other ≡ true

-- the feed of the role with this number was read to its end, or up to this fault. Other roles are as they were
pub record IsDrainedAt {I N : Type 0} (at : ℕ) (fault : Option FeedFault) (old new : Manager I N) : Type 0 where
  pub role : Role I N
  pub here : slice_get new.roles.items at ≡ Some role
  pub fault_is : fault_of role ≡ fault
  pub ended : fault ≡ None → ended_in role ≡ true
  pub others : (r : ℕ) → r ≢ at → slice_get new.roles.items r ≡ slice_get old.roles.items r

module _ {N : Type 0} (acts : N → Acts) (state : N → Tree) where
  -- the states of all functions

  abbrev pub state_at : {I : Type 0} → Option (Role I N) → ℕ → Tree
  state_at None f = nothing
  state_at (Some (Receive rx)) f = nothing
  state_at (Some (Send tx)) f = nothing
  state_at (Some (Handle core)) f = state_of acts state core f
  state_at (Some (Tick tick)) f = nothing

  abbrev pub states_in : {I : Type 0} → Layout → List (Role I N) → ℕ → Tree
  states_in layout roles f = state_at (slice_get roles (core_role layout f)) f

  -- no role is split, and each is ready for a pass when it is
  pub record IsManager {I : Type 0} (cost_may_take : ℕ → ℕ → Type 0) (plan : Plan) (manager : Manager I N) : Type 0 where
    pub layout_is : manager.layout ≡ manager.board.layout
    pub layout_of : IsLayoutOf plan manager.board.layout
    pub ranges : IsLayout manager.board.layout
    pub registry : manager.registry ≡ plan
    pub first : IsFirstToken manager.board manager.first
    pub joined : AllJoined manager.board.layout manager.first.log
    pub kept : length manager.first.logs ≡ first_role manager.board.layout
    pub many : length manager.roles.items ≡ first_role manager.board.layout
    pub places : place_of_turn manager.board.layout (turns_in (view_of_token manager.first)) ≡ place_now manager
    pub ready : OfEach (λ r role. IsReady acts state cost_may_take manager.board plan (split_token r manager.first) role)
        manager.roles.items

  -- the session so far, of roles that began at this moment with functions like these units
  pub record IsUnderway {I : Type 0} (serial : Bool) (may_tell : ℕ → Type 0) (cost_may_take : ℕ → ℕ → Type 0)
      (first : ℕ) (units : List N) (setting : Setting) (manager : Manager I N) : Type 0 where
    pub moments : ℕ → ℕ → ℕ
    pub latest : ℕ
    pub session : IsSession serial may_tell (acts_by acts state units) (start_by acts state units)
        (states_in manager.board.layout manager.roles.items) cost_may_take setting moments first latest
        (view_of_token manager.first) (keeps_in manager.roles.items)
    pub in_order : OfEach (λ r role. IsRoleInOrder setting r (moments r) (kept_log r manager.first) role)
        manager.roles.items
    pub started : OfEach (λ r role. StartedAt first role) manager.roles.items
    pub bound : OfEach (λ r role. IsBoundTo acts state manager.board.layout r units role) manager.roles.items

  -- what a session was stays so behind turns
  pub record GoesOn {I : Type 0} (serial : Bool) (may_tell : ℕ → Type 0) (cost_may_take : ℕ → ℕ → Type 0) (plan : Plan)
      (old new : Manager I N) : Type 0 where
    pub on : (first : ℕ) (units : List N) (setting : Setting) → FitsAll plan setting new
        → IsUnderway serial may_tell cost_may_take first units setting old
        → IsUnderway serial may_tell cost_may_take first units setting new

  -- the session by phases so far, whose ticks are up to this moment
  pub record IsUnderwayAt {I : Type 0} (may_tell : ℕ → Type 0) (cost_may_take : ℕ → ℕ → Type 0) (first now : ℕ)
      (units : List N) (setting : Setting) (manager : Manager I N) : Type 0 where
    pub underway : IsUnderway false may_tell cost_may_take first units setting manager
    pub reached : underway.latest ≤ now

  -- what a session by phases was, up to a moment, it stays behind phases, up to a later one
  pub record GoesOnTo {I : Type 0} (may_tell : ℕ → Type 0) (cost_may_take : ℕ → ℕ → Type 0) (plan : Plan) (was now : ℕ)
      (old new : Manager I N) : Type 0 where
    pub on : (first : ℕ) (units : List N) (setting : Setting) → FitsAll plan setting new
        → IsUnderwayAt may_tell cost_may_take first was units setting old
        → IsUnderwayAt may_tell cost_may_take first now units setting new
