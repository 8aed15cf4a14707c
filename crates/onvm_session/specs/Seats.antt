-- Roles in a phase, each with its token: what passes ask of a seat, and what they leave of it.
use Rattle.std.specs.Prelude.{ℕ, ◌≡◌, ◌-◌, ◌<◌, ◌≤◌, true, List, [], ◌++◌, Option, Some, IsSome, length, slice_get}
use Rattle.onvm_base.specs.declared.plan.Plan.{Plan}
use Rattle.onvm_core.specs.Blocks.{kind_of}
use Rattle.onvm_core.specs.Layouts.{first_role, tick_role}
use Rattle.onvm_core.specs.Logs.{Log, Setting}
use Rattle.onvm_board.specs.Tokens.{BoardView, TokenView, kept_log, split_token}
use Rattle.onvm_host.specs.Deeds.{Amounts}
use Rattle.nf_api.specs.Acts.{Acts}
use Rattle.nf_api.specs.Tree.{Tree}
use Rattle.onvm_promises.specs.declared.pass.Pass.TheVariants.{Stopped}
use Rattle.onvm_promises.specs.Answers.{is_complete}
use Rattle.onvm_session.specs.declared.manager.Manager.{Manager}
use Rattle.onvm_session.specs.declared.role.Role.{Role}
use Rattle.onvm_session.specs.declared.seat.Seat.{Seat}
use Rattle.onvm_session.specs.RoleStates.{FitsOne, Grows, HasStates, IsBoundTo, IsReady, IsRoleInOrder, IsUpTo, StartedAt, StaysFed, acts_by, fault_of, keeps_of, start_by}
use Rattle.onvm_session.specs.Sessions.{AllTold, AreTicksKept, IsRoleSoFar, lengths_of}
use Rattle.onvm_session.specs.Views.{joins}

-- of each seat by its role's number: the last seat is role 0's
abbrev pub OfEachSeat : {I N : Type 0} → (ℕ → Seat I N → Type 0) → List (Seat I N) → Type 0
OfEachSeat {I} {N} holds seats = (at : ℕ) (seat : Seat I N) → slice_get seats at ≡ Some seat
    → holds (length seats - 1 - at) seat

module _ {I N : Type 0} (acts : N → Acts) (state : N → Tree) (may_tell : ℕ → Type 0) (cost_may_take : ℕ → ℕ → Type 0)
  where
    -- a role alone, between two passes up to this moment, where the clock may tell each of its moments
    pub record IsInStep (first : ℕ) (units : List N) (setting : Setting) (number : ℕ) (moment : ℕ → ℕ) (latest : ℕ)
        (log : Log) (role : Role I N) : Type 0 where
      pub in_order : IsRoleInOrder setting number moment log role
      pub started : StartedAt first role
      pub bound : IsBoundTo acts state setting.layout number units role
      pub so_far : (states : ℕ → Tree) → HasStates acts state setting.layout number role states
          → IsRoleSoFar (acts_by acts state units) (start_by acts state units) states cost_may_take setting number
          (kind_of setting.layout number) moment log (keeps_of role)
      pub timed : (n : ℕ) → n < length log → may_tell (moment n)
      pub ticks : number ≡ tick_role setting.layout → AreTicksKept setting first latest log (keeps_of role)
      pub told : number ≡ tick_role setting.layout → AllTold may_tell (keeps_of role).ticks

    -- a seat is ready for a pass
    pub record IsSeatReady (site : BoardView) (plan : Plan) (seat : Seat I N) : Type 0 where
      pub own : seat.token.role ≡ seat.number
      pub ready : IsReady acts state cost_may_take site plan seat.token seat.role
      pub upto : IsUpTo seat.latest seat.role
      pub told : may_tell seat.latest

    -- a seat was left so by passes: its role is in step, as it was before
    pub record HasPassed (name_of : I → List ℕ) (left_of : I → Option (List ℕ)) (takes_of : I → Amounts) (site : BoardView)
        (plan : Plan) (old new : Seat I N) : Type 0 where
      pub number : new.number ≡ old.number
      pub board : new.token.board ≡ old.token.board
      pub ready : IsSeatReady site plan new
      pub later : old.latest ≤ new.latest
      pub empty_handed : old.token.hand ≡ [] → is_complete new.answer ≡ true → new.token.hand ≡ []
      pub grows : Grows old.role new.role
      pub fed : StaysFed name_of left_of takes_of old.role new.role
      pub stopped : new.answer ≡ Stopped → IsSome (fault_of new.role)
      pub on : is_complete new.answer ≡ true
          → (first : ℕ) (units : List N) (setting : Setting) (moment : ℕ → ℕ)
          → FitsOne site.layout plan new.number new.role setting
          → IsInStep first units setting old.number moment old.latest old.token.log old.role
          → (now : ℕ → ℕ) × IsInStep first units setting new.number now new.latest new.token.log new.role

-- a role of this number took its seat: it has the token that was split for it, and made no pass since
pub record IsSeated {I N : Type 0} (manager : Manager I N) (latest number : ℕ) (seat : Seat I N) : Type 0 where
  pub number_is : seat.number ≡ number
  pub role : slice_get manager.roles.items number ≡ Some seat.role
  pub token : seat.token ≡ split_token number manager.first
  pub latest_is : seat.latest ≡ latest
  pub complete : is_complete seat.answer ≡ true

-- all roles took their seats
pub record AreSeated {I N : Type 0} (manager : Manager I N) (latest : ℕ) (seats : List (Seat I N)) : Type 0 where
  pub many : length seats ≡ length manager.roles.items
  pub each : OfEachSeat (IsSeated manager latest) seats

-- The roles leave their seats

-- role 0 is that of the last seat
pub record AreRolesOf {I N : Type 0} (seats : List (Seat I N)) (roles : List (Role I N)) : Type 0 where
  pub many : length roles ≡ length seats
  pub each : OfEachSeat (λ r seat. slice_get roles r ≡ Some seat.role) seats

-- the token of each seat is the board's, its role's by number, and holds nothing
pub record AreJoinable {I N : Type 0} (site : BoardView) (seats : List (Seat I N)) : Type 0 where
  pub many : length seats ≡ first_role site.layout
  pub each : OfEachSeat (λ r seat. (seat.token.board ≡ site.id) × (seat.token.role ≡ r) × (seat.token.hand ≡ [])) seats

-- the first token has joined the tokens of these seats, role 0's first
pub record AreTokensJoined {I N : Type 0} (seats : List (Seat I N)) (old new : TokenView) : Type 0 where
  pub board : new.board ≡ old.board
  pub role : new.role ≡ old.role
  pub hand : new.hand ≡ old.hand
  pub log : new.log ≡ joins (length seats) ++ old.log
  pub many : length new.logs ≡ length old.logs
  pub own : OfEachSeat (λ r seat. kept_log r new ≡ seat.token.log) seats
  pub others : (r : ℕ) → length seats ≤ r → kept_log r new ≡ kept_log r old
  pub counts : new.counts ≡ lengths_of (λ r. kept_log r new) (length seats) ++ old.counts
