-- The tick role between its passes.
use Rattle.std.specs.Prelude.{ℕ, ◌≡◌, ◌≢◌, ◌+◌, ◌-◌, ◌<◌, ◌≤◌, Bool, false, List, [], ◌∷◌, length, All, Some, slice_get, slice_index_or, Vec, vec_capacity, vec_len}
use Rattle.std.proofs.Common.{Global}
use Rattle.onvm_base.specs.declared.function.FunctionPlan.{FunctionPlan}
use Rattle.onvm_base.specs.declared.limits.TheConstants.{MAX_FUNCTIONS}
use Rattle.onvm_base.specs.declared.plan.Plan.{Plan}
use Rattle.onvm_core.specs.Layouts.{IsLayoutOf, tick_role}
use Rattle.onvm_board.specs.Tokens.{BoardView, TokenView}
use Rattle.desc_ring.specs.declared.mail.Mail.{Mail}
use Rattle.desc_ring.specs.Arrays.{AreMailHeads}
use Rattle.load_estimate.specs.declared.sample.Sample.{Sample}
use Rattle.load_estimate.specs.declared.tick.Tick.{Tick}
use Rattle.load_estimate.specs.declared.tick.TickLine.{TickLine}
use Rattle.load_estimate.specs.Windows.{IsWindowOf, WindowState}
use Rattle.cpu_shares.specs.Shares.{IsMailed}
use Rattle.onvm_promises.specs.Lines.{samples_of, weight_after}
use Rattle.onvm_promises.specs.Ticks.{NeverFall, last_moment, last_number}
use Rattle.tick_pass.specs.declared.loads.CoreLoads.{CoreLoads}
use Rattle.tick_pass.specs.declared.role.TickRole.{TickRole}
use Rattle.tick_pass.specs.declared.room.TickRoom.{TickRoom}

-- What callers see of a role

-- the moment at which the role started
abbrev pub first_of : TickRole → ℕ
first_of role = role.first

-- the samples that the role has taken, in order
abbrev pub logged : TickRole → List Sample
logged role = role.room.samples.items

-- the ticks that it has made, in order
abbrev pub ticked : TickRole → List Tick
ticked role = role.room.ticks.items

-- the last sample's moment, or where there is none this first one
abbrev pub last_sample_moment : ℕ → List Sample → ℕ
last_sample_moment first [] = first
last_sample_moment first (sample ∷ samples) = last_sample_moment sample.moment samples

-- the moment of the last pass that wasn't cut short, at first that of the start
abbrev pub latest_of : TickRole → ℕ
latest_of role = role.latest.value

-- Mail rings

-- the ends of the mail rings, by function. There is none before the role's first pass, since an end is one of a board
pub record AreMailsOf (site : BoardView) (mails : List Mail) (token : TokenView) : Type 0 where
  pub begun : mails ≢ [] → AreMailHeads site mails token
  pub fresh : mails ≡ [] → token.log ≡ []

-- Windows

-- a window of mailed samples, with moments up to this one
pub record HasWindow (latest : ℕ) (samples : List Sample) (window : WindowState) : Type 0 where
  pub aged : ℕ
  pub last : ℕ
  pub is : IsWindowOf window.span aged last samples window
  pub before : last ≤ latest
  pub some : 0 < window.span
  pub mailed : All IsMailed samples

-- of the plan's length, and of a function's samples
pub record IsWindowAt (plan : Plan) (latest : ℕ) (samples : List Sample) (f : ℕ) (window : WindowState) : Type 0 where
  pub span_is : window.span ≡ plan.window
  pub has : HasWindow latest (samples_of f samples) window

-- for each function a window of its samples
pub record AreWindows (plan : Plan) (latest : ℕ) (samples : List Sample) (windows : List WindowState) : Type 0 where
  pub long : length windows ≡ length plan.functions
  pub each : (f : ℕ) (window : WindowState) → f < length plan.functions → window ≡ slice_index_or windows f window
      → IsWindowAt plan latest samples f window

-- Weights

-- each line gives its function's weight in force after these ticks
pub record AreInForce (plan : Plan) (ticks : List Tick) (lines : List TickLine) : Type 0 where
  pub long : length lines ≡ length plan.functions
  pub each : (f : ℕ) (function : FunctionPlan) (line : TickLine) → slice_get plan.functions f ≡ Some function
      → slice_get lines f ≡ Some line → line.weight ≡ weight_after f function.weight ticks

-- so do the lines of the last tick
abbrev pub LastInForce : Plan → List Tick → Type 0
LastInForce plan ticks = (tick : Tick) → slice_get ticks (length ticks - 1) ≡ Some tick → AreInForce plan ticks tick.lines

-- Rooms and roles

-- room for the loads of all functions
pub record HasCoreRoom (core : CoreLoads) : Type 0 where
  pub loads : MAX_FUNCTIONS ≤ vec_capacity core.loads
  pub priorities : MAX_FUNCTIONS ≤ vec_capacity core.priorities

-- so many more samples need no memory
abbrev pub HasRoom : ℕ → Vec Sample Global → Type 0
HasRoom n samples = vec_len samples + n ≤ vec_capacity samples

-- a room in which nothing was taken and no tick was made, of this plan
pub record IsNewRoom (plan : Plan) (room : TickRoom) : Type 0 where
  pub mails : room.mails.items ≡ []
  pub mail_room : length plan.functions ≤ vec_capacity room.mails
  pub windows : AreWindows plan 0 [] room.windows.items
  pub core : HasCoreRoom room.core
  pub samples : room.samples.items ≡ []
  pub ticks : room.ticks.items ≡ []

-- between two passes, on this board with this token: all that a pass asks and keeps. Closed is a role that had its closing
-- pass
pub record IsTickRole (site : BoardView) (plan : Plan) (closed : Bool) (token : TokenView)
    (role : TickRole) : Type 0 where
  pub layout_of : IsLayoutOf plan site.layout
  pub board : token.board ≡ site.id
  pub mine : token.role ≡ tick_role site.layout
  pub mails : AreMailsOf site role.room.mails.items token
  pub mail_room : length plan.functions ≤ vec_capacity role.room.mails
  pub windows : AreWindows plan (latest_of role) (logged role) role.room.windows.items
  pub core : HasCoreRoom role.room.core
  pub in_force : LastInForce plan (ticked role)
  pub rise : NeverFall (first_of role) (logged role)
  pub last_sample : last_sample_moment (first_of role) (logged role) ≤ latest_of role
  pub last_tick : last_moment (first_of role) (ticked role) ≤ latest_of role
  pub few : closed ≡ false → length (ticked role) < last_number

-- in a pass: the ends of the mail rings are set up, and the windows have no sample from behind this moment
pub record IsAtWork (site : BoardView) (plan : Plan) (now : ℕ) (token : TokenView) (role : TickRole) : Type 0 where
  pub layout_of : IsLayoutOf plan site.layout
  pub board : token.board ≡ site.id
  pub mine : token.role ≡ tick_role site.layout
  pub mails : AreMailHeads site role.room.mails.items token
  pub windows : AreWindows plan now (logged role) role.room.windows.items

-- all but the samples and the ticks
pub record KeepsRest (old new : TickRole) : Type 0 where
  pub first : new.first ≡ old.first
  pub latest : new.latest ≡ old.latest
  pub mails : new.room.mails ≡ old.room.mails
  pub windows : new.room.windows ≡ old.room.windows
  pub core : new.room.core ≡ old.room.core

-- the taking of samples leaves these
pub record KeepsTicks (old new : TickRole) : Type 0 where
  pub first : new.first ≡ old.first
  pub latest : new.latest ≡ old.latest
  pub mail_room : vec_capacity old.room.mails ≤ vec_capacity new.room.mails
  pub core : new.room.core ≡ old.room.core
  pub ticks : new.room.ticks ≡ old.room.ticks
