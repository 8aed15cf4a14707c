-- What holds between the turns of a serial session, and between the phases of another: of each role alone, and of all.
use Rattle.std.specs.Prelude.{ℕ, suc, zero, ◌≢◌, ◌≡◌, ◌-◌, ◌<◌, ◌≤◌, Bool, true, false, ◌==◌, if◌then◌else◌, List, [], ◌∷◌, ◌++◌, length, Option, None}
use Rattle.onvm_base.specs.declared.ids.FnId.{FnId}
use Rattle.onvm_core.specs.Layouts.{first_role, tick_role}
use Rattle.onvm_core.specs.Logs.{Setting, Log, Hand}
use Rattle.onvm_core.specs.Handling.{IsOwn}
use Rattle.onvm_core.specs.Blocks.{RoleKind, kind_of}
use Rattle.onvm_core.specs.Blocks.RoleKind.{Receives, Sends, Handles, Ticks, Leads}
use Rattle.onvm_core.specs.Journals.{Handling}
use Rattle.load_estimate.specs.declared.sample.Sample.{Sample}
use Rattle.load_estimate.specs.declared.tick.Tick.{Tick}
use Rattle.onvm_promises.specs.declared.pass.Pass.{Pass}
use Rattle.onvm_promises.specs.Kept.{CoreKeeps, FeederKeeps}
use Rattle.onvm_promises.specs.Roles.{IsCorePromise, IsCoreSoFar, IsReceivePromise, IsReceiverSoFar, IsSendPromise, IsSenderSoFar, IsTickPromise, IsTickerSoFar}
use Rattle.onvm_promises.specs.Sampling.{AreEven, IsEven}
use Rattle.onvm_promises.specs.Ticks.{AllUpTo, AreTicksSoFar, NeverFall, last_moment}
use Rattle.onvm_session.specs.Accounts.{AreWhole, aged_of}
use Rattle.onvm_session.specs.Moments.{moment_in, moment_of_round, round_of_turn}
use Rattle.onvm_session.specs.SerialTicks.{AreSerialTicksSoFar}
use Rattle.onvm_session.specs.Turns.{Turn, AreWithinLogs, joined_count, turn_steps}
use Rattle.onvm_session.specs.Views.{FinalView, AreTurns, ArePhases, turn_of, join_count, turns_in, closing_look, joins, splits}

-- A role alone

-- what a role keeps, each kind of role its part
pub record Keeps : Type 0 where
  pub feeder : FeederKeeps
  pub core : CoreKeeps
  pub samples : List Sample
  pub ticks : List Tick

-- a core's functions mailed one sample between two looks at their weight words, where they handled a frame
pub record AreServedEvenly (setting : Setting) (role : ℕ) (log : Log) : Type 0 where
  pub at_looks : (f : FnId) → IsOwn setting role f → AreEven f log
  pub now : (f : FnId) → IsOwn setting role f → IsEven f log

-- between two passes that weren't cut short, of a role of this kind
abbrev pub IsRoleSoFar : {S : Type 0} → (acts : ℕ → S → Handling → S → Type 0) → (start state : ℕ → S)
    → (cost_may_take : ℕ → ℕ → Type 0) → Setting → (role : ℕ) → RoleKind → (moment : ℕ → ℕ) → Log → Keeps → Type 0
IsRoleSoFar acts start state cost_may_take setting role Receives moment log keeps =
    IsReceiverSoFar setting role moment log keeps.feeder
IsRoleSoFar acts start state cost_may_take setting role Sends moment log keeps =
    IsSenderSoFar setting role moment log keeps.feeder
IsRoleSoFar acts start state cost_may_take setting role Handles moment log keeps =
    IsCoreSoFar acts start state cost_may_take setting role None log keeps.core × AreServedEvenly setting role log
IsRoleSoFar acts start state cost_may_take setting role Ticks moment log keeps =
    IsTickerSoFar setting role moment log keeps.samples
IsRoleSoFar acts start state cost_may_take setting role Leads moment log keeps = ⊥

-- what a pass of a role of this kind promises, at this moment
abbrev pub IsRolePass : {S : Type 0} → (acts : ℕ → S → Handling → S → Type 0) → (start state : ℕ → S)
    → (cost_may_take : ℕ → ℕ → Type 0) → Setting → (role : ℕ) → RoleKind → (first now : ℕ) → (closing : Bool)
    → (moment : ℕ → ℕ) → (before after : Log) → (was keeps : Keeps) → Pass → Type 0
IsRolePass acts start state cost_may_take setting role Receives first now closing moment before after was keeps answer =
    IsReceivePromise setting role now moment before after keeps.feeder answer
IsRolePass acts start state cost_may_take setting role Sends first now closing moment before after was keeps answer =
    IsSendPromise setting role now moment before after keeps.feeder answer
IsRolePass acts start state cost_may_take setting role Handles first now closing moment before after was keeps answer =
    (hand : Option Hand)
    × IsCorePromise acts start state cost_may_take setting role hand before after keeps.core answer
IsRolePass acts start state cost_may_take setting role Ticks first now closing moment before after was keeps answer =
    IsTickPromise setting role first now closing moment before after keeps.samples was.ticks keeps.ticks answer
IsRolePass acts start state cost_may_take setting role Leads first now closing moment before after was keeps answer = ⊥

-- The ticks

-- of a tick role whose last pass had this moment, at the latest
pub record AreTicksKept (setting : Setting) (first latest : ℕ) (log : Log) (keeps : Keeps) : Type 0 where
  pub so_far : AreTicksSoFar setting.plan setting.layout.functions first keeps.samples keeps.ticks log
  pub never_fall : NeverFall 0 keeps.samples
  pub up_to : AllUpTo latest keeps.samples
  pub last : last_moment first keeps.ticks ≤ latest

-- each tick's moment is one that the clock may tell
abbrev pub AllTold : (may_tell : ℕ → Type 0) → List Tick → Type 0
AllTold may_tell [] = Unit {0}
AllTold may_tell (tick ∷ ticks) = may_tell tick.moment × AllTold may_tell ticks

-- in a serial session so many rounds had a pass of the tick role
pub record AreTicksOfRounds (setting : Setting) (rounds first latest : ℕ) (keeps : Keeps) : Type 0 where
  pub first_is : first ≡ 0
  pub latest_is : latest ≡ moment_of_round (rounds - 1)
  pub ticks : AreSerialTicksSoFar setting.plan rounds keeps.samples keeps.ticks

abbrev pub AreTicksTimed : Bool → (may_tell : ℕ → Type 0) → Setting → (rounds first latest : ℕ) → Keeps → Type 0
AreTicksTimed true may_tell setting rounds first latest keeps = AreTicksOfRounds setting rounds first latest keeps
AreTicksTimed false may_tell setting rounds first latest keeps = AllTold may_tell keeps.ticks

-- All roles

-- each turn ended where the role's next one began, or later
abbrev pub AreRising : List Turn → Type 0
AreRising [] = Unit {0}
AreRising (t ∷ ts) = (joined_count t.role ts ≤ t.count) × AreRising ts

-- what roles did they did in turns, each a whole pass, at the moments that the order of the turns tells
pub record HasTurns (setting : Setting) (moments : ℕ → ℕ → ℕ) (final : FinalView) : Type 0 where
  pub rising : AreRising (turns_in final)
  pub within : AreWithinLogs final.logs (turns_in final)
  pub kept : (role : ℕ) → joined_count role (turns_in final) ≡ length (final.logs role)
  pub whole : AreWhole setting (aged_of setting moments final.logs) final.logs (turns_in final)
  pub timed : (role number : ℕ) → number < length (final.logs role)
      → moments role number ≡ moment_in setting.layout (turn_steps final.logs (turns_in final)) role number

-- between two turns of a serial session
pub record IsSerialSoFar (setting : Setting) (moments : ℕ → ℕ → ℕ) (final : FinalView) : Type 0 where
  pub turns : AreTurns setting.layout final.lead
  pub counts : length final.counts ≡ join_count final.lead
  pub has : HasTurns setting moments final

-- between two phases of another session
pub record IsPhasedSoFar (may_tell : ℕ → Type 0) (setting : Setting) (moments : ℕ → ℕ → ℕ) (final : FinalView)
    : Type 0 where
  pub phases : ArePhases setting.layout final.lead
  pub kept : (role : ℕ) → joined_count role (turns_in final) ≡ length (final.logs role)
  pub timed : (role number : ℕ) → number < length (final.logs role) → may_tell (moments role number)

abbrev pub IsSoFar : Bool → (may_tell : ℕ → Type 0) → Setting → (ℕ → ℕ → ℕ) → FinalView → Type 0
IsSoFar true may_tell setting moments final = IsSerialSoFar setting moments final
IsSoFar false may_tell setting moments final = IsPhasedSoFar may_tell setting moments final

-- the loop invariant of a session
pub record IsSession {S : Type 0} (serial : Bool) (may_tell : ℕ → Type 0) (acts : ℕ → S → Handling → S → Type 0)
    (start state : ℕ → S) (cost_may_take : ℕ → ℕ → Type 0) (setting : Setting) (moments : ℕ → ℕ → ℕ)
    (first latest : ℕ) (final : FinalView) (keeps : ℕ → Keeps) : Type 0 where
  pub so_far : IsSoFar serial may_tell setting moments final
  pub roles : (role : ℕ) → role < first_role setting.layout
      → IsRoleSoFar acts start state cost_may_take setting role (kind_of setting.layout role) (moments role)
      (final.logs role) (keeps role)
  pub ticks : AreTicksKept setting first latest (final.logs (tick_role setting.layout))
      (keeps (tick_role setting.layout))
  pub timed_ticks : AreTicksTimed serial may_tell setting (round_of_turn setting.layout (turns_in final)) first latest
      (keeps (tick_role setting.layout))

-- The view after a turn, or a phase

abbrev pub with_log : ℕ → Log → (ℕ → Log) → ℕ → Log
with_log role log logs r = if r == role then log else logs r

abbrev pub after_turn : (role seen : ℕ) → Log → FinalView → FinalView
after_turn role seen log final =
    record {
      lead = turn_of role seen ++ final.lead;
      logs = with_log role log final.logs;
      counts = length log ∷ final.counts;
    }

abbrev pub with_moment : ℕ → (ℕ → ℕ) → (ℕ → ℕ → ℕ) → ℕ → ℕ → ℕ
with_moment role moment moments r = if r == role then moment else moments r

abbrev pub with_keeps : ℕ → Keeps → (ℕ → Keeps) → ℕ → Keeps
with_keeps role kept keeps r = if r == role then kept else keeps r

-- only this role's functions went on
abbrev pub OthersKeep : {S : Type 0} → Setting → ℕ → (ℕ → S) → (ℕ → S) → Type 0
OthersKeep setting role state now =
    (f : FnId) (other : ℕ) → IsOwn setting other f → other ≢ role → now f.0 ≡ state f.0

-- how long the logs of the roles below n are, as the joins of a phase keep it
abbrev pub lengths_of : (ℕ → Log) → ℕ → List ℕ
lengths_of logs zero = []
lengths_of logs (suc n) = length (logs n) ∷ lengths_of logs n

abbrev pub after_phase : (roles seen : ℕ) → (ℕ → Log) → FinalView → FinalView
after_phase roles seen logs final =
    record {
      lead = closing_look seen ∷ joins roles ++ splits roles 0 ++ final.lead;
      logs = logs;
      counts = lengths_of logs roles ++ final.counts;
    }
