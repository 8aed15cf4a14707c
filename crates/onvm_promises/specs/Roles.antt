-- What holds of a role alone between its passes, and what a pass of each kind of role promises.
use Rattle.std.specs.Prelude.{ℕ, ◌≡◌, ◌+◌, ◌-◌, Bool, true, if◌then◌else◌, List, [], ◌∷◌, ◌++◌, length, Option, None, Some}
use Rattle.onvm_base.specs.declared.ids.FnId.{FnId}
use Rattle.onvm_base.specs.declared.ids.RingId.TheVariants.{Output}
use Rattle.onvm_base.specs.declared.plan.Plan.{Plan}
use Rattle.onvm_core.specs.declared.entry.Entry.{Entry}
use Rattle.onvm_core.specs.declared.layout.Layout.{Layout}
use Rattle.onvm_core.specs.declared.step.Act.{Act}
use Rattle.onvm_core.specs.declared.step.Act.TheVariants.{Push}
use Rattle.onvm_core.specs.declared.step.Item.{Item}
use Rattle.onvm_core.specs.Blocks.{IsOfBlocks}
use Rattle.onvm_core.specs.Handling.{IsOwn, core_hand}
use Rattle.onvm_core.specs.Journals.{GoesThrough, Handling, journal}
use Rattle.onvm_core.specs.Logs.{Log, Setting, Hand, entries_of_port}
use Rattle.onvm_core.specs.Places.{IsPrefixOf, how_many}
use Rattle.onvm_core.specs.Receiving.{done_count, receive_phase}
use Rattle.load_estimate.specs.declared.sample.Sample.{Sample}
use Rattle.load_estimate.specs.declared.tick.Tick.{Tick}
use Rattle.onvm_promises.specs.declared.pass.Pass.{Pass}
use Rattle.onvm_promises.specs.Answers.{IsIdleCore, IsIdleReceiver, IsIdleSender, Tells, is_complete, is_handled, is_moved}
use Rattle.onvm_promises.specs.Kept.{AreCoreKeeps, AreFeederKeeps, CoreKeeps, FeederKeeps, kept_at, kept_now, moment_then, samples_by}
use Rattle.onvm_promises.specs.Passes.{IsCorePass, IsReceivePass, IsSendPass, IsTickPass}
use Rattle.onvm_promises.specs.Rests.{RestsHandling, RestsReceiving, RestsSending}
use Rattle.onvm_promises.specs.Sampling.{AreTimed}
use Rattle.onvm_promises.specs.Ticks.{PostsWeights, new_ticks}
use Rattle.onvm_promises.specs.Times.{aged_by}

-- Receive roles

pub record IsReceiverSoFar (setting : Setting) (port : ℕ) (moment : ℕ → ℕ) (log : Log)
    (keeps : FeederKeeps) : Type 0 where
  pub rests : RestsReceiving setting port (aged_by setting port moment log) log
  pub kept : AreFeederKeeps moment log keeps

-- a receive pass at this moment: the log grew, and so far all is as it should be; where the pass wasn't cut short it
-- was
-- whole
pub record IsReceivePromise (setting : Setting) (port now : ℕ) (moment : ℕ → ℕ) (before after : Log)
    (keeps : FeederKeeps) (answer : Pass) : Type 0 where
  pub added : Log
  pub grown : after ≡ added ++ before
  pub so_far : IsReceiverSoFar setting port (moment_then moment (length before) now) after keeps
  pub whole : is_complete answer ≡ true
      → IsReceivePass setting port (aged_by setting port (moment_then moment (length before) now) after) before added
  pub tells : Tells answer (done_count (receive_phase setting after) - done_count (receive_phase setting before))
      (IsIdleReceiver setting port after) (Unit {0})

-- A receive role knows of the run's frames those that it pulled. Its promise is for each setting of its layout and plan
-- in which its port's frames begin with these, and, once the capture's end was seen, are just these
pub record Fits (layout : Layout) (plan : Plan) (port : ℕ) (pulled : List Entry) (ended : Bool)
    (setting : Setting) : Type 0 where
  pub layout_is : setting.layout ≡ layout
  pub plan_is : setting.plan ≡ plan
  pub front : IsPrefixOf pulled (entries_of_port port setting.entries)
  pub all : ended ≡ true → entries_of_port port setting.entries ≡ pulled

-- Transmit roles

pub record IsSenderSoFar (setting : Setting) (role : ℕ) (moment : ℕ → ℕ) (log : Log)
    (keeps : FeederKeeps) : Type 0 where
  pub rests : RestsSending setting role (aged_by setting role moment log) log
  pub kept : AreFeederKeeps moment log keeps

pub record IsSendPromise (setting : Setting) (role now : ℕ) (moment : ℕ → ℕ) (before after : Log)
    (keeps : FeederKeeps) (answer : Pass) : Type 0 where
  pub added : Log
  pub grown : after ≡ added ++ before
  pub so_far : IsSenderSoFar setting role (moment_then moment (length before) now) after keeps
  pub whole : is_complete answer ≡ true
      → IsSendPass setting role (aged_by setting role (moment_then moment (length before) now) after) before added
  pub tells : Tells answer (how_many is_moved added) (IsIdleSender setting role added) ⊥

-- a role that knows no frames promises for any
abbrev pub setting_of : Layout → Plan → List Entry → Setting
setting_of layout plan entries = record { layout = layout; plan = plan; entries = entries }

-- Cores

-- each function f acts by `acts f`, and went in its journal from its start to its state. Only a core that wanted memory
-- has a parcel in hand
pub record IsCoreSoFar {S : Type 0} (acts : ℕ → S → Handling → S → Type 0) (start state : ℕ → S)
    (cost_may_take : ℕ → ℕ → Type 0) (setting : Setting) (role : ℕ) (hand : Option Hand) (log : Log)
    (keeps : CoreKeeps) : Type 0 where
  pub rests : RestsHandling setting role hand log
  pub timed : AreTimed cost_may_take setting.plan log
  pub journals : (f : FnId) → IsOwn setting role f → GoesThrough (acts f.0) (start f.0) (journal f log) (state f.0)
  pub kept : AreCoreKeeps log keeps

abbrev pub oldest : Log → Option Act
oldest [] = None
oldest (act ∷ []) = Some act
oldest (act ∷ other ∷ before) = oldest (other ∷ before)

-- a parcel that was in hand is handled before anything else
abbrev pub HandsFirst : Option Hand → Log → Type 0
HandsFirst None added = Unit {0}
HandsFirst (Some hand) [] = Unit {0}
HandsFirst (Some hand) (act ∷ before) =
    (item : Item) × (oldest (act ∷ before) ≡ Some (Push (Output hand.function) item))

pub record IsCorePromise {S : Type 0} (acts : ℕ → S → Handling → S → Type 0) (start state : ℕ → S)
    (cost_may_take : ℕ → ℕ → Type 0) (setting : Setting) (role : ℕ) (hand : Option Hand) (before after : Log)
    (keeps : CoreKeeps) (answer : Pass) : Type 0 where
  pub added : Log
  pub grown : after ≡ added ++ before
  pub first : HandsFirst (core_hand before) added
  pub so_far : IsCoreSoFar acts start state cost_may_take setting role hand after keeps
  pub whole : is_complete answer ≡ true → (hand ≡ None) × IsCorePass setting role before added
  pub tells : Tells answer (how_many is_handled added) (IsIdleCore setting role added) ⊥

-- The tick role

pub record IsTickerSoFar (setting : Setting) (role : ℕ) (moment : ℕ → ℕ) (log : Log)
    (samples : List Sample) : Type 0 where
  pub blocks : IsOfBlocks setting role log
  pub kept : samples ≡ kept_at samples_by moment log

-- the ticks that a pass makes, if it isn't cut short
abbrev pub ticks_of_pass : Plan → (first now : ℕ) → (closing : Bool) → List Sample → List Tick → Pass → List Tick
ticks_of_pass plan first now closing samples ticks answer =
    if is_complete answer then new_ticks plan first now closing samples ticks else []

-- a pass of the tick role that had these ticks, and where there was none this first moment
pub record IsTickPromise (setting : Setting) (role first now : ℕ) (closing : Bool) (moment : ℕ → ℕ)
    (before after : Log) (samples : List Sample) (ticks ticks_now : List Tick) (answer : Pass) : Type 0 where
  pub added : Log
  pub grown : after ≡ added ++ before
  pub so_far : IsTickerSoFar setting role (moment_then moment (length before) now) after samples
  pub ticked : ticks_now ≡ ticks ++ ticks_of_pass setting.plan first now closing samples ticks answer
  pub posts : PostsWeights setting.layout.functions (ticks_of_pass setting.plan first now closing samples ticks answer)
      added
  pub whole : is_complete answer ≡ true → IsTickPass setting role before added
  pub tells : Tells answer
      (length (kept_now samples_by now added)
      + length (ticks_of_pass setting.plan first now closing samples ticks answer)) (Unit {0}) ⊥
