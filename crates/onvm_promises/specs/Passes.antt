-- What a whole pass of a role adds to the role's log, from the role's own view alone.
use Rattle.std.specs.Prelude.{ℕ, suc, ◌≡◌, ◌≢◌, ◌+◌, ◌<◌, ◌≤◌, ◌⊎◌, min, Bool, true, false, not, ◌==◌, ◌&&◌, nat_lt, if◌then◌else◌, [], ◌∷◌, ◌++◌, length, Option, None}
use Rattle.onvm_base.specs.declared.ids.FnId.{FnId}
use Rattle.onvm_base.specs.declared.ids.RingId.{RingId}
use Rattle.onvm_base.specs.declared.ids.RingId.TheVariants.{Lane, Output, Mail}
use Rattle.onvm_base.specs.declared.limits.TheConstants.{MAIL_RING}
use Rattle.onvm_base.specs.declared.outcome.Record.{Record}
use Rattle.onvm_core.specs.declared.layout.Word.TheVariants.{Cell, Weight}
use Rattle.onvm_core.specs.declared.step.Act.{Act}
use Rattle.onvm_core.specs.declared.step.Act.TheVariants.{Push, Full, Pop, Empty, Look}
use Rattle.onvm_core.specs.Blocks.{IsOfBlocks}
use Rattle.onvm_core.specs.Handling.{IsOwn, budget_left, core_hand, is_push_on}
use Rattle.onvm_core.specs.Layouts.{same_ring, feeder_count}
use Rattle.onvm_core.specs.Logs.{Log, Setting, entries_of_port}
use Rattle.onvm_core.specs.Marks.{Ages, looks_of_pass}
use Rattle.onvm_core.specs.Places.{how_many, one_if}
use Rattle.onvm_core.specs.Receiving.{done_count, receive_phase}
use Rattle.onvm_core.specs.Sending.{Reads}
use Rattle.onvm_promises.specs.Acts.{AreBlockSteps, AreMarkSteps, AreMoveSteps}
use Rattle.onvm_promises.specs.Rests.{IsSettledFeeder, RestsHandling, RestsReceiving, RestsSending, is_try}
use Rattle.onvm_promises.specs.Times.{passes_in}

-- Marks passes

-- one reading of each lane, and the post that is owed. Where no lane has as many pushes as its marks there is no step
pub record IsMarksPass (setting : Setting) (feeder : ℕ) (aged : Ages) (before made : Log) : Type 0 where
  pub marks : AreMarkSteps setting feeder made
  pub settled : IsSettledFeeder setting feeder aged (made ++ before)
  pub one : looks_of_pass setting feeder before ≢ []
      → passes_in setting feeder (made ++ before) ≡ passes_in setting feeder before + 1
  pub none : looks_of_pass setting feeder before ≡ [] → made ≡ []

-- Draining a ring

-- of the acts that pop from the ring, or find it empty, the newest found it empty
abbrev pub dry_after : RingId → Act → Bool → Bool
dry_after ring (Pop r item) was = if same_ring r ring then false else was
dry_after ring (Empty r) was = if same_ring r ring then true else was
dry_after ring _ was = was

abbrev pub ran_dry : RingId → Log → Bool
ran_dry ring [] = false
ran_dry ring (act ∷ before) = dry_after ring act (ran_dry ring before)

abbrev pub is_pop_of : RingId → Act → Bool
is_pop_of ring (Pop r item) = same_ring r ring
is_pop_of ring _ = false

-- so many pops from the ring, and fewer only up to where it was found empty
pub record IsDrained (ring : RingId) (most : ℕ) (made : Log) : Type 0 where
  pub bounded : how_many (is_pop_of ring) made ≤ most
  pub fewer : how_many (is_pop_of ring) made < most → ran_dry ring made ≡ true

-- Feeders

-- a marks pass, and then the blocks of the next frames, a burst or all that are left
pub record IsReceivePass (setting : Setting) (port : ℕ) (aged : Ages) (before added : Log) : Type 0 where
  pub marks : Log
  pub blocks : Log
  pub parts : added ≡ blocks ++ marks
  pub pass : IsMarksPass setting port aged before marks
  pub steps : AreBlockSteps blocks
  pub count : done_count (receive_phase setting (added ++ before))
      ≡ min (done_count (receive_phase setting before) + setting.plan.burst)
      (length (entries_of_port port setting.entries))
  pub rests : RestsReceiving setting port aged (added ++ before)

-- a marks pass, and then a burst of pops from each output ring that the role reads, and of no ring more
pub record IsSendPass (setting : Setting) (role : ℕ) (aged : Ages) (before added : Log) : Type 0 where
  pub marks : Log
  pub moves : Log
  pub parts : added ≡ moves ++ marks
  pub pass : IsMarksPass setting role aged before marks
  pub steps : AreMoveSteps (λ f. f.0 < setting.layout.functions) moves
  pub few : (f : FnId) → how_many (is_pop_of (Output f)) moves ≤ setting.plan.burst
  pub drained : (f : FnId) → Reads setting role f → IsDrained (Output f) setting.plan.burst moves
  pub rests : RestsSending setting role aged (added ++ before)

-- Cores: a pass serves each of the core's functions

-- the log ends with so many lanes of the function found empty, next to one another
pub data EndsWithEmpties (f : FnId) : ℕ → Log → Type 0 where
  NoEmpty : (log : Log) → EndsWithEmpties f 0 log
  OneEmpty : (g : FnId) (feeder n : ℕ) (before : Log) → g.0 ≡ f.0 → EndsWithEmpties f n before
      → EndsWithEmpties f (suc n) (Empty (Lane g feeder) ∷ before)

-- the log ends with a look that found no room on the function's output ring
pub data EndsBarred (f : FnId) : Log → Type 0 where
  ABar : (g : FnId) (at seen : ℕ) (told : Option Record) (before : Log) → g.0 ≡ f.0 → seen ≢ 0
      → EndsBarred f (Look (Cell (Output g) at) seen told ∷ before)

-- a service ends where the budget is spent, the output ring has no room, or no lane has a descriptor
abbrev pub EndsService : Setting → FnId → (before service : Log) → Type 0
EndsService setting f before service =
    (budget_left setting.plan f (service ++ before) ≡ 0) ⊎ EndsBarred f service
    ⊎ EndsWithEmpties f (feeder_count setting.layout) service

abbrev pub is_service_act : FnId → Act → Bool
is_service_act f (Look (Weight g) seen told) = g.0 == f.0
is_service_act f act = is_try f act

abbrev pub is_weight_look : FnId → Act → Bool
is_weight_look f (Look (Weight g) seen told) = g.0 == f.0
is_weight_look f _ = false

abbrev pub is_mailed : FnId → Act → Bool
is_mailed f (Push (Mail g) item) = g.0 == f.0
is_mailed f (Full (Mail g)) = g.0 == f.0
is_mailed f _ = false

-- a look that found no room
abbrev pub saw_full : FnId → Act → Bool
saw_full f (Look (Cell (Output g) at) seen told) = (g.0 == f.0) && not (seen == 0)
saw_full f _ = false

-- the function was served once: from a look at its weight word until one of the three ends
pub record IsServed (setting : Setting) (f : FnId) (before added : Log) : Type 0 where
  pub earlier : Log
  pub service : Log
  pub later : Log
  pub seen : ℕ
  pub parts : added ≡ later ++ service ++ Look (Weight f) seen None ∷ earlier
  pub ends : EndsService setting f (earlier ++ before) (service ++ Look (Weight f) seen None ∷ [])
  -- the function has no other look and no other try in this pass
  pub once : how_many (is_weight_look f) service ≡ 0
  pub alone : how_many (is_service_act f) later + how_many (is_service_act f) earlier ≡ 0
  -- at most one look of the pass finds no room
  pub barred_once : how_many (saw_full f) added ≤ 1
  -- and what it handles and mails stands behind, but for a parcel that was in hand
  pub behind : core_hand before ≡ None
      → how_many (is_push_on (Output f)) earlier + how_many (is_mailed f) earlier ≡ 0

-- one sample, mailed or lost, where the function handled a frame, and else none
abbrev pub HasOneSample : FnId → Log → Type 0
HasOneSample f log = how_many (is_mailed f) log ≡ one_if (nat_lt 0 (how_many (is_push_on (Output f)) log))

pub record IsCorePass (setting : Setting) (role : ℕ) (before added : Log) : Type 0 where
  pub served : (f : FnId) → IsOwn setting role f → IsServed setting f before added
  pub samples : (f : FnId) → IsOwn setting role f → HasOneSample f added
  pub rests : RestsHandling setting role None (added ++ before)

-- The tick role: a ring's worth of pops from each mail ring

pub record IsTickPass (setting : Setting) (role : ℕ) (before added : Log) : Type 0 where
  pub blocks : IsOfBlocks setting role (added ++ before)
  pub drained : (f : FnId) → f.0 < setting.layout.functions → IsDrained (Mail f) MAIL_RING added
