-- The pattern of a core's log: each parcel that it pops from a lane it pushes, handled, on the function's output ring.
use Rattle.std.specs.Prelude.{ℕ, ◌≡◌, ◌-◌, ◌*◌, ◌/◌, ◌%◌, ◌<◌, min, max, Bool, false, ◌==◌, if◌then◌else◌, [], ◌∷◌, Option, Some, None, slice_get}
use Rattle.onvm_base.specs.declared.limits.TheConstants.{MAX_BUDGET, WEIGHT_ONE}
use Rattle.onvm_base.specs.declared.function.FunctionPlan.{FunctionPlan}
use Rattle.onvm_base.specs.declared.ids.FnId.{FnId}
use Rattle.onvm_base.specs.declared.ids.RingId.{RingId}
use Rattle.onvm_base.specs.declared.ids.RingId.TheVariants.{Lane, Output, Mail}
use Rattle.onvm_base.specs.declared.plan.Plan.{Plan}
use Rattle.onvm_core.specs.declared.layout.Word.{Word}
use Rattle.onvm_core.specs.declared.layout.Word.TheVariants.{Cell, Weight}
use Rattle.onvm_core.specs.declared.parcel.Parcel.{Parcel}
use Rattle.onvm_core.specs.declared.parcel.TheConstants.{MAX_PLACE}
use Rattle.onvm_core.specs.declared.step.Item.TheVariants.{Buffer, Number}
use Rattle.onvm_core.specs.declared.step.Act.{Act}
use Rattle.onvm_core.specs.declared.step.Act.TheVariants.{Push, Full, Pop, Empty, Look}
use Rattle.onvm_core.specs.Layouts.{IsFeeder, core_role, same_ring}
use Rattle.onvm_core.specs.Logs.{Log, Setting, Hand, IsHandled, push_count}

-- the function is one of this core's
pub record IsOwn (setting : Setting) (role : ℕ) (f : FnId) : Type 0 where
  pub known : f.0 < setting.layout.functions
  pub core : core_role setting.layout f.0 ≡ role

abbrev pub hand_after : Act → Option Hand → Option Hand
hand_after (Pop (Lane f p) (Buffer b parcel)) was = Some (record { function = f; buf = b.0; parcel = parcel })
hand_after (Push (Output f) item) was = None
hand_after _ was = was

-- the parcel that a core has in hand: popped from a lane, and not pushed on the output ring yet
abbrev pub core_hand : Log → Option Hand
core_hand [] = None
core_hand (act ∷ before) = hand_after act (core_hand before)

-- Room: since the last push on the output ring, or the start, there was a look of value 0 at the cell of the next push

abbrev pub is_push_on : RingId → Act → Bool
is_push_on ring (Push r item) = same_ring r ring
is_push_on ring _ = false

-- the cell of the next push on a function's output ring
abbrev pub next_cell : Setting → FnId → Log → Word
next_cell setting f before = Cell (Output f) (push_count (Output f) before % setting.layout.output)

pub data SawRoom (setting : Setting) (f : FnId) : Log → Type 0 where
  ByLook : (before : Log) → SawRoom setting f (Look (next_cell setting f before) 0 None ∷ before)
  Since : (act : Act) (before : Log) → is_push_on (Output f) act ≡ false → SawRoom setting f before
      → SawRoom setting f (act ∷ before)

-- Budget: how many pops a look at the weight word allows, up to the next

abbrev pub planned_weight : Option FunctionPlan → ℕ
planned_weight None = 0
planned_weight (Some p) = p.weight

-- a weight word of 0 stands for the plan's weight
abbrev pub budget : Plan → FnId → ℕ → ℕ
budget plan f seen =
    let weight = if seen == 0 then planned_weight (slice_get plan.functions f.0) else seen in
    min MAX_BUDGET (max 1 (plan.burst * weight / WEIGHT_ONE))

abbrev pub budget_left_after : Plan → FnId → Act → ℕ → ℕ
budget_left_after plan f (Look (Weight g) seen told) left = if g.0 == f.0 then budget plan f seen else left
budget_left_after plan f (Pop (Lane g p) (Buffer b parcel)) left = if g.0 == f.0 then left - 1 else left
budget_left_after plan f _ left = left

-- what a function has left of its budget: nothing before its first look at the weight word
abbrev pub budget_left : Plan → FnId → Log → ℕ
budget_left plan f [] = 0
budget_left plan f (act ∷ before) = budget_left_after plan f act (budget_left plan f before)

-- Acts

pub record MayPop (setting : Setting) (role : ℕ) (before : Log) (f : FnId) (feeder : ℕ) : Type 0 where
  pub own : IsOwn setting role f
  pub known : IsFeeder setting.layout feeder
  pub free : core_hand before ≡ None
  pub room : SawRoom setting f before
  pub left : 0 < budget_left setting.plan f before

-- the crumb's place is how many entries the journal had before, as far as a crumb counts
abbrev pub crumb_place : FnId → Log → ℕ
crumb_place f before = min (push_count (Output f) before) MAX_PLACE

pub record MayPush (setting : Setting) (role : ℕ) (before : Log) (f : FnId) (buf : ℕ) (parcel : Parcel) : Type 0 where
  pub own : IsOwn setting role f
  pub hand : Hand
  pub held : core_hand before ≡ Some hand
  pub function : hand.function ≡ f
  pub same : hand.buf ≡ buf
  pub handled : IsHandled f (crumb_place f before) hand.parcel parcel

-- a core looks at the weight words and the output cells of its own functions
abbrev pub MayGlance : Setting → ℕ → Word → Type 0
MayGlance setting role (Weight f) = IsOwn setting role f
MayGlance setting role (Cell (Output f) at) = IsOwn setting role f × (at < setting.layout.output)
MayGlance setting role _ = ⊥

-- the act may follow in the log of a core. It has no other push on an output ring, no take, no give, and no full one
abbrev pub MayHandle : Setting → ℕ → Log → Act → Type 0
MayHandle setting role before (Pop (Lane f feeder) (Buffer b parcel)) = MayPop setting role before f feeder
MayHandle setting role before (Push (Output f) (Buffer b parcel)) = MayPush setting role before f b.0 parcel
MayHandle setting role before (Push (Mail f) (Number n)) = IsOwn setting role f
MayHandle setting role before (Full (Mail f)) = IsOwn setting role f
MayHandle setting role before (Empty (Lane f feeder)) = IsOwn setting role f × IsFeeder setting.layout feeder
MayHandle setting role before (Look word seen told) = MayGlance setting role word × (told ≡ None)
MayHandle setting role before _ = ⊥
