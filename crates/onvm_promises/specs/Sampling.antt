-- The samples that a core mails: one between two looks at a function's weight word where the function handled a frame,
-- with a time that the clock may tell of the function's cost.
use Rattle.std.specs.Prelude.{ℕ, ◌≡◌, ◌+◌, ◌-◌, ◌%◌, ◌^◌, min, Bool, true, nat_lt, if◌then◌else◌, [], ◌∷◌, Option, Some, None, slice_get}
use Rattle.onvm_base.specs.declared.function.FunctionPlan.{FunctionPlan}
use Rattle.onvm_base.specs.declared.ids.FnId.{FnId}
use Rattle.onvm_base.specs.declared.ids.RingId.TheVariants.{Output, Mail}
use Rattle.onvm_base.specs.declared.plan.Plan.{Plan}
use Rattle.onvm_core.specs.declared.step.Act.{Act}
use Rattle.onvm_core.specs.declared.step.Act.TheVariants.{Push}
use Rattle.onvm_core.specs.declared.step.Item.TheVariants.{Number}
use Rattle.onvm_core.specs.Handling.{is_push_on}
use Rattle.onvm_core.specs.Logs.{Log}
use Rattle.onvm_core.specs.Places.{one_if}
use Rattle.onvm_core.specs.Samples.{AreSamples, is_sampled}
use Rattle.onvm_promises.specs.Passes.{is_mailed, is_weight_look}

-- Times

abbrev pub cost_of : Option FunctionPlan → ℕ
cost_of None = 0
cost_of (Some function) = function.cost

-- the time of a sample is a span that may be told of the function's cost, as far as a sample has room for it
abbrev pub MayTime : (cost_may_take : ℕ → ℕ → Type 0) → Plan → Act → Type 0
MayTime cost_may_take plan (Push (Mail f) (Number n)) = (span : ℕ)
    × cost_may_take (cost_of (slice_get plan.functions f.0)) span
    × (n % 2 ^ 40 ≡ min (2 ^ 40 - 1) span)
MayTime cost_may_take plan _ = Unit {0}

abbrev pub AreTimed : (cost_may_take : ℕ → ℕ → Type 0) → Plan → Log → Type 0
AreTimed cost_may_take plan [] = Unit {0}
AreTimed cost_may_take plan (act ∷ before) =
    MayTime cost_may_take plan act × AreTimed cost_may_take plan before

-- in a serial run it is the cost itself
abbrev pub is_cost : ℕ → ℕ → Type 0
is_cost cost span = span ≡ cost

-- One sample between two looks at the weight word

-- how many acts passed the test since the latest look
abbrev pub since_look : FnId → (Act → Bool) → Log → ℕ
since_look f test [] = 0
since_look f test (act ∷ before) = if is_weight_look f act then 0 else one_if (test act) + since_look f test before

-- one sample, mailed or lost, where the function handled a frame since then, and else none
abbrev pub IsEven : FnId → Log → Type 0
IsEven f log = since_look f (is_mailed f) log ≡ one_if (nat_lt 0 (since_look f (is_push_on (Output f)) log))

-- so it is at each look
abbrev pub AreEven : FnId → Log → Type 0
AreEven f [] = Unit {0}
AreEven f (act ∷ before) = (is_weight_look f act ≡ true → IsEven f before) × AreEven f before

-- all that is said of a function's samples in the log of its core
pub record IsSampled (cost_may_take : ℕ → ℕ → Type 0) (plan : Plan) (f : FnId) (log : Log) : Type 0 where
  pub counted : AreSamples log
  pub timed : AreTimed cost_may_take plan log
  pub even : AreEven f log
  pub even_now : IsEven f log
  pub none_left : is_sampled f log ≡ true
