-- What a tick reads of windows, and posts of its lines.
use Rattle.std.specs.Prelude.{ℕ, ◌≡◌, ◌+◌, ◌<◌, Bool, if◌then◌else◌, List, [], ◌∷◌, ◌++◌, length, Option, Some, None, slice_get, slice_index_or}
use Rattle.onvm_base.specs.declared.function.FunctionPlan.{FunctionPlan}
use Rattle.onvm_base.specs.declared.ids.FnId.{FnId}
use Rattle.onvm_base.specs.declared.plan.Plan.{Plan}
use Rattle.onvm_core.specs.declared.layout.Word.TheVariants.{Weight}
use Rattle.onvm_core.specs.declared.step.Act.TheVariants.{Post}
use Rattle.onvm_core.specs.Logs.{Log}
use Rattle.onvm_board.specs.Tokens.{TokenView, grown}
use Rattle.load_estimate.specs.declared.sample.Sample.{Sample}
use Rattle.load_estimate.specs.declared.tick.Share.{Share}
use Rattle.load_estimate.specs.declared.tick.Tick.{Tick}
use Rattle.load_estimate.specs.declared.tick.TickLine.{TickLine}
use Rattle.load_estimate.specs.Windows.{WindowState, empty_window}
use Rattle.cpu_shares.specs.declared.load.Load.{Load}
use Rattle.cpu_shares.specs.Shares.{IsLoad, load_in}
use Rattle.onvm_promises.specs.Kept.{kept_now, samples_by}
use Rattle.onvm_promises.specs.Lines.{function_window}
use Rattle.tick_pass.specs.Taking.{AreInOrder, AreTakes}

-- Loads

-- what the window of a function says
abbrev pub load_at : List WindowState → FnId → Load
load_at windows f = load_in (slice_index_or windows f.0 (empty_window 0)).samples

abbrev pub priority_in : Option FunctionPlan → ℕ
priority_in None = 0
priority_in (Some function) = function.priority

abbrev pub priority_at : List FunctionPlan → FnId → ℕ
priority_at functions f = priority_in (slice_get functions f.0)

-- the windows of all functions, each of which says a load of which shares can be made
pub record AreLoaded (plan : Plan) (windows : List WindowState) : Type 0 where
  pub long : length windows ≡ length plan.functions
  pub each : (f : FnId) → f.0 < length plan.functions → IsLoad (load_at windows f)

-- they are the windows of this moment
abbrev pub AreCurrent : Plan → List Sample → (now : ℕ) → List WindowState → Type 0
AreCurrent plan samples now windows = (f : FnId) → f.0 < length plan.functions
    → load_at windows f ≡ load_in (function_window plan samples now f.0)

-- Posts

abbrev pub post_of : FnId → Option Share → Log
post_of f None = []
post_of f (Some share) = Post (Weight f) share.weight ∷ []

-- the posts of the lines that have a share, the first line that of function f
abbrev pub posts_from : ℕ → List TickLine → Log
posts_from f [] = []
posts_from f (line ∷ lines) = posts_from (f + 1) lines ++ post_of (record { 0 = f }) line.share

-- of a pass that makes a tick, or none

abbrev pub posts_where : (due : Bool) → List TickLine → Log
posts_where due lines = if due then posts_from 0 lines else []

abbrev pub ticks_where : (due : Bool) → Tick → List Tick
ticks_where due tick = if due then tick ∷ [] else []

-- A pass that wasn't cut short

-- it took samples of the functions in order, logged them with this moment, and then posted the weights of the lines with a
-- share, in order, where a tick was due. It did nothing else
pub record IsTurn (functions now : ℕ) (due : Bool) (lines : List TickLine) (before after : TokenView)
    (samples all : List Sample) : Type 0 where
  pub taken : Log
  pub takes : AreTakes (λ f. f.0 < functions) taken
  pub told : all ≡ samples ++ kept_now samples_by now taken
  pub ordered : AreInOrder 0 (kept_now samples_by now taken)
  pub grew : after ≡ grown (posts_where due lines ++ taken) before.hand before
