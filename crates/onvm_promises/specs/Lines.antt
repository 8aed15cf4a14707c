-- What a tick says of each function: the window of its samples, its share of its core, and its weight.
use Rattle.std.specs.Prelude.{ℕ, ◌+◌, ◌==◌, if◌then◌else◌, List, [], ◌∷◌, ◌++◌, map, Option, Some, None, slice_get}
use Rattle.onvm_base.specs.declared.function.FunctionPlan.{FunctionPlan}
use Rattle.onvm_base.specs.declared.plan.Plan.{Plan}
use Rattle.load_estimate.specs.declared.sample.Sample.{Sample}
use Rattle.load_estimate.specs.declared.tick.Share.{Share}
use Rattle.load_estimate.specs.declared.tick.Tick.{Tick}
use Rattle.load_estimate.specs.declared.tick.TickLine.{TickLine}
use Rattle.load_estimate.specs.Windows.{arrivals_of, median_of, window_of}
use Rattle.cpu_shares.specs.declared.load.Load.{Load}
use Rattle.cpu_shares.specs.Shares.{load_in, load_of, share_of, total_of}
use Rattle.nf_registry.specs.Places.{residents}

-- the samples of a function
abbrev pub samples_of : (function : ℕ) → List Sample → List Sample
samples_of f [] = []
samples_of f (sample ∷ samples) =
    if sample.function.0 == f then sample ∷ samples_of f samples else samples_of f samples

-- a function's window at a moment
abbrev pub function_window : Plan → List Sample → (now function : ℕ) → List Sample
function_window plan samples now f = window_of plan.window now (samples_of f samples)

abbrev pub function_load : Plan → List Sample → (now function : ℕ) → Load
function_load plan samples now f = load_in (function_window plan samples now f)

-- the loads of the functions of a core
abbrev pub core_loads : Plan → List Sample → (now core : ℕ) → List Load
core_loads plan samples now core =
    map (λ f. function_load plan samples now f.0) (residents core plan.functions)

-- a function's share of its core
abbrev pub function_share : Plan → List Sample → (now f : ℕ) → FunctionPlan → Option Share
function_share plan samples now f function =
    share_of function.priority (load_of (function_load plan samples now f))
    (total_of (core_loads plan samples now function.core))

-- Weights

-- without a share the weight stays as it was
abbrev pub weight_or : Option Share → ℕ → ℕ
weight_or None was = was
weight_or (Some share) was = share.weight

abbrev pub share_in : Option TickLine → Option Share
share_in None = None
share_in (Some line) = line.share

-- the share that a tick gives a function
abbrev pub share_at : Tick → (function : ℕ) → Option Share
share_at tick f = share_in (slice_get tick.lines f)

-- a function's weight in force after these ticks, the oldest first
abbrev pub weight_after : (function : ℕ) → ℕ → List Tick → ℕ
weight_after f was [] = was
weight_after f was (tick ∷ ticks) = weight_after f (weight_or (share_at tick f) was) ticks

-- Lines

-- the line of a function in a tick that comes behind these earlier ones
abbrev pub line_of : Plan → (earlier : List Tick) → List Sample → (now f : ℕ) → FunctionPlan → TickLine
line_of plan earlier samples now f function =
    record {
      arrivals = arrivals_of (function_window plan samples now f);
      median = median_of (function_window plan samples now f);
      share = function_share plan samples now f function;
      weight = weight_or (function_share plan samples now f function) (weight_after f function.weight earlier);
    }

-- the lines of these functions, which are numbered from f
abbrev pub lines_from : Plan → (earlier : List Tick) → List Sample → (now f : ℕ) → List FunctionPlan → List TickLine
lines_from plan earlier samples now f [] = []
lines_from plan earlier samples now f (function ∷ functions) =
    line_of plan earlier samples now f function ∷ lines_from plan earlier samples now (f + 1) functions

abbrev pub lines_of : Plan → (earlier : List Tick) → List Sample → (now : ℕ) → List TickLine
lines_of plan earlier samples now = lines_from plan earlier samples now 0 plan.functions

-- the weights that ticks post on a function's weight word, in order: those of its lines with a share

abbrev pub weight_posted : Option Share → List ℕ
weight_posted None = []
weight_posted (Some share) = share.weight ∷ []

abbrev pub weights_posted : (function : ℕ) → List Tick → List ℕ
weights_posted f [] = []
weights_posted f (tick ∷ ticks) = weight_posted (share_at tick f) ++ weights_posted f ticks
