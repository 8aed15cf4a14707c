-- The plan of a file, and its first fault.
use Rattle.std.specs.Prelude.{ℕ, ◌≡◌, ◌≢◌, ◌<◌, ◌⊎◌, Bool, true, false, ◌&&◌, ◌||◌, nat_eq, nat_le, count_by, Option, Some, None, option_and_then, List, map, take, slice_get, codes, IsUtf8, length}
use Rattle.serde_json.specs.Data.{Data}
use Rattle.serde_json.specs.Read.{read}
use Rattle.onvm_base.specs.declared.limits.TheConstants.{MAX_CHAIN_FILE_BYTES}
use Rattle.onvm_base.specs.declared.chain.ChainPlan.{ChainPlan}
use Rattle.onvm_base.specs.declared.function.FunctionPlan.{FunctionPlan}
use Rattle.onvm_base.specs.declared.rules.RulePlan.{RulePlan}
use Rattle.chain_file.specs.declared.file.TheConstants.{MAX_CHAIN_FILE_BRACKETS}
use Rattle.chain_file.specs.declared.fault.Cause.{Cause}
use Rattle.chain_file.specs.declared.fault.Place.{Place}
use Rattle.chain_file.specs.declared.fault.Part.TheVariants as part
use Rattle.chain_file.specs.declared.fault.FileFault.{FileFault}
use Rattle.chain_file.specs.declared.fault.FileFault.TheVariants.{Memory, Json, Limit}
use Rattle.chain_file.specs.declared.judged.Judged.{Judged}
use Rattle.chain_file.specs.declared.top.Sizes.{Sizes}
use Rattle.onvm_base.specs.Plan.{Sizes as PlanSizes}
use Rattle.onvm_base.specs.declared.plan.Plan.{Plan}
use Rattle.onvm_base.specs.declared.ids.ChainId.{ChainId}
use Rattle.chain_file.specs.Causes.{fault_at}
use Rattle.chain_file.specs.Chains.{chain_of, chain_cause, step_in}
use Rattle.chain_file.specs.Functions.{function_in, function_cause}
use Rattle.chain_file.specs.Rules.{rule_in, chain_at}
use Rattle.chain_file.specs.Top.{top_in}
use Rattle.chain_file.specs.Values.{under}

-- ---- places

abbrev pub function_place : ℕ → Place
function_place k = record { part = part.Function; item = k; inner = 0 }

abbrev pub chain_place : ℕ → Place
chain_place k = record { part = part.Chain; item = k; inner = 0 }

abbrev pub step_place : ℕ → ℕ → Place
step_place k j = record { part = part.Step; item = k; inner = j }

abbrev pub rule_place : ℕ → Place
rule_place k = record { part = part.Rule; item = k; inner = 0 }

abbrev pub file_place : Place
file_place = record { part = part.File; item = 0; inner = 0 }

abbrev pub top_place : Place
top_place = record { part = part.Top; item = 0; inner = 0 }

abbrev pub default_place : Place
default_place = record { part = part.Default; item = 0; inner = 0 }

-- ---- lists

-- the cause of the k-th item, judged behind the items before it. Behind the last there is none
abbrev pub cause_at : (List Data → Data → Option Cause) → List Data → ℕ → Option Cause
cause_at judge ds k = option_and_then (judge (take k ds)) (slice_get ds k)

-- the fault tells this cause at this place, unless it is want of memory
abbrev pub Tells : Place → Option Cause → FileFault → Type 0
Tells place cause fault = fault ≢ Memory → (told : Cause) × (cause ≡ Some told) × (fault ≡ fault_at told place)

-- the fault tells the first cause of a list, unless it is want of memory
abbrev pub TellsFirst : (ℕ → Place) → (ℕ → Option Cause) → FileFault → Type 0
TellsFirst place cause fault = fault ≢ Memory
    → (k : ℕ) × (told : Cause) × (cause k ≡ Some told) × ((i : ℕ) → i < k → cause i ≡ None) × (fault ≡ fault_at told (place k))

-- ---- functions

abbrev pub functions_of : (cores : ℕ) (guests : List (List ℕ)) → List Data → List FunctionPlan
functions_of cores guests ds = map (λ d. (function_in cores guests d).value) ds

abbrev pub function_cause_in : (cores : ℕ) (guests : List (List ℕ)) → List Data → Data → Option Cause
function_cause_in cores guests before d = function_cause (functions_of cores guests before) (function_in cores guests d)

abbrev pub function_cause_at : (cores : ℕ) (guests : List (List ℕ)) → List Data → ℕ → Option Cause
function_cause_at cores guests ds k = cause_at (function_cause_in cores guests) ds k

-- ---- chains and steps

abbrev pub chains_of : (ports : ℕ) → List FunctionPlan → List Data → List ChainPlan
chains_of ports functions ds = map (λ d. chain_of ports functions d) ds

abbrev pub chain_cause_in : (ports : ℕ) → List FunctionPlan → List Data → Data → Option Cause
chain_cause_in ports functions before d = chain_cause (chains_of ports functions before) d

abbrev pub chain_cause_at : (ports : ℕ) → List FunctionPlan → List Data → ℕ → Option Cause
chain_cause_at ports functions ds k = cause_at (chain_cause_in ports functions) ds k

-- the cause of the j-th step of these
abbrev pub step_cause_at : (ports : ℕ) → List FunctionPlan → List Data → ℕ → Option Cause
step_cause_at ports functions ds j = cause_at (λ before d. (step_in ports functions d).cause) ds j

-- the cause of the j-th step of the k-th chain
abbrev pub steps_cause_at : (ports : ℕ) → List FunctionPlan → List Data → (k j : ℕ) → Option Cause
steps_cause_at ports functions ds k j = option_and_then (λ d. step_cause_at ports functions (under (codes "steps") d) j) (slice_get ds k)

-- the chains before the k-th have no cause, nor have their steps
pub record AreRightBefore (ports : ℕ) (functions : List FunctionPlan) (ds : List Data) (k : ℕ) : Type 0 where
  pub chains : (i : ℕ) → i < k → chain_cause_at ports functions ds i ≡ None
  pub steps : (i j : ℕ) → i < k → steps_cause_at ports functions ds i j ≡ None

-- the fault is the first of the chains and their steps, unless it is want of memory. A chain comes before its steps
abbrev pub TellsFirstChain : (ports : ℕ) → List FunctionPlan → List Data → FileFault → Type 0
TellsFirstChain ports functions ds fault = fault ≢ Memory
    → (k : ℕ) × AreRightBefore ports functions ds k
    × (Tells (chain_place k) (chain_cause_at ports functions ds k) fault
    ⊎ ((chain_cause_at ports functions ds k ≡ None) × TellsFirst (step_place k) (steps_cause_at ports functions ds k) fault))

-- ---- rules

abbrev pub rules_of : List ChainPlan → List Data → List RulePlan
rules_of chains ds = map (λ d. (rule_in chains d).value) ds

abbrev pub rule_cause_at : List ChainPlan → List Data → ℕ → Option Cause
rule_cause_at chains ds k = cause_at (λ before d. (rule_in chains d).cause) ds k

-- ---- the file

-- what the file is made of, read for so many captures and with these guests
abbrev pub sizes_of : (captures : ℕ) → Data → Sizes
sizes_of captures d = (top_in captures d).value

abbrev pub function_list : (captures : ℕ) (guests : List (List ℕ)) → Data → List FunctionPlan
function_list captures guests d = functions_of (sizes_of captures d).cores guests (under (codes "functions") d)

abbrev pub chain_list : (captures : ℕ) (guests : List (List ℕ)) → Data → List ChainPlan
chain_list captures guests d = chains_of (sizes_of captures d).ports (function_list captures guests d) (under (codes "chains") d)

abbrev pub rule_list : (captures : ℕ) (guests : List (List ℕ)) → Data → List RulePlan
rule_list captures guests d = rules_of (chain_list captures guests d) (under (codes "rules") d)

abbrev pub default_of : (captures : ℕ) (guests : List (List ℕ)) → Data → Judged ChainId
default_of captures guests d = chain_at (chain_list captures guests d) (codes "default") d

-- ---- the places of a file without a cause

abbrev pub TopIsRight : (captures : ℕ) → Data → Type 0
TopIsRight captures d = (top_in captures d).cause ≡ None

abbrev pub FunctionsAreRight : (captures : ℕ) (guests : List (List ℕ)) → Data → Type 0
FunctionsAreRight captures guests d =
    (k : ℕ) → function_cause_at (sizes_of captures d).cores guests (under (codes "functions") d) k ≡ None

pub record ChainsAreRight (captures : ℕ) (guests : List (List ℕ)) (d : Data) : Type 0 where
  pub chains : (k : ℕ) → chain_cause_at (sizes_of captures d).ports (function_list captures guests d) (under (codes "chains") d) k ≡ None
  pub steps : (k j : ℕ) → steps_cause_at (sizes_of captures d).ports (function_list captures guests d) (under (codes "chains") d) k j ≡ None

abbrev pub RulesAreRight : (captures : ℕ) (guests : List (List ℕ)) → Data → Type 0
RulesAreRight captures guests d = (k : ℕ) → rule_cause_at (chain_list captures guests d) (under (codes "rules") d) k ≡ None

-- the numbers of a plan
abbrev pub numbers_of : Plan → Sizes
numbers_of plan = record {
  version = plan.version;
  ports = plan.ports;
  transmit = plan.transmit;
  cores = plan.cores;
  buffers = plan.buffers;
  ring = plan.ring;
  output = plan.output;
  burst = plan.burst;
  high = plan.high;
  low = plan.low;
  age = plan.age;
  window = plan.window;
  tick = plan.tick;
}

-- the same, as the rules of a plan name them
abbrev pub plan_sizes : Sizes → PlanSizes
plan_sizes s = record {
  version = s.version;
  ports = s.ports;
  transmit = s.transmit;
  cores = s.cores;
  buffers = s.buffers;
  ring = s.ring;
  output = s.output;
  burst = s.burst;
  high = s.high;
  low = s.low;
  age = s.age;
  window = s.window;
  tick = s.tick;
}

-- the tree is this plan: no place has a cause, and each part is what stands there
pub record IsPlanOf (captures : ℕ) (guests : List (List ℕ)) (d : Data) (plan : Plan) : Type 0 where
  pub top : TopIsRight captures d
  pub functions : FunctionsAreRight captures guests d
  pub chains : ChainsAreRight captures guests d
  pub rules : RulesAreRight captures guests d
  pub default : (default_of captures guests d).cause ≡ None
  pub sizes_are : numbers_of plan ≡ sizes_of captures d
  pub functions_are : plan.functions ≡ function_list captures guests d
  pub chains_are : plan.chains ≡ chain_list captures guests d
  pub rules_are : plan.rules ≡ rule_list captures guests d
  pub default_is : plan.default ≡ (default_of captures guests d).value

-- two plans of one content
pub record IsSamePlan (plan other : Plan) : Type 0 where
  pub numbers : numbers_of plan ≡ numbers_of other
  pub functions : plan.functions ≡ other.functions
  pub chains : plan.chains ≡ other.chains
  pub rules : plan.rules ≡ other.rules
  pub default : plan.default ≡ other.default

-- the fault is the tree's first one, unless it is want of memory: of the top object; or of the functions, and the top is
-- right; or of the chains, and what comes before them is right; or of the rules; or of the default
pub data IsFaultOf (captures : ℕ) (guests : List (List ℕ)) (d : Data) (fault : FileFault) : Type 0 where
  of_memory : fault ≡ Memory → IsFaultOf captures guests d fault
  of_top : Tells top_place (top_in captures d).cause fault → IsFaultOf captures guests d fault
  of_functions : TopIsRight captures d
      → TellsFirst function_place (function_cause_at (sizes_of captures d).cores guests (under (codes "functions") d)) fault
      → IsFaultOf captures guests d fault
  of_chains : TopIsRight captures d → FunctionsAreRight captures guests d
      → TellsFirstChain (sizes_of captures d).ports (function_list captures guests d) (under (codes "chains") d) fault
      → IsFaultOf captures guests d fault
  of_rules : TopIsRight captures d → FunctionsAreRight captures guests d → ChainsAreRight captures guests d
      → TellsFirst rule_place (rule_cause_at (chain_list captures guests d) (under (codes "rules") d)) fault
      → IsFaultOf captures guests d fault
  of_default : TopIsRight captures d → FunctionsAreRight captures guests d → ChainsAreRight captures guests d
      → RulesAreRight captures guests d
      → Tells default_place (default_of captures guests d).cause fault → IsFaultOf captures guests d fault

-- ---- the text of a file

-- a bracket that opens a list or an object, or stands in a text
abbrev pub is_opening : ℕ → Bool
is_opening byte = nat_eq byte 91 || nat_eq byte 123

abbrev pub openings : List ℕ → ℕ
openings bytes = count_by is_opening bytes

-- the file has few enough bytes and brackets
abbrev pub is_within : List ℕ → Bool
is_within bytes = nat_le (length bytes) MAX_CHAIN_FILE_BYTES && nat_le (openings bytes) MAX_CHAIN_FILE_BRACKETS

-- the bytes are this tree
abbrev pub IsTree : List ℕ → Data → Type 0
IsTree bytes tree = IsUtf8 bytes × (read bytes ≡ Some tree)

-- the file is this plan
pub record IsRead (bytes : List ℕ) (captures : ℕ) (guests : List (List ℕ)) (plan : Plan) : Type 0 where
  pub within : is_within bytes ≡ true
  pub tree : Data
  pub is : IsTree bytes tree
  pub plan_is : IsPlanOf captures guests tree plan

-- why a file is refused: it is too large or has too many brackets; or it is no JSON; or by the first fault of its tree; or for want of memory
pub data IsRefused (bytes : List ℕ) (captures : ℕ) (guests : List (List ℕ)) (fault : FileFault) : Type 0 where
  by_memory : fault ≡ Memory → IsRefused bytes captures guests fault
  by_size : fault ≡ Limit file_place → is_within bytes ≡ false → IsRefused bytes captures guests fault
  by_text : fault ≡ Json → is_within bytes ≡ true → (IsUtf8 bytes → read bytes ≡ None) → IsRefused bytes captures guests fault
  by_tree : (tree : Data) → is_within bytes ≡ true → IsTree bytes tree → IsFaultOf captures guests tree fault → IsRefused bytes captures guests fault
