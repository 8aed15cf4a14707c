-- The functions of a chain as the bits of a number.
use Rattle.std.specs.Int.{bit_at}
use Rattle.std.specs.Prelude.{ℕ, ◌≡◌, ◌==◌, ◌||◌, Bool, false, if◌then◌else◌, List, [], ◌∷◌, length, Option, Some, None, slice_get, IsBitSet}
use Rattle.onvm_base.specs.declared.ids.ChainId.{ChainId}
use Rattle.onvm_base.specs.declared.chain.ChainPlan.{ChainPlan}
use Rattle.onvm_base.specs.declared.chain.ChainStep.{ChainStep}
use Rattle.onvm_base.specs.declared.chain.ChainStep.TheVariants.{To as Service, Out as Port}
use Rattle.onvm_base.specs.declared.function.FunctionPlan.{FunctionPlan}
use Rattle.onvm_base.specs.declared.plan.Plan.{Plan}
use Rattle.onvm_base.specs.Moves.{IsOfChain}

-- the number has the bits of just the chain's functions
pub record IsMask (plan : Plan) (chain : ChainId) (mask : ℕ) : Type 0 where
  pub all : (f : ℕ) → IsOfChain plan chain f → IsBitSet mask f
  pub only : (f : ℕ) → IsBitSet mask f → IsOfChain plan chain f

-- a step names the service
abbrev pub names : List ChainStep → ℕ → Bool
names [] service = false
names (Service s ∷ steps) service = (s == service) || names steps service
names (Port port ∷ steps) service = names steps service

-- a step names the service of the function, if there is one
abbrev pub names_of : List ChainStep → Option FunctionPlan → Bool
names_of steps None = false
names_of steps (Some f) = names steps f.service

-- bit f of the number is 1 exactly where a step names the service of function f
abbrev pub HasBits : List ChainStep → List FunctionPlan → ℕ → Type 0
HasBits steps functions mask =
    (f : ℕ) → bit_at mask f ≡ (if names_of steps (slice_get functions f) then 1 else 0)

-- each chain's mask at its place
pub record AreMasks (plan : Plan) (masks : List ℕ) : Type 0 where
  pub lengths : length masks ≡ length plan.chains
  pub bits : (at : ℕ) (chain : ChainPlan) (mask : ℕ) → slice_get plan.chains at ≡ Some chain → slice_get masks at ≡ Some mask
      → HasBits chain.steps plan.functions mask
