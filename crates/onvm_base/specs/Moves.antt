-- Where a frame goes: as it enters, and after each verdict. Which functions its chain names.
use Rattle.std.specs.Prelude.{ℕ, ◌≡◌, ◌+◌, ◌%◌, ◌==◌, nat_lt, if◌then◌else◌, List, [], ◌∷◌, length, Option, Some, None, slice_get, slice_index, option_and_then}
use Rattle.onvm_base.specs.declared.ids.ChainId.{ChainId}
use Rattle.onvm_base.specs.declared.outcome.Verdict.{Verdict}
use Rattle.onvm_base.specs.declared.outcome.Verdict.TheVariants.{Drop, Next, ToService, Out}
use Rattle.onvm_base.specs.declared.outcome.Why.TheVariants.{Asked, ChainEnd, NoService, NoPort, Hops}
use Rattle.onvm_base.specs.declared.chain.ChainStep.{ChainStep}
use Rattle.onvm_base.specs.declared.chain.ChainStep.TheVariants.{To as Service, Out as Port}
use Rattle.onvm_base.specs.declared.limits.TheConstants.{MAX_HOPS}
use Rattle.onvm_base.specs.declared.moves.Move.{Move}
use Rattle.onvm_base.specs.declared.moves.Move.TheVariants.{To, Leave, End}
use Rattle.onvm_base.specs.declared.plan.Plan.{Plan}
use Rattle.onvm_base.specs.Services.{instances}

-- to the instance that the flow hash picks. None is told before too many hops are
abbrev pub to_one_of : List ℕ → (cursor hops hash : ℕ) → Move
to_one_of [] cursor hops hash = End NoService
to_one_of (f ∷ fs) cursor hops hash =
    if hops == MAX_HOPS then End Hops else To (record { 0 = slice_index (f ∷ fs) (hash % length (f ∷ fs)) }) cursor

abbrev pub to_service : Plan → (service cursor hops hash : ℕ) → Move
to_service plan service cursor hops hash = to_one_of (instances service plan.functions) cursor hops hash

-- to what a step names, or behind the last step nowhere
abbrev pub to_step : Plan → Option ChainStep → (cursor hops hash : ℕ) → Move
to_step plan None cursor hops hash = End ChainEnd
to_step plan (Some (Service service)) cursor hops hash = to_service plan service cursor hops hash
to_step plan (Some (Port port)) cursor hops hash = Leave port

-- the step of a chain at a cursor. A chain that the plan doesn't have is one without steps
abbrev pub step_at : Plan → ChainId → ℕ → Option ChainStep
step_at plan chain cursor = option_and_then (λ c. slice_get c.steps cursor) (slice_get plan.chains chain.0)

-- where a frame of this chain and flow hash enters
abbrev pub enter : Plan → ChainId → ℕ → Move
enter plan chain hash = to_step plan (step_at plan chain 0) 0 0 hash

-- where a frame goes on this verdict, at this cursor of its chain and after so many hops
abbrev pub step : Plan → ChainId → (cursor hops : ℕ) → Verdict → ℕ → Move
step plan chain cursor hops Drop hash = End Asked
step plan chain cursor hops Next hash = to_step plan (step_at plan chain (cursor + 1)) (cursor + 1) hops hash
step plan chain cursor hops (ToService service) hash = to_service plan service cursor hops hash
step plan chain cursor hops (Out port) hash = if nat_lt port plan.ports then Leave port else End NoPort

-- the function is an instance of a service that a step of the chain names
pub record IsOfChain (plan : Plan) (chain : ChainId) (f : ℕ) : Type 0 where
  pub at : ℕ
  pub service : ℕ
  pub named : step_at plan chain at ≡ Some (Service service)
  pub place : ℕ
  pub found : slice_get (instances service plan.functions) place ≡ Some f
