-- Where a frame of a chain of the plan enters: at a function of the plan, or out of a port.
use Rattle.std.proofs.Common.{◌≡◌, ℕ, suc, ◌+◌, ◌%◌, ◌<◌, ◌≤◌, inl, inr, ◌⊎◌, Bool, true, false, List, [], ◌∷◌, length, sym, ap, ◌∙◌, subst, arith, Option, Some, None, mod-lt, All, get_or, refl}
use Rattle.std.specs.Prelude.{◌≢◌, ◌==◌, slice_get, slice_index, if◌then◌else◌, option_and_then}
use Rattle.std.proofs.lemmas.Bool.{cases_Bool}
use Rattle.std.proofs.lemmas.List.Elements.{All-nil, All-cons, All-get_or, All-head, All-tail}
use Rattle.std.proofs.lemmas.Option.{slice_get_cases}
use Rattle.onvm_base.specs.declared.chain.ChainPlan.{ChainPlan}
use Rattle.onvm_base.specs.declared.chain.ChainStep.{ChainStep}
use Rattle.onvm_base.specs.declared.chain.ChainStep.TheVariants.{To as Service, Out as Port}
use Rattle.onvm_base.specs.declared.function.FunctionPlan.{FunctionPlan}
use Rattle.onvm_base.specs.declared.ids.ChainId.{ChainId}
use Rattle.onvm_base.specs.declared.ids.FnId.{FnId}
use Rattle.onvm_base.specs.declared.moves.Move.{Move}
use Rattle.onvm_base.specs.declared.moves.Move.TheVariants.{To, Leave, End}
use Rattle.onvm_base.specs.declared.ids.PortId.{PortId}
use Rattle.onvm_base.specs.declared.rules.RulePlan.{RulePlan}
use Rattle.onvm_packet.specs.declared.heads.Heads.{Heads}
use Rattle.rule_match.specs.Rules.{chain_of, first_chain, rule_holds}
use Rattle.onvm_base.specs.declared.outcome.Why.{Why}
use Rattle.onvm_base.specs.declared.plan.Plan.{Plan}
use Rattle.onvm_base.specs.Moves.{enter, step_at, to_one_of, to_step}
use Rattle.onvm_base.specs.Plan.{IsChainPlan, IsRule, IsStep}
use Rattle.onvm_base.specs.Services.{instances, instances_from}
use Rattle.rx_pass.specs.Chains.{IsChainOfPlan}

-- the frame goes in: it meets a function of the plan, or leaves
pub record GoesIn (plan : Plan) (move : Move) : Type 0 where
  pub on : (f : FnId) (c : ℕ) → move ≡ To f c → f.0 < length plan.functions
  pub ends : (why : Why) → move ≡ End why → ⊥

instances_below : (n service : ℕ) (fs : List FunctionPlan)
    → All (λ k. k < n + length fs) (instances_from n service fs)
instances_below n service [] = All-nil (λ k. k < n + 0)
instances_below n service (f ∷ fs) =
    let later : All (λ k. k < n + suc (length fs)) (instances_from (n + 1) service fs) =
    subst (λ m. All (λ k. k < m) (instances_from (n + 1) service fs)) (omega arith)
    (instances_below (n + 1) service fs) in
    elim (cases_Bool (f.service == service)) [
      | inl met ↦
          rw met (All-cons (λ k. k < n + suc (length fs)) n (instances_from (n + 1) service fs) (omega arith) later)
      | inr unmet ↦ rw unmet later
    ]

all_instances : (plan : Plan) (service : ℕ) → All (λ k. k < length plan.functions) (instances service plan.functions)
all_instances plan service =
    subst (λ m. All (λ k. k < m) (instances_from 0 service plan.functions)) (omega arith)
    (instances_below 0 service plan.functions)

to_one : (plan : Plan) (fs : List ℕ) (hash : ℕ) → All (λ k. k < length plan.functions) fs → fs ≢ []
    → GoesIn plan (to_one_of fs 0 0 hash)
to_one plan [] hash below some = absurd (some refl)
to_one plan (k ∷ ks) hash below some =
    record {
      on = λ f c is.
          let at : slice_index (k ∷ ks) (hash % length (k ∷ ks)) ≡ f.0 = cc in
          subst (λ x. x < length plan.functions) at
          (All-get_or (λ x. x < length plan.functions) (k ∷ ks) (hash % length (k ∷ ks)) 0 (mod-lt hash (omega arith)) below);
      ends = λ why is. cc;
    }

to_a_step : (plan : Plan) (step : ChainStep) (hash : ℕ) → IsStep plan.ports plan.functions step
    → GoesIn plan (to_step plan (Some step) 0 0 hash)
to_a_step plan (Service service) hash is =
    to_one plan (instances service plan.functions) hash (all_instances plan service) (is.service service refl)
to_a_step plan (Port port) hash is = record { on = λ f c e. cc; ends = λ why e. cc }

first_step : (plan : Plan) (chain : ChainPlan) (hash : ℕ) → IsChainPlan plan.ports plan.functions chain
    → GoesIn plan (to_step plan (slice_get chain.steps 0) 0 0 hash)
first_step plan chain hash is =
    elim ((slice_get_cases chain.steps 0).1) [
      | inl found ↦
          let step = found.0 in
          let P : Option ChainStep → Type 0 = λ s. GoesIn plan (to_step plan s 0 0 hash) in
          let Q : ChainStep → Type 0 = λ s. IsStep plan.ports plan.functions s in
          subst P (sym found.2)
          (to_a_step plan step hash
          (subst Q found.3 (All-get_or (IsStep plan.ports plan.functions) chain.steps 0 step found.1 is.steps)))
      | inr past ↦ absurd (omega (arith, past.0, is.length_of.0))
    ]

-- a frame of a chain of the plan goes in
pub goes_in : (plan : Plan) (chain : ChainId) (hash : ℕ) → IsChainOfPlan plan chain → GoesIn plan (enter plan chain hash)
goes_in plan chain hash known =
    elim ((slice_get_cases plan.chains chain.0).1) [
      | inl found ↦
          let c = found.0 in
          let P : Option ChainPlan → Type 0 = λ x. GoesIn plan (to_step plan (option_and_then (λ (y : ChainPlan). slice_get y.steps 0) x) 0 0 hash) in
          let Q : ChainPlan → Type 0 = λ x. IsChainPlan plan.ports plan.functions x in
          subst P (sym found.2)
          (first_step plan c hash
          (subst Q found.3
          (All-get_or (IsChainPlan plan.ports plan.functions) plan.chains chain.0 c found.1 plan.kept.chains_are)))
      | inr past ↦ absurd (omega (arith, past.0, known))
    ]

-- the chain that rules pick is the plan's
picked_known : (plan : Plan) (port : PortId) (heads : Heads) (n : ℕ) (rules : List RulePlan) (default : ChainId)
    → All (IsRule n) rules → default.0 < n → (chain_of rules default port heads).0 < n
picked_known plan port heads n [] default are known = known
picked_known plan port heads n (rule ∷ rules) default are known =
    elim (cases_Bool (rule_holds port heads rule)) [
      | inl met ↦ rw met ((All-head (IsRule n) rule rules are).chain)
      | inr unmet ↦ rw unmet (picked_known plan port heads n rules default (All-tail (IsRule n) rule rules are) known)
    ]

pub chain_known : (plan : Plan) (port : PortId) (heads : Heads)
    → IsChainOfPlan plan (chain_of plan.rules plan.default port heads)
chain_known plan port heads =
    picked_known plan port heads (length plan.chains) plan.rules plan.default plan.kept.rules_are plan.kept.default_is
