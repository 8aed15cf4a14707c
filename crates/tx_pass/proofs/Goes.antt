-- Where a verdict can send a frame.
use Rattle.std.proofs.Common.{◌≡◌, ℕ, suc, ◌+◌, ◌%◌, ◌<◌, inl, inr, Bool, true, false, List, [], ◌∷◌, length, sym, ap, ◌∙◌, subst, arith, Option, Some, None, mod-lt, All}
use Rattle.std.specs.Prelude.{◌≢◌, ◌==◌, nat_lt, slice_index, if◌then◌else◌}
use Rattle.std.proofs.lemmas.Bool.{cases_Bool, eqb-false}
use Rattle.std.proofs.lemmas.List.Elements.{All-nil, All-cons, All-get_or}
use Rattle.onvm_base.specs.declared.chain.ChainStep.{ChainStep}
use Rattle.onvm_base.specs.declared.chain.ChainStep.TheVariants.{To as Service, Out as Port}
use Rattle.onvm_base.specs.declared.function.FunctionPlan.{FunctionPlan}
use Rattle.onvm_base.specs.declared.ids.ChainId.{ChainId}
use Rattle.onvm_base.specs.declared.ids.FnId.{FnId}
use Rattle.onvm_base.specs.declared.limits.TheConstants.{MAX_HOPS}
use Rattle.onvm_base.specs.declared.moves.Move.TheVariants.{To, Leave, End}
use Rattle.onvm_base.specs.declared.outcome.Why.TheVariants.{Hops, NoPort}
use Rattle.onvm_base.specs.declared.outcome.Verdict.{Verdict}
use Rattle.onvm_base.specs.declared.outcome.Verdict.TheVariants.{Drop, Next, ToService, Out}
use Rattle.onvm_base.specs.declared.plan.Plan.{Plan}
use Rattle.onvm_base.specs.Moves.{step, step_at, to_one_of, to_step}
use Rattle.onvm_base.specs.Services.{instances_from}

-- a function of the plan, after fewer than 32 hops
record IsOn (plan : Plan) (hops : ℕ) (f : FnId) : Type 0 where
  pub known : f.0 < length plan.functions
  pub few : hops ≢ MAX_HOPS

pub instances_below : (n service : ℕ) (fs : List FunctionPlan)
    → All (λ k. k < n + length fs) (instances_from n service fs)
instances_below n service [] = All-nil (λ k. k < n + 0)
instances_below n service (f ∷ fs) =
    let later : All (λ k. k < n + suc (length fs)) (instances_from (n + 1) service fs) =
    subst (λ m. All (λ k. k < m) (instances_from (n + 1) service fs)) (omega arith)
    (instances_below (n + 1) service fs) in
    elim (cases_Bool (f.service == service)) [
      | inl met ↦
          rw met (All-cons (λ k. k < n + suc (length fs)) n (instances_from (n + 1) service fs) (omega arith) later)
      | inr unmet ↦ rw unmet later
    ]

all_instances : (plan : Plan) (service : ℕ)
    → All (λ k. k < length plan.functions) (instances_from 0 service plan.functions)
all_instances plan service =
    subst (λ m. All (λ k. k < m) (instances_from 0 service plan.functions)) (omega arith)
    (instances_below 0 service plan.functions)

one_of : (plan : Plan) (fs : List ℕ) (cursor hops hash : ℕ) (f : FnId) (c : ℕ) → All (λ k. k < length plan.functions) fs
    → to_one_of fs cursor hops hash ≡ To f c → IsOn plan hops f
one_of plan [] cursor hops hash f c below is = cc
one_of plan (k ∷ ks) cursor hops hash f c below is =
    elim (cases_Bool (hops == MAX_HOPS)) [
      | inl met ↦ let off : End Hops ≡ To f c = sym (by_hops true met) ∙ is in cc
      | inr unmet ↦
          let on : To (record { 0 = slice_index (k ∷ ks) (hash % length (k ∷ ks)) }) cursor ≡ To f c =
          sym (by_hops false unmet) ∙ is in
          let at : slice_index (k ∷ ks) (hash % length (k ∷ ks)) ≡ f.0 = cc in
          record {
            known = subst (λ x. x < length plan.functions) at
                (All-get_or (λ x. x < length plan.functions) (k ∷ ks) (hash % length (k ∷ ks)) 0
                (mod-lt hash (omega arith)) below);
            few = eqb-false hops MAX_HOPS unmet;
          }
    ]
  where
    by_hops : (b : Bool) → (hops == MAX_HOPS) ≡ b → to_one_of (k ∷ ks) cursor hops hash
        ≡ (if b then End Hops else To (record { 0 = slice_index (k ∷ ks) (hash % length (k ∷ ks)) }) cursor)
    by_hops b e = ap (λ (x : Bool). if x then End Hops
        else To (record { 0 = slice_index (k ∷ ks) (hash % length (k ∷ ks)) }) cursor) e

to_step_on : (plan : Plan) (at : Option ChainStep) (cursor hops hash : ℕ) (f : FnId) (c : ℕ)
    → to_step plan at cursor hops hash ≡ To f c → IsOn plan hops f
to_step_on plan None cursor hops hash f c is = cc
to_step_on plan (Some (Service service)) cursor hops hash f c is =
    one_of plan (instances_from 0 service plan.functions) cursor hops hash f c (all_instances plan service) is
to_step_on plan (Some (Port port)) cursor hops hash f c is = cc

pub goes_on : (plan : Plan) (chain : ChainId) (cursor hops : ℕ) (verdict : Verdict) (hash : ℕ) (f : FnId) (c : ℕ)
    → step plan chain cursor hops verdict hash ≡ To f c → (f.0 < length plan.functions) × (hops ≢ MAX_HOPS)
goes_on plan chain cursor hops Drop hash f c is = cc
goes_on plan chain cursor hops Next hash f c is =
    let on = to_step_on plan (step_at plan chain (cursor + 1)) (cursor + 1) hops hash f c is in (on.known, on.few)
goes_on plan chain cursor hops (ToService service) hash f c is =
    let on = one_of plan (instances_from 0 service plan.functions) cursor hops hash f c
    (all_instances plan service) is in
    (on.known, on.few)
goes_on plan chain cursor hops (Out port) hash f c is =
    elim (cases_Bool (nat_lt port plan.ports)) [
      | inl met ↦ let off : Leave port ≡ To f c = sym (by_port true met) ∙ is in cc
      | inr unmet ↦ let off : End NoPort ≡ To f c = sym (by_port false unmet) ∙ is in cc
    ]
  where
    by_port : (b : Bool) → nat_lt port plan.ports ≡ b
        → step plan chain cursor hops (Out port) hash ≡ (if b then Leave port else End NoPort)
    by_port b e = ap (λ (x : Bool). if x then Leave port else End NoPort) e
