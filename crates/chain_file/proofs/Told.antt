-- A tree is a plan or has a fault, and not both.
use Rattle.std.proofs.Common.{◌≡◌, ◌≢◌, ℕ, ◌≤◌, ◌<◌, ◌⊎◌, List, Option, Some, None, inl, inr, refl, sym, ap, ◌∙◌, subst, arith}
use Rattle.std.proofs.lemmas.Bool.{cases_lt}
use Rattle.serde_json.specs.Data.{Data}
use Rattle.chain_file.specs.declared.fault.FileFault.{FileFault}
use Rattle.chain_file.specs.declared.fault.FileFault.TheVariants as fault
use Rattle.chain_file.specs.declared.fault.FileFault.TheVariants.{Memory}
use Rattle.onvm_base.specs.declared.function.FunctionPlan.{FunctionPlan}
use Rattle.chain_file.specs.Causes.{fault_at}
use Rattle.chain_file.specs.declared.fault.Place.{Place}
use Rattle.chain_file.specs.declared.fault.Cause.{Cause}
use Rattle.onvm_base.specs.declared.plan.Plan.{Plan}
use Rattle.chain_file.specs.File.{IsPlanOf, IsFaultOf, of_memory, of_top, of_functions, of_chains, of_rules, of_default, Tells, TellsFirst, TellsFirstChain, AreRightBefore, chain_place, step_place, chain_cause_at, steps_cause_at}

not_both : {A : Type 0} (o : Option A) (x : A) → o ≡ None → o ≡ Some x → ⊥
not_both o x none some = grind arith

untold : (place : Place) (cause : Option Cause) (fault : FileFault) → cause ≡ None → Tells place cause fault → fault ≢ Memory → ⊥
untold place cause fault none told not_memory = not_both cause (told not_memory).0 none (told not_memory).1

none_told : (place : ℕ → Place) (cause : ℕ → Option Cause) (fault : FileFault) → ((k : ℕ) → cause k ≡ None) → TellsFirst place cause fault → fault ≢ Memory → ⊥
none_told place cause fault none told not_memory =
    let t = told not_memory in
    not_both (cause t.0) t.1 (none t.0) t.2

pub plan_has_no_fault : (captures : ℕ) (guests : List (List ℕ)) (d : Data) (plan : Plan) (fault : FileFault)
    → IsPlanOf captures guests d plan → IsFaultOf captures guests d fault → fault ≢ Memory → ⊥
plan_has_no_fault captures guests d plan fault p (of_memory e) n = n e
plan_has_no_fault captures guests d plan fault p (of_top told) n = untold _ _ fault p.top told n
plan_has_no_fault captures guests d plan fault p (of_functions top told) n = none_told _ _ fault p.functions told n
plan_has_no_fault captures guests d plan fault p (of_chains top functions told) n =
    let t = told n in
    elim t.2 as (λ x. ⊥) [
      | inl here ↦ untold _ _ fault (p.chains.chains t.0) here n
      | inr steps ↦ none_told _ _ fault (p.chains.steps t.0) steps.1 n
    ]
plan_has_no_fault captures guests d plan fault p (of_rules top functions chains told) n = none_told _ _ fault p.rules told n
plan_has_no_fault captures guests d plan fault p (of_default top functions chains rules told) n = untold _ _ fault p.default told n

-- ---- one first fault

memory_by : (fault : FileFault) → (fault ≢ Memory → ⊥) → fault ≡ Memory
memory_by fault.Json h = absurd (h (λ e. let off : fault.Json ≡ Memory = e in cc))
memory_by (fault.Shape place) h = absurd (h (λ e. let off : fault.Shape place ≡ Memory = e in cc))
memory_by (fault.Unknown place) h = absurd (h (λ e. let off : fault.Unknown place ≡ Memory = e in cc))
memory_by (fault.Limit place) h = absurd (h (λ e. let off : fault.Limit place ≡ Memory = e in cc))
memory_by (fault.Twice place) h = absurd (h (λ e. let off : fault.Twice place ≡ Memory = e in cc))
memory_by (fault.Marks place) h = absurd (h (λ e. let off : fault.Marks place ≡ Memory = e in cc))
memory_by Memory h = refl

pub only_memory : (captures : ℕ) (guests : List (List ℕ)) (d : Data) (plan : Plan) (fault : FileFault)
    → IsPlanOf captures guests d plan → IsFaultOf captures guests d fault → fault ≡ Memory
only_memory captures guests d plan fault p f = memory_by fault (plan_has_no_fault captures guests d plan fault p f)

same_cause : (c e : Cause) → Some c ≡ Some e → c ≡ e
same_cause c e is = cc

same_place : (place : Place) (cause : Option Cause) (f g : FileFault) → Tells place cause f → Tells place cause g
    → f ≢ Memory → g ≢ Memory → f ≡ g
same_place place cause f g tf tg nf ng =
    let a = tf nf in
    let b = tg ng in
    let same = same_cause a.0 b.0 (sym a.1 ∙ b.1) in
    a.2 ∙ ap (λ c. fault_at c place) same ∙ sym b.2

-- of two places that are each the first, neither comes before the other
not_before : (cause : ℕ → Option Cause) (j k : ℕ) (c : Cause) → ((i : ℕ) → i < k → cause i ≡ None) → cause j ≡ Some c → k ≤ j
not_before cause j k c none some = by_order (cases_lt j k)
  where
    by_order : (j < k) ⊎ (k ≤ j) → k ≤ j
    by_order (inl less) = absurd (not_both (cause j) c (none j less) some)
    by_order (inr past) = past

same_first : (place : ℕ → Place) (cause : ℕ → Option Cause) (f g : FileFault) → TellsFirst place cause f → TellsFirst place cause g
    → f ≢ Memory → g ≢ Memory → f ≡ g
same_first place cause f g tf tg nf ng =
    let a = tf nf in
    let b = tg ng in
    let up = not_before cause a.0 b.0 a.1 b.3 a.2 in
    let down = not_before cause b.0 a.0 b.1 a.3 b.2 in
    let at : a.0 ≡ b.0 = omega (arith, up, down) in
    let same = same_cause a.1 b.1 (sym a.2 ∙ ap cause at ∙ b.2) in
    a.4 ∙ ap (λ c. fault_at c (place a.0)) same ∙ ap (λ k. fault_at b.1 (place k)) at ∙ sym b.4

-- where a chain or a step of it is told
abbrev ToldHere : (ports : ℕ) → List FunctionPlan → List Data → FileFault → ℕ → Type 0
ToldHere ports functions ds fault k =
    Tells (chain_place k) (chain_cause_at ports functions ds k) fault
    ⊎ ((chain_cause_at ports functions ds k ≡ None) × TellsFirst (step_place k) (steps_cause_at ports functions ds k) fault)

no_chain_before : (ports : ℕ) (functions : List FunctionPlan) (ds : List Data) (f : FileFault) (j k : ℕ) → f ≢ Memory
    → AreRightBefore ports functions ds k → ToldHere ports functions ds f j → k ≤ j
no_chain_before ports functions ds f j k nf right (inl told) =
    let a = told nf in not_before (chain_cause_at ports functions ds) j k a.0 right.chains a.1
no_chain_before ports functions ds f j k nf right (inr steps) = by_order (cases_lt j k)
  where
    by_order : (j < k) ⊎ (k ≤ j) → k ≤ j
    by_order (inl less) =
        let a = steps.1 nf in
        absurd (not_both (steps_cause_at ports functions ds j a.0) a.1 (right.steps j a.0 less) a.2)
    by_order (inr past) = past

same_here : (ports : ℕ) (functions : List FunctionPlan) (ds : List Data) (f g : FileFault) (k : ℕ) → f ≢ Memory → g ≢ Memory
    → ToldHere ports functions ds f k → ToldHere ports functions ds g k → f ≡ g
same_here ports functions ds f g k nf ng (inl a) (inl b) =
    same_place (chain_place k) (chain_cause_at ports functions ds k) f g a b nf ng
same_here ports functions ds f g k nf ng (inl a) (inr b) =
    absurd (not_both (chain_cause_at ports functions ds k) (a nf).0 b.0 (a nf).1)
same_here ports functions ds f g k nf ng (inr a) (inl b) =
    absurd (not_both (chain_cause_at ports functions ds k) (b ng).0 a.0 (b ng).1)
same_here ports functions ds f g k nf ng (inr a) (inr b) =
    same_first (step_place k) (steps_cause_at ports functions ds k) f g a.1 b.1 nf ng

same_chain : (ports : ℕ) (functions : List FunctionPlan) (ds : List Data) (f g : FileFault) → TellsFirstChain ports functions ds f
    → TellsFirstChain ports functions ds g → f ≢ Memory → g ≢ Memory → f ≡ g
same_chain ports functions ds f g tf tg nf ng =
    let a = tf nf in
    let b = tg ng in
    let up = no_chain_before ports functions ds f a.0 b.0 nf b.1 a.2 in
    let down = no_chain_before ports functions ds g b.0 a.0 ng a.1 b.2 in
    let at : b.0 ≡ a.0 = omega (arith, up, down) in
    same_here ports functions ds f g a.0 nf ng a.2 (subst (ToldHere ports functions ds g) at b.2)

-- in a chain's place nothing is told where all chains and steps are right
no_chain : (ports : ℕ) (functions : List FunctionPlan) (ds : List Data) (f : FileFault)
    → ((k : ℕ) → chain_cause_at ports functions ds k ≡ None) → ((k j : ℕ) → steps_cause_at ports functions ds k j ≡ None)
    → TellsFirstChain ports functions ds f → f ≢ Memory → ⊥
no_chain ports functions ds f chains steps told n =
    let t = told n in
    elim t.2 as (λ x. ⊥) [
      | inl here ↦ untold _ _ f (chains t.0) here n
      | inr later ↦ none_told _ _ f (steps t.0) later.1 n
    ]

module _ (captures : ℕ) (guests : List (List ℕ)) (d : Data) (f g : FileFault) (nf : f ≢ Memory) (ng : g ≢ Memory) where
  pub same_fault : IsFaultOf captures guests d f → IsFaultOf captures guests d g → f ≡ g
  same_fault (of_memory e) y = absurd (nf e)
  same_fault x (of_memory e) = absurd (ng e)
  same_fault (of_top a) (of_top b) = same_place _ _ f g a b nf ng
  same_fault (of_top a) (of_functions t b) = absurd (untold _ _ f t a nf)
  same_fault (of_top a) (of_chains t fs b) = absurd (untold _ _ f t a nf)
  same_fault (of_top a) (of_rules t fs cs b) = absurd (untold _ _ f t a nf)
  same_fault (of_top a) (of_default t fs cs rs b) = absurd (untold _ _ f t a nf)
  same_fault (of_functions t a) (of_top b) = absurd (untold _ _ g t b ng)
  same_fault (of_functions t a) (of_functions u b) = same_first _ _ f g a b nf ng
  same_fault (of_functions t a) (of_chains u fs b) = absurd (none_told _ _ f fs a nf)
  same_fault (of_functions t a) (of_rules u fs cs b) = absurd (none_told _ _ f fs a nf)
  same_fault (of_functions t a) (of_default u fs cs rs b) = absurd (none_told _ _ f fs a nf)
  same_fault (of_chains t fs a) (of_top b) = absurd (untold _ _ g t b ng)
  same_fault (of_chains t fs a) (of_functions u b) = absurd (none_told _ _ g fs b ng)
  same_fault (of_chains t fs a) (of_chains u gs b) = same_chain _ _ _ f g a b nf ng
  same_fault (of_chains t fs a) (of_rules u gs cs b) = absurd (no_chain _ _ _ f cs.chains cs.steps a nf)
  same_fault (of_chains t fs a) (of_default u gs cs rs b) = absurd (no_chain _ _ _ f cs.chains cs.steps a nf)
  same_fault (of_rules t fs cs a) (of_top b) = absurd (untold _ _ g t b ng)
  same_fault (of_rules t fs cs a) (of_functions u b) = absurd (none_told _ _ g fs b ng)
  same_fault (of_rules t fs cs a) (of_chains u gs b) = absurd (no_chain _ _ _ g cs.chains cs.steps b ng)
  same_fault (of_rules t fs cs a) (of_rules u gs bs b) = same_first _ _ f g a b nf ng
  same_fault (of_rules t fs cs a) (of_default u gs bs rs b) = absurd (none_told _ _ f rs a nf)
  same_fault (of_default t fs cs rs a) (of_top b) = absurd (untold _ _ g t b ng)
  same_fault (of_default t fs cs rs a) (of_functions u b) = absurd (none_told _ _ g fs b ng)
  same_fault (of_default t fs cs rs a) (of_chains u gs b) = absurd (no_chain _ _ _ g cs.chains cs.steps b ng)
  same_fault (of_default t fs cs rs a) (of_rules u gs bs b) = absurd (none_told _ _ g rs b ng)
  same_fault (of_default t fs cs rs a) (of_default u gs bs qs b) = same_place _ _ f g a b nf ng
