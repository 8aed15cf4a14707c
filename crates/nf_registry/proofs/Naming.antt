-- The functions whose services the steps name are the chain's.
use Rattle.std.proofs.Common.{◌≡◌, ℕ, zero, suc, ◌+◌, ◌*◌, ◌^◌, ◌≤◌, Bool, true, false, nat_eq, ◌||◌, if◌then◌else◌, List, [], ◌∷◌, length, slice_get, Option, Some, None, option_and_then, IsBitSet, bit_and, refl, sym, ap, ◌∙◌, arith}
use Rattle.std.specs.Int.{bit_at}
use Rattle.std.proofs.lemmas.Option.{slice_get_past, slice_get_within}
use Rattle.std.proofs.lemmas.Nat.Bits.{and_pow, bit_at-zero}
use Rattle.std.proofs.lemmas.Nat.{pow_pos}
use Rattle.onvm_base.specs.declared.ids.ChainId.{ChainId}
use Rattle.onvm_base.specs.declared.chain.ChainPlan.{ChainPlan}
use Rattle.onvm_base.specs.declared.chain.ChainStep.{ChainStep}
use Rattle.onvm_base.specs.declared.chain.ChainStep.TheVariants.{To as Service, Out as Port}
use Rattle.onvm_base.specs.declared.function.FunctionPlan.{FunctionPlan}
use Rattle.onvm_base.specs.declared.plan.Plan.{Plan}
use Rattle.onvm_base.specs.Moves.{IsOfChain, step_at}
use Rattle.onvm_base.specs.Services.{instances_from}
use Rattle.nf_registry.specs.Masks.{AreMasks, IsMask, HasBits, names, names_of}

-- ---- steps

either_true : (a b : Bool) → a ≡ true → (a || b) ≡ true
either_true a b e = rw e refl

other_true : (a b : Bool) → b ≡ true → (a || b) ≡ true
other_true true b e = refl
other_true false b e = e

named_at : (steps : List ChainStep) (at service : ℕ) → slice_get steps at ≡ Some (Service service) → names steps service ≡ true
named_at [] at service e = absurd (cc)
named_at (Service s ∷ steps) zero service e =
    let same : s ≡ service = cc in either_true (nat_eq s service) (names steps service) (grind arith)
named_at (Service s ∷ steps) (suc at) service e =
    other_true (nat_eq s service) (names steps service) (named_at steps at service e)
named_at (Port port ∷ steps) zero service e = absurd (cc)
named_at (Port port ∷ steps) (suc at) service e = named_at steps at service e

-- a step that names the service
pub record Naming (steps : List ChainStep) (service : ℕ) : Type 0 where
  pub at : ℕ
  pub is : slice_get steps at ≡ Some (Service service)

later : (step : ChainStep) (steps : List ChainStep) (service : ℕ) → Naming steps service → Naming (step ∷ steps) service
later step steps service n = record { at = suc n.at; is = n.is }

naming_by : (s : ℕ) (steps : List ChainStep) (service : ℕ) (same : Bool) → nat_eq s service ≡ same
    → (names steps service ≡ true → Naming steps service) → (same || names steps service) ≡ true
    → Naming (Service s ∷ steps) service
naming_by s steps service true e rest named =
    let is : s ≡ service = grind arith in record { at = 0; is = ap (λ n. Some (Service n)) is }
naming_by s steps service false e rest named = later (Service s) steps service (rest named)

naming : (steps : List ChainStep) (service : ℕ) → names steps service ≡ true → Naming steps service
naming [] service named = absurd (let off : false ≡ true = named in cc)
naming (Service s ∷ steps) service named =
    naming_by s steps service (nat_eq s service) refl (naming steps service) named
naming (Port port ∷ steps) service named = later (Port port) steps service (naming steps service named)

-- ---- instances

-- a function of the service, at its place in the file
pub record Offers (n service : ℕ) (functions : List FunctionPlan) (f : ℕ) : Type 0 where
  pub at : ℕ
  pub function : FunctionPlan
  pub is : f ≡ n + at
  pub here : slice_get functions at ≡ Some function
  pub offers : function.service ≡ service

next_offers : (n service : ℕ) (g : FunctionPlan) (gs : List FunctionPlan) (f : ℕ)
    → Offers (n + 1) service gs f → Offers n service (g ∷ gs) f
next_offers n service g gs f o = record {
  at = suc o.at;
  function = o.function;
  is = omega (arith, o.is);
  here = o.here;
  offers = o.offers;
}

offers_by : (n service : ℕ) (g : FunctionPlan) (gs : List FunctionPlan) (place f : ℕ) (same : Bool) → nat_eq g.service service ≡ same
    → ((p : ℕ) → slice_get (instances_from (n + 1) service gs) p ≡ Some f → Offers (n + 1) service gs f)
    → slice_get (if same then n ∷ instances_from (n + 1) service gs else instances_from (n + 1) service gs) place ≡ Some f
    → Offers n service (g ∷ gs) f
offers_by n service g gs zero f true e rest found =
    let is : g.service ≡ service = grind arith in
    let here : n ≡ f = cc in
    record { at = 0; function = g; is = omega (arith, here); here = refl; offers = is }
offers_by n service g gs (suc place) f true e rest found = next_offers n service g gs f (rest place found)
offers_by n service g gs place f false e rest found = next_offers n service g gs f (rest place found)

offers : (n service : ℕ) (functions : List FunctionPlan) (place f : ℕ)
    → slice_get (instances_from n service functions) place ≡ Some f → Offers n service functions f
offers n service [] place f found = absurd (cc)
offers n service (g ∷ gs) place f found =
    offers_by n service g gs place f (nat_eq g.service service) refl
    (λ p e. offers (n + 1) service gs p f e) found

-- a place among the instances
pub record Listed (n service : ℕ) (functions : List FunctionPlan) (f : ℕ) : Type 0 where
  pub place : ℕ
  pub found : slice_get (instances_from n service functions) place ≡ Some f

listed_here : (n service : ℕ) (g : FunctionPlan) (gs : List FunctionPlan) (f : ℕ) → g.service ≡ service → f ≡ n
    → Listed n service (g ∷ gs) f
listed_here n service g gs f offered is =
    let same : nat_eq g.service service ≡ true = grind arith in
    record { place = 0; found = rw (same, is) refl }

listed_by : (n service : ℕ) (g : FunctionPlan) (gs : List FunctionPlan) (f : ℕ) (same : Bool) → nat_eq g.service service ≡ same
    → Listed (n + 1) service gs f → Listed n service (g ∷ gs) f
listed_by n service g gs f true e l = record { place = suc l.place; found = rw e l.found }
listed_by n service g gs f false e l = record { place = l.place; found = rw e l.found }

listed : (n service : ℕ) (functions : List FunctionPlan) (at f : ℕ) (function : FunctionPlan)
    → slice_get functions at ≡ Some function → function.service ≡ service → f ≡ n + at → Listed n service functions f
listed n service [] at f function here offered is = absurd (cc)
listed n service (g ∷ gs) zero f function here offered is =
    let same : g ≡ function = cc in
    listed_here n service g gs f (ap (λ h. h.service) same ∙ offered) (omega (arith, is))
listed n service (g ∷ gs) (suc at) f function here offered is =
    listed_by n service g gs f (nat_eq g.service service) refl
    (listed (n + 1) service gs at f function here offered (omega (arith, is)))

-- ---- bits

set_by : (mask f : ℕ) → bit_at mask f ≡ 1 → IsBitSet mask f
set_by mask f one none = omega (arith, pow_pos f, sym none ∙ and_pow mask f ∙ ap (λ b. b * 2 ^ f) one)

bit_by : (mask f : ℕ) (test : Bool) → bit_at mask f ≡ (if test then 1 else 0) → IsBitSet mask f → test ≡ true
bit_by mask f true e set = refl
bit_by mask f false e set =
    let none : 0 * 2 ^ f ≡ 0 = omega arith in absurd (set (and_pow mask f ∙ ap (λ b. b * 2 ^ f) e ∙ none))

-- ---- chains

step_is : (plan : Plan) (chain : ChainId) (c : ChainPlan) (at : ℕ) → slice_get plan.chains chain.0 ≡ Some c
    → step_at plan chain at ≡ slice_get c.steps at
step_is plan chain c at e = ap (option_and_then (λ d. slice_get d.steps at)) e

named_of : (steps : List ChainStep) (o : Option FunctionPlan) (f : FunctionPlan) (service : ℕ) → o ≡ Some f → f.service ≡ service
    → names steps service ≡ true → names_of steps o ≡ true
named_of steps o f service e is named = ap (names_of steps) e ∙ ap (names steps) is ∙ named

all_named : (plan : Plan) (chain : ChainId) (c : ChainPlan) (mask f : ℕ) → slice_get plan.chains chain.0 ≡ Some c
    → HasBits c.steps plan.functions mask → IsOfChain plan chain f → IsBitSet mask f
all_named plan chain c mask f e bits of =
    let o = offers 0 of.service plan.functions of.place f of.found in
    let place : f ≡ o.at = omega (arith, o.is) in
    let named = named_at c.steps of.at of.service (sym (step_is plan chain c of.at e) ∙ of.named) in
    let here : slice_get plan.functions f ≡ Some o.function = ap (slice_get plan.functions) place ∙ o.here in
    let test = named_of c.steps (slice_get plan.functions f) o.function of.service here o.offers named in
    set_by mask f (bits f ∙ ap (λ (b : Bool). if b then 1 else 0) test)

-- the function at a place, if a step names its service
pub record NamedAt (steps : List ChainStep) (o : Option FunctionPlan) : Type 0 where
  pub function : FunctionPlan
  pub is : o ≡ Some function
  pub naming_is : Naming steps function.service

named_at_place : (steps : List ChainStep) (o : Option FunctionPlan) → names_of steps o ≡ true → NamedAt steps o
named_at_place steps None test = absurd (let off : false ≡ true = test in cc)
named_at_place steps (Some f) test = record { function = f; is = refl; naming_is = naming steps f.service test }

only_named : (plan : Plan) (chain : ChainId) (c : ChainPlan) (mask f : ℕ) → slice_get plan.chains chain.0 ≡ Some c
    → HasBits c.steps plan.functions mask → IsBitSet mask f → IsOfChain plan chain f
only_named plan chain c mask f e bits set =
    let test = bit_by mask f (names_of c.steps (slice_get plan.functions f)) (bits f) set in
    let n = named_at_place c.steps (slice_get plan.functions f) test in
    let l = listed 0 n.function.service plan.functions f f n.function n.is refl (omega arith) in
    record {
      at = n.naming_is.at;
      service = n.function.service;
      named = step_is plan chain c n.naming_is.at e ∙ n.naming_is.is;
      place = l.place;
      found = l.found;
    }

-- the bits of a chain's steps are its mask
pub mask_is : (plan : Plan) (chain : ChainId) (c : ChainPlan) (mask : ℕ) → slice_get plan.chains chain.0 ≡ Some c
    → HasBits c.steps plan.functions mask → IsMask plan chain mask
mask_is plan chain c mask e bits =
    record { all = λ f of. all_named plan chain c mask f e bits of; only = λ f set. only_named plan chain c mask f e bits set }

no_step : (step : ChainStep) → Some step ≡ None → ⊥
no_step step e = cc

no_bit : (f : ℕ) → bit_and 0 (2 ^ f) ≡ 0
no_bit f = let none : 0 * 2 ^ f ≡ 0 = omega arith in and_pow 0 f ∙ ap (λ b. b * 2 ^ f) (bit_at-zero f) ∙ none

-- a chain that the plan doesn't have has no bit
pub no_mask : (plan : Plan) (chain : ChainId) → slice_get plan.chains chain.0 ≡ None → IsMask plan chain 0
no_mask plan chain e = record {
  all = λ f of. absurd (no_step (Service of.service) (sym of.named ∙ ap (option_and_then (λ d. slice_get d.steps of.at)) e));
  only = λ f set. absurd (set (no_bit f));
}

-- ---- a registry's masks

no_item : {A : Type 0} (x : A) → Some x ≡ None → ⊥
no_item x e = cc

none_past : {A : Type 0} (xs : List A) (k : ℕ) → slice_get xs k ≡ None → length xs ≤ k
none_past [] k e = omega arith
none_past (x ∷ xs) zero e = absurd (no_item x e)
none_past (x ∷ xs) (suc k) e = let more = none_past xs k e in omega (arith, more)

chain_here : (plan : Plan) (chain : ChainId) (masks : List ℕ) (mask : ℕ) → AreMasks plan masks → slice_get masks chain.0 ≡ Some mask
    → (o : Option ChainPlan) → slice_get plan.chains chain.0 ≡ o → IsMask plan chain mask
chain_here plan chain masks mask are found None e =
    let past = none_past plan.chains chain.0 e in
    absurd (omega (arith, are.lengths, past, slice_get_within masks chain.0 mask found))
chain_here plan chain masks mask are found (Some c) e = mask_is plan chain c mask e (are.bits chain.0 c mask e found)

pub mask_found : (plan : Plan) (chain : ChainId) (masks : List ℕ) (mask : ℕ) → AreMasks plan masks
    → slice_get masks chain.0 ≡ Some mask → IsMask plan chain mask
mask_found plan chain masks mask are found = chain_here plan chain masks mask are found (slice_get plan.chains chain.0) refl

pub mask_missing : (plan : Plan) (chain : ChainId) (masks : List ℕ) → AreMasks plan masks → length masks ≤ chain.0
    → IsMask plan chain 0
mask_missing plan chain masks are past =
    no_mask plan chain (slice_get_past plan.chains chain.0 (omega (arith, are.lengths, past)))
