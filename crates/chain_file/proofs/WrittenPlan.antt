-- Written chains, rules and plans are read back.
use Rattle.std.proofs.Common.{◌≡◌, ◌≢◌, ℕ, zero, suc, ◌+◌, ◌-◌, ◌<◌, ◌≤◌, Bool, true, false, nat_eq, nat_le, List, [], ◌∷◌, length, map, take, slice_get, codes, bytes_eq, Option, Some, None, option_map, option_and_then, All, refl, sym, ap, ◌∙◌, subst, arith}
use Rattle.std.specs.List.{list_any}
use Rattle.std.specs.Prelude.{unwrap_or}
use Rattle.serde_json.specs.Data.{Data, string}
use Rattle.serde_json.specs.Find.{get, as_str}
use Rattle.onvm_base.specs.declared.limits.TheConstants.{MAX_CHAIN_STEPS}
use Rattle.onvm_base.specs.declared.ids.ChainId.{ChainId}
use Rattle.onvm_base.specs.declared.chain.ChainStep.{ChainStep}
use Rattle.onvm_base.specs.declared.chain.ChainStep.TheVariants as step
use Rattle.onvm_base.specs.declared.chain.ChainPlan.{ChainPlan}
use Rattle.onvm_base.specs.declared.function.Kind.{Kind}
use Rattle.onvm_base.specs.declared.function.Kind.TheVariants as kind
use Rattle.onvm_base.specs.declared.function.FunctionPlan.{FunctionPlan}
use Rattle.onvm_base.specs.declared.rules.RulePlan.{RulePlan}
use Rattle.onvm_base.specs.Plan.{AreDifferent, IsChainPlan, IsFunction, IsName, IsRule, IsStep}
use Rattle.onvm_base.specs.Services.{instances_from}
use Rattle.chain_file.specs.declared.judged.Judged.{Judged}
use Rattle.chain_file.specs.Chains.{place_of, has_service, to_number, step_to, step_out, step_target, step_in, chain_name, chain_cause, chain_of}
use Rattle.chain_file.specs.File.{functions_of, function_cause_at, function_cause_in, chains_of, chain_cause_at, chain_cause_in, step_cause_at, steps_cause_at, rules_of, rule_cause_at}
use Rattle.chain_file.specs.Functions.{function_in, function_cause, is_twice, is_like, has_guest_of, is_guest}
use Rattle.chain_file.specs.Guests.{HasGuest}
use Rattle.chain_file.specs.Kinds.{either}
use Rattle.chain_file.specs.Matches.{tests_in}
use Rattle.chain_file.specs.Rules.{chain_at, chain_named, rule_in, no_tests}
use Rattle.chain_file.specs.Values.{right, must, of_one, is_name, list_at, under, only}
use Rattle.chain_file.specs.Widths.{KindFits, TestsFit}
use Rattle.chain_file.specs.Written.{natural, step_row, one_step, chain_rows, chain, name_of_chain, rule_rows, rule, tests, function}
use Rattle.chain_file.proofs.Compact.{sorted, IsPlain, IsText}
use Rattle.chain_file.proofs.KeptFunctions.{text_is}
use Rattle.chain_file.proofs.KeptLists.{no_some, same_some, slice_get_item}
use Rattle.chain_file.proofs.Rows.{get_of, only_right, number_in_right, name_at_right, name_is, name_text, sorted-mapped, under_is, list_at_is, items_plain, item_of, values_back, values_back_to, each_place, no_cause_at}
use Rattle.chain_file.proofs.WrittenKinds.{function_back}
use Rattle.chain_file.proofs.WrittenTests.{tests_back, tests_plain}
use Rattle.std.proofs.lemmas.Slice.Eq.{bytes_eq-Decides}

-- ---- functions

differs : (xs ys : List ℕ) → xs ≢ ys → bytes_eq xs ys ≡ false
differs xs ys other = by (bytes_eq xs ys) refl
  where
    by : (b : Bool) → bytes_eq xs ys ≡ b → b ≡ false
    by true is = absurd (other ((bytes_eq-Decides xs ys).0 is))
    by false is = refl

numbers_differ : (m n : ℕ) → m ≢ n → nat_eq m n ≡ false
numbers_differ m n other = grind arith

guest_unlike : (guest : List ℕ) (k : Kind) → k ≢ kind.Guest guest → is_guest k guest ≡ false
guest_unlike guest kind.Forward other = refl
guest_unlike guest kind.Drop other = refl
guest_unlike guest (kind.Out port) other = refl
guest_unlike guest (kind.To service) other = refl
guest_unlike guest (kind.Filter ts) other = refl
guest_unlike guest kind.Ttl other = refl
guest_unlike guest (kind.Tag vlan priority) other = refl
guest_unlike guest kind.Untag other = refl
guest_unlike guest (kind.Macs target source) other = refl
guest_unlike guest (kind.Route table) other = refl
guest_unlike guest (kind.Balance services) other = refl
guest_unlike guest kind.Count other = refl
guest_unlike guest (kind.Police rate depth) other = refl
guest_unlike guest (kind.Nat inside outside ports) other = refl
guest_unlike guest (kind.Guest name) other = differs name guest (λ e. other (ap (λ n. kind.Guest n) e))

guests_unlike : (j k : Kind) → ((guest : List ℕ) → j ≡ kind.Guest guest → k ≢ kind.Guest guest) → has_guest_of j k ≡ false
guests_unlike kind.Forward k other = refl
guests_unlike kind.Drop k other = refl
guests_unlike (kind.Out port) k other = refl
guests_unlike (kind.To service) k other = refl
guests_unlike (kind.Filter ts) k other = refl
guests_unlike kind.Ttl k other = refl
guests_unlike (kind.Tag vlan priority) k other = refl
guests_unlike kind.Untag k other = refl
guests_unlike (kind.Macs target source) k other = refl
guests_unlike (kind.Route table) k other = refl
guests_unlike (kind.Balance services) k other = refl
guests_unlike kind.Count k other = refl
guests_unlike (kind.Police rate depth) k other = refl
guests_unlike (kind.Nat inside outside ports) k other = refl
guests_unlike (kind.Guest name) k other = guest_unlike name k (other name refl)

unlike : (f g : FunctionPlan) → AreDifferent f g → is_like f g ≡ false
unlike f g h =
    let names = differs f.name g.name h.names in
    let services = numbers_differ f.service g.service h.services in
    let guests = guests_unlike f.kind g.kind h.guests in
    rw (names, services, guests) refl

none_of : {A : Type 0} (test : A → Bool) (xs : List A) → ((i : ℕ) (x : A) → slice_get xs i ≡ Some x → test x ≡ false) → list_any test xs ≡ false
none_of test [] h = refl
none_of test (x ∷ xs) h = rw (h 0 x refl) (none_of test xs (λ i y e. h (suc i) y e))

-- an item of the first so many stands before them
before_place : {A : Type 0} (xs : List A) (k i : ℕ) (x : A) → slice_get (take k xs) i ≡ Some x → (i < k) × (slice_get xs i ≡ Some x)
before_place [] zero i x e = absurd (no_some x (sym e))
before_place [] (suc k) i x e = absurd (no_some x (sym e))
before_place (y ∷ ys) zero i x e = absurd (no_some x (sym e))
before_place (y ∷ ys) (suc k) zero x e = (omega arith, e)
before_place (y ∷ ys) (suc k) (suc i) x e = let b = before_place ys k i x e in (omega (arith, b.0), b.1)

-- the functions of a plan, each with what it needs to be read
pub record AreWritten (cores : ℕ) (guests : List (List ℕ)) (fs : List FunctionPlan) : Type 0 where
  pub are : All (IsFunction cores) fs
  pub fit : All (λ f. KindFits f.kind) fs
  pub known : All (λ f. HasGuest guests f.kind) fs
  pub differ : (i j : ℕ) (f g : FunctionPlan) → i < j → slice_get fs i ≡ Some f → slice_get fs j ≡ Some g → AreDifferent f g

each_back : (cores : ℕ) (guests : List (List ℕ)) (fs : List FunctionPlan) → AreWritten cores guests fs
    → All (λ f. (function_in cores guests (sorted (function f))).value ≡ f) fs
each_back cores guests fs h = λ k d less.
    ap (λ j. j.value) (function_back cores guests _ (h.are k d less) (h.fit k d less) (h.known k d less))

pub functions_back : (cores : ℕ) (guests : List (List ℕ)) (fs : List FunctionPlan) → AreWritten cores guests fs
    → functions_of cores guests (map (λ f. sorted (function f)) fs) ≡ fs
functions_back cores guests fs h =
    values_back (λ d. (function_in cores guests d).value) (λ f. sorted (function f)) fs (each_back cores guests fs h)

once : (before : List FunctionPlan) (j : Judged FunctionPlan) (fs : List FunctionPlan) (f : FunctionPlan) → before ≡ fs → j ≡ right f → is_twice fs f ≡ false
    → function_cause before j ≡ None
once before j fs f is_before is_f e = rw (is_before, is_f, e) refl

pub functions_right_back : (cores : ℕ) (guests : List (List ℕ)) (fs : List FunctionPlan) → AreWritten cores guests fs
    → (k : ℕ) → function_cause_at cores guests (map (λ f. sorted (function f)) fs) k ≡ None
functions_right_back cores guests fs h k =
    no_cause_at (function_cause_in cores guests) (λ f. sorted (function f)) fs k (λ f here.
    once (functions_of cores guests (take k (map (λ f. sorted (function f)) fs))) (function_in cores guests (sorted (function f))) (take k fs) f
    (values_back_to (λ d. (function_in cores guests d).value) (λ f. sorted (function f)) fs k (each_back cores guests fs h))
    (function_back cores guests f (item_of (IsFunction cores) fs k f h.are here) (item_of (λ f. KindFits f.kind) fs k f h.fit here)
    (item_of (λ f. HasGuest guests f.kind) fs k f h.known here))
    (none_of (λ e. is_like e f) (take k fs) (λ i e at.
    let b = before_place fs k i e at in unlike e f (h.differ i k e f b.0 b.1 here))))

-- ---- steps

pub offers : (n service : ℕ) (fs : List FunctionPlan) → instances_from n service fs ≢ [] → has_service fs service ≡ true
offers n service [] some = absurd (some refl)
offers n service (f ∷ fs) some = by (nat_eq f.service service) refl (offers (n + 1) service fs)
  where
    by : (here : Bool) → nat_eq f.service service ≡ here → (instances_from (n + 1) service fs ≢ [] → has_service fs service ≡ true)
        → has_service (f ∷ fs) service ≡ true
    by true is rest = rw is refl
    by false is rest = rw is (rest (λ none. some (rw is none)))

step_from : (ports : ℕ) (fs : List FunctionPlan) (d : Data) (s : ChainStep) → only (codes "to" ∷ codes "out" ∷ []) [] d ≡ None
    → step_target ports fs d ≡ right s → step_in ports fs d ≡ right s
unfolding step_in
step_from ports fs d s keys target = rw (keys, target) refl

step_target_from : (ports : ℕ) (fs : List FunctionPlan) (t o : Option Data) (d : Data) (j : Judged ChainStep) → get (codes "to") d ≡ t → get (codes "out") d ≡ o
    → either (step_to fs) (step_out ports) t o ≡ j → step_target ports fs d ≡ j
step_target_from ports fs t o d j is_t is_o e = rw (is_t, is_o) e

pub small_service : (cores n : ℕ) (fs : List FunctionPlan) → All (IsFunction cores) fs → has_service fs n ≡ true → n ≤ 255
small_service cores n [] h e = absurd (grind arith)
small_service cores n (f ∷ fs) h e = by (nat_eq f.service n) refl (small_service cores n fs (λ k d less. h (suc k) d (omega arith)))
  where
    first : IsFunction cores f
    first = h 0 f (omega arith)

    by : (here : Bool) → nat_eq f.service n ≡ here → (has_service fs n ≡ true → n ≤ 255) → n ≤ 255
    by true is rest = let top = first.service.1 in grind arith
    by false is rest = rest (rw is at e)

to_number_right : (fs : List FunctionPlan) (n : ℕ) → n ≤ 255 → has_service fs n ≡ true → to_number fs n ≡ right (step.To n)
to_number_right fs n small e =
    let below : nat_le n 255 ≡ true = grind arith in
    rw (below, e) refl

step_back : (cores ports : ℕ) (fs : List FunctionPlan) (s : ChainStep) → All (IsFunction cores) fs → IsStep ports fs s
    → step_in ports fs (sorted (one_step s)) ≡ right s
step_back cores ports fs (step.To n) are h =
    let rows = step_row (step.To n) ∷ [] in
    let d = sorted (one_step (step.To n)) in
    let offered = offers 0 n fs (h.service n refl) in
    step_from ports fs d (step.To n) (only_right (codes "to" ∷ codes "out" ∷ []) [] rows refl)
    (step_target_from ports fs (Some (natural n)) None d (right (step.To n)) (get_of (codes "to") rows refl) (get_of (codes "out") rows refl)
    (to_number_right fs n (small_service cores n fs are offered) offered))
step_back cores ports fs (step.Out n) are h =
    let rows = step_row (step.Out n) ∷ [] in
    let d = sorted (one_step (step.Out n)) in
    step_from ports fs d (step.Out n) (only_right (codes "to" ∷ codes "out" ∷ []) [] rows refl)
    (step_target_from ports fs None (Some (natural n)) d (right (step.Out n)) (get_of (codes "to") rows refl) (get_of (codes "out") rows refl)
    (ap (of_one (λ n. step.Out n)) (number_in_right 0 (ports - 1) n (omega arith, omega (arith, h.port n refl)))))

steps_back : (cores ports : ℕ) (fs : List FunctionPlan) (ss : List ChainStep) → All (IsFunction cores) fs → All (IsStep ports fs) ss
    → All (λ s. (step_in ports fs (sorted (one_step s))).value ≡ s) ss
steps_back cores ports fs ss are h = λ k d less. ap (λ j. j.value) (step_back cores ports fs _ are (h k d less))

-- ---- chains

pub record AreChains (cores ports : ℕ) (fs : List FunctionPlan) (cs : List ChainPlan) : Type 0 where
  pub functions : All (IsFunction cores) fs
  pub are : All (IsChainPlan ports fs) cs
  pub differ : (i j : ℕ) (c d : ChainPlan) → i < j → slice_get cs i ≡ Some c → slice_get cs j ≡ Some d → c.name ≢ d.name

steps_under : (c : ChainPlan) → under (codes "steps") (sorted (chain c)) ≡ map (λ s. sorted (one_step s)) c.steps
steps_under c =
    under_is (codes "steps") (sorted (chain c)) (λ s. sorted (one_step s)) c.steps
    (get_of (codes "steps") (chain_rows c) refl ∙ ap Some (sorted-mapped one_step c.steps))

name_back : (c : ChainPlan) → IsName c.name → chain_name (sorted (chain c)) ≡ right c.name
name_back c h = name_at_right c.name (get (codes "name") (sorted (chain c))) (get_of (codes "name") (chain_rows c) refl) h

same_chain : (c : ChainPlan) (name : List ℕ) (steps : List ChainStep) → name ≡ c.name → steps ≡ c.steps
    → record { name = name; steps = steps } ≡ c
same_chain c name steps e f = rw (e, f) refl

chain_back : (cores ports : ℕ) (fs : List FunctionPlan) (c : ChainPlan) → All (IsFunction cores) fs → IsChainPlan ports fs c
    → chain_of ports fs (sorted (chain c)) ≡ c
chain_back cores ports fs c are h =
    same_chain c (chain_name (sorted (chain c))).value (map (λ s. (step_in ports fs s).value) (under (codes "steps") (sorted (chain c))))
    (ap (λ j. j.value) (name_back c h.name))
    (ap (map (λ s. (step_in ports fs s).value)) (steps_under c)
    ∙ values_back (λ s. (step_in ports fs s).value) (λ s. sorted (one_step s)) c.steps (steps_back cores ports fs c.steps are h.steps))

each_chain_back : (cores ports : ℕ) (fs : List FunctionPlan) (cs : List ChainPlan) → AreChains cores ports fs cs
    → All (λ c. chain_of ports fs (sorted (chain c)) ≡ c) cs
each_chain_back cores ports fs cs h = λ k d less. chain_back cores ports fs _ h.functions (h.are k d less)

pub chains_back : (cores ports : ℕ) (fs : List FunctionPlan) (cs : List ChainPlan) → AreChains cores ports fs cs
    → chains_of ports fs (map (λ c. sorted (chain c)) cs) ≡ cs
chains_back cores ports fs cs h = values_back (λ d. chain_of ports fs d) (λ c. sorted (chain c)) cs (each_chain_back cores ports fs cs h)

no_place : (cs : List ChainPlan) (name : List ℕ) → ((i : ℕ) (c : ChainPlan) → slice_get cs i ≡ Some c → c.name ≢ name) → place_of cs name ≡ None
no_place [] name h = refl
no_place (c ∷ cs) name h =
    let other = differs c.name name (h 0 c refl) in
    rw (other, no_place cs name (λ i d e. h (suc i) d e)) refl

chain_cause_from : (before cs : List ChainPlan) (d : Data) (name : List ℕ) → before ≡ cs → only (codes "name" ∷ codes "steps" ∷ []) [] d ≡ None
    → chain_name d ≡ right name → list_at 1 MAX_CHAIN_STEPS (get (codes "steps") d) ≡ None → place_of cs name ≡ None → chain_cause before d ≡ None
unfolding chain_cause
chain_cause_from before cs d name is_before keys is_name steps none = rw (is_before, keys, is_name, steps, none) refl

pub chains_right_back : (cores ports : ℕ) (fs : List FunctionPlan) (cs : List ChainPlan) → AreChains cores ports fs cs
    → (k : ℕ) → chain_cause_at ports fs (map (λ c. sorted (chain c)) cs) k ≡ None
chains_right_back cores ports fs cs h k =
    no_cause_at (chain_cause_in ports fs) (λ c. sorted (chain c)) cs k (λ c here.
    let is = item_of (IsChainPlan ports fs) cs k c h.are here in
    let d = sorted (chain c) in
    chain_cause_from (chains_of ports fs (take k (map (λ c. sorted (chain c)) cs))) (take k cs) d c.name
    (values_back_to (λ d. chain_of ports fs d) (λ c. sorted (chain c)) cs k (each_chain_back cores ports fs cs h))
    (only_right (codes "name" ∷ codes "steps" ∷ []) [] (chain_rows c) refl)
    (name_back c is.name)
    (list_at_is 1 MAX_CHAIN_STEPS (get (codes "steps") d) (λ s. sorted (one_step s)) c.steps
    (get_of (codes "steps") (chain_rows c) refl ∙ ap Some (sorted-mapped one_step c.steps)) is.length_of)
    (no_place (take k cs) c.name (λ i b at. let before = before_place cs k i b at in h.differ i k b c before.0 before.1 here)))

steps_of_chain : (cores ports : ℕ) (fs : List FunctionPlan) (c : ChainPlan) → All (IsFunction cores) fs → IsChainPlan ports fs c
    → (j : ℕ) → step_cause_at ports fs (under (codes "steps") (sorted (chain c))) j ≡ None
steps_of_chain cores ports fs c are h j =
    ap (λ ds. step_cause_at ports fs ds j) (steps_under c)
    ∙ no_cause_at (λ before d. (step_in ports fs d).cause) (λ s. sorted (one_step s)) c.steps j (λ s here.
    ap (λ x. x.cause) (step_back cores ports fs s are (item_of (IsStep ports fs) c.steps j s h.steps here)))

pub steps_right_back : (cores ports : ℕ) (fs : List FunctionPlan) (cs : List ChainPlan) → AreChains cores ports fs cs
    → (k j : ℕ) → steps_cause_at ports fs (map (λ c. sorted (chain c)) cs) k j ≡ None
steps_right_back cores ports fs cs h k j =
    each_place (λ d. step_cause_at ports fs (under (codes "steps") d) j) (λ c. sorted (chain c)) cs k (λ c here.
    steps_of_chain cores ports fs c h.functions (item_of (IsChainPlan ports fs) cs k c h.are here) j)

-- ---- rules

pub record AreNamed (cs : List ChainPlan) : Type 0 where
  pub names : All (λ c. IsName c.name) cs
  pub differ : (i j : ℕ) (c d : ChainPlan) → i < j → slice_get cs i ≡ Some c → slice_get cs j ≡ Some d → c.name ≢ d.name

place_of_name : (cs : List ChainPlan) (n : ℕ) (c : ChainPlan) → slice_get cs n ≡ Some c
    → ((i : ℕ) (b : ChainPlan) → i < n → slice_get cs i ≡ Some b → b.name ≢ c.name) → place_of cs c.name ≡ Some n
place_of_name [] n c e h = absurd (no_some c (sym e))
place_of_name (d ∷ cs) zero c e h =
    let same : d ≡ c = same_some d c e in
    let is : bytes_eq d.name c.name ≡ true = ap (λ x. bytes_eq x.name c.name) same ∙ text_is c.name in
    rw is refl
place_of_name (d ∷ cs) (suc n) c e h =
    let other = differs d.name c.name (h 0 d (omega arith) refl) in
    let later = place_of_name cs n c e (λ i b less at. h (suc i) b (omega arith) at) in
    rw (other, later) (ap Some (omega arith))

named_from : (cs : List ChainPlan) (name : List ℕ) (n : ℕ) → is_name name ≡ true → place_of cs name ≡ Some n → chain_named cs (Some name) ≡ right (record { 0 = n })
named_from cs name n e at = rw (e, at) refl

-- a chain's name is read as the chain
pub chain_at_back : (cs : List ChainPlan) (key : List ℕ) (d : Data) (id : ChainId) → AreNamed cs → id.0 < length cs
    → get key d ≡ Some (string (name_of_chain cs id.0)) → chain_at cs key d ≡ right id
chain_at_back cs key d id h less e =
    let g = slice_get_item cs id.0 less in
    let names_it : name_of_chain cs id.0 ≡ g.it.name = ap (λ o. unwrap_or (option_map (λ c. c.name) o) []) g.is in
    ap (λ o. chain_named cs (option_and_then as_str o)) e
    ∙ ap (λ name. chain_named cs (Some name)) names_it
    ∙ named_from cs g.it.name id.0 (name_is g.it.name (item_of (λ c. IsName c.name) cs id.0 g.it h.names g.is))
    (place_of_name cs id.0 g.it g.is (λ i b before at. h.differ i id.0 b g.it before at g.is))

pub chain_name_is : (cs : List ChainPlan) (n : ℕ) → AreNamed cs → n < length cs → IsName (name_of_chain cs n)
chain_name_is cs n h less =
    let g = slice_get_item cs n less in
    subst IsName (sym (ap (λ o. unwrap_or (option_map (λ c. c.name) o) []) g.is)) (item_of (λ c. IsName c.name) cs n g.it h.names g.is)

pub chain_name_plain : (cs : List ChainPlan) (n : ℕ) → AreNamed cs → n < length cs → IsText (name_of_chain cs n)
chain_name_plain cs n h less = name_text (name_of_chain cs n) (chain_name_is cs n h less)

rule_from : (cs : List ChainPlan) (d : Data) (r : RulePlan) → only (codes "chain" ∷ codes "match" ∷ []) [] d ≡ None
    → chain_at cs (codes "chain") d ≡ right r.chain → must tests_in no_tests (get (codes "match") d) ≡ right r.tests → rule_in cs d ≡ right r
unfolding rule_in
rule_from cs d r keys chain tests = rw (keys, chain, tests) refl

rule_back : (cs : List ChainPlan) (r : RulePlan) → AreNamed cs → IsRule (length cs) r → TestsFit r.tests → rule_in cs (sorted (rule cs r)) ≡ right r
rule_back cs r named h fits =
    let rows = rule_rows cs r in
    let d = sorted (rule cs r) in
    rule_from cs d r (only_right (codes "chain" ∷ codes "match" ∷ []) [] rows refl)
    (chain_at_back cs (codes "chain") d r.chain named h.chain (get_of (codes "chain") rows refl))
    (ap (must tests_in no_tests) (get_of (codes "match") rows refl) ∙ tests_back r.tests h.tests fits)

pub record AreRules (cs : List ChainPlan) (rs : List RulePlan) : Type 0 where
  pub named : AreNamed cs
  pub are : All (IsRule (length cs)) rs
  pub fit : All (λ r. TestsFit r.tests) rs

pub rules_back : (cs : List ChainPlan) (rs : List RulePlan) → AreRules cs rs → rules_of cs (map (λ r. sorted (rule cs r)) rs) ≡ rs
rules_back cs rs h =
    values_back (λ d. (rule_in cs d).value) (λ r. sorted (rule cs r)) rs
    (λ k d less. ap (λ j. j.value) (rule_back cs _ h.named (h.are k d less) (h.fit k d less)))

pub rules_right_back : (cs : List ChainPlan) (rs : List RulePlan) → AreRules cs rs
    → (k : ℕ) → rule_cause_at cs (map (λ r. sorted (rule cs r)) rs) k ≡ None
rules_right_back cs rs h k =
    no_cause_at (λ before d. (rule_in cs d).cause) (λ r. sorted (rule cs r)) rs k (λ r here.
    ap (λ j. j.cause) (rule_back cs r h.named (item_of (IsRule (length cs)) rs k r h.are here) (item_of (λ r. TestsFit r.tests) rs k r h.fit here)))

-- ---- what is written

pub chain_plain : (cores ports : ℕ) (fs : List FunctionPlan) (c : ChainPlan) → All (IsFunction cores) fs → ports ≤ 4 → IsChainPlan ports fs c → IsPlain 4 (chain c)
chain_plain cores ports fs c are few h = (
  refl,
  name_text c.name h.name,
  (refl, items_plain 2 one_step c.steps (λ k d less. step_plain cores ports fs _ are few (h.steps k d less)), tt),
)
  where
    step_plain : (cores ports : ℕ) (fs : List FunctionPlan) (s : ChainStep) → All (IsFunction cores) fs → ports ≤ 4 → IsStep ports fs s → IsPlain 2 (one_step s)
    step_plain cores ports fs (step.To n) are few h = (refl, omega (arith, small_service cores n fs are (offers 0 n fs (h.service n refl))), tt)
    step_plain cores ports fs (step.Out n) are few h = (refl, omega (arith, h.port n refl), tt)

pub rule_plain : (cs : List ChainPlan) (r : RulePlan) → AreNamed cs → IsRule (length cs) r → TestsFit r.tests → IsPlain 4 (rule cs r)
rule_plain cs r named h fits = (refl, chain_name_plain cs r.chain.0 named h.chain, (refl, tests_plain 1 r.tests h.tests fits, tt))
