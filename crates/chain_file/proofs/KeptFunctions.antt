-- The functions that are read keep the rules of a plan.
use Rattle.std.proofs.Common.{◌≡◌, ◌≢◌, ℕ, ◌-◌, ◌≤◌, ◌<◌, Bool, true, false, not, ◌||◌, nat_eq, List, [], ◌∷◌, take, slice_get, Option, Some, None, All, codes, bytes_eq, refl, sym, ap, ◌∙◌, subst, arith}
use Rattle.std.specs.Prelude.{option_and_then}
use Rattle.std.proofs.lemmas.Bool.Decides.{not_from_Decides}
use Rattle.std.proofs.lemmas.Slice.Eq.{bytes_eq-Decides}
use Rattle.serde_json.specs.Data.{Data}
use Rattle.serde_json.specs.Find.{get}
use Rattle.onvm_base.specs.declared.limits.TheConstants.{MAX_COST, MAX_PRIORITY, MAX_WEIGHT}
use Rattle.onvm_base.specs.declared.function.Kind.{Kind}
use Rattle.onvm_base.specs.declared.function.Kind.TheVariants.{Guest}
use Rattle.onvm_base.specs.declared.function.FunctionPlan.{FunctionPlan}
use Rattle.onvm_base.specs.Plan.{AreDifferent, IsFunction}
use Rattle.chain_file.specs.declared.fault.Cause.{Cause}
use Rattle.chain_file.specs.declared.fault.Cause.TheVariants.{Twice}
use Rattle.chain_file.specs.Causes.{unless}
use Rattle.chain_file.specs.File.{function_cause_at, function_cause_in, functions_of}
use Rattle.chain_file.specs.Functions.{function_in, has_guest_of, is_like, is_twice, word_in}
use Rattle.chain_file.specs.Kinds.{kind_in, keys_cause}
use Rattle.chain_file.specs.Values.{name_at, number, number_or}
use Rattle.chain_file.proofs.KeptKinds.{kind_right}
use Rattle.chain_file.proofs.KeptLists.{all_judged, no_cause, none_passes, slice_get-map, slice_get-map_back, slice_get-take, unless_none}
use Rattle.chain_file.proofs.KeptNames.{name_at_right}
use Rattle.chain_file.proofs.Ranges.{number-IsFrom, number_or-IsFrom}
use Rattle.chain_file.proofs.Untold.{earlier_none}

-- ---- one function

abbrev pub function_causes : (cores : ℕ) (guests : List (List ℕ)) → Data → List (Option Cause)
function_causes cores guests d =
    keys_cause (word_in d) d
    ∷ (name_at (get (codes "name") d)).cause
    ∷ (number (codes "service") 1 255 d).cause
    ∷ (number (codes "core") 0 (cores - 1) d).cause
    ∷ (kind_in guests (word_in d) d).cause
    ∷ (number_or (codes "priority") 1 MAX_PRIORITY 1 d).cause
    ∷ (number_or (codes "weight") 1 MAX_WEIGHT 1024 d).cause
    ∷ (number_or (codes "cost") 0 MAX_COST 100 d).cause
    ∷ []

function_right : (cores : ℕ) (guests : List (List ℕ)) (d : Data) → 1 ≤ cores → (function_in cores guests d).cause ≡ None
    → IsFunction cores (function_in cores guests d).value
unfolding function_in
function_right cores guests d some e =
    let causes = function_causes cores guests d in
    let core = number-IsFrom (codes "core") 0 (cores - 1) d (omega arith) in
    record {
      name = name_at_right (get (codes "name") d) (no_cause causes e 1);
      service = number-IsFrom (codes "service") 1 255 d (omega arith);
      core = omega (arith, core.1);
      kind = kind_right guests (word_in d) d (no_cause causes e 4);
      priority = number_or-IsFrom (codes "priority") 1 MAX_PRIORITY 1 d (omega arith) (omega arith, omega arith);
      weight = number_or-IsFrom (codes "weight") 1 MAX_WEIGHT 1024 d (omega arith) (omega arith, omega arith);
      cost = (number_or-IsFrom (codes "cost") 0 MAX_COST 100 d (omega arith) (omega arith, omega arith)).1;
    }

pub functions_right : (cores : ℕ) (guests : List (List ℕ)) (ds : List Data) → 1 ≤ cores
    → ((k : ℕ) → function_cause_at cores guests ds k ≡ None) → All (IsFunction cores) (functions_of cores guests ds)
functions_right cores guests ds some none =
    all_judged (IsFunction cores) (λ d. (function_in cores guests d).value) (function_cause_in cores guests)
    (λ before d e. function_right cores guests d some
    (earlier_none (function_in cores guests d).cause
    (unless (not (is_twice (functions_of cores guests before) (function_in cores guests d).value)) Twice) e).0)
    ds none

-- ---- two functions

three_false : (a b c : Bool) → (a || b || c) ≡ false → (a ≡ false) × ((b ≡ false) × (c ≡ false))
three_false true b c e = absurd (grind arith)
three_false false true c e = absurd (grind arith)
three_false false false c e = (refl, (refl, e))

not_true : (b : Bool) → not b ≡ true → b ≡ false
not_true true e = absurd (grind arith)
not_true false e = refl

pub text_differs : (xs ys : List ℕ) → bytes_eq xs ys ≡ false → xs ≢ ys
text_differs xs ys e = not_from_Decides (bytes_eq xs ys) (bytes_eq-Decides xs ys) e

pub text_is : (xs : List ℕ) → bytes_eq xs xs ≡ true
text_is xs = (bytes_eq-Decides xs xs).1 refl

guests_differ : (j k : Kind) (guest : List ℕ) → has_guest_of j k ≡ false → j ≡ Guest guest → k ≢ Guest guest
guests_differ j k guest e is_j is_k =
    let both : has_guest_of (Guest guest) (Guest guest) ≡ false =
    subst (λ m. has_guest_of (Guest guest) m ≡ false) is_k (subst (λ m. has_guest_of m k ≡ false) is_j e) in
    let off : true ≡ false = sym (text_is guest) ∙ both in
    cc

not_like : (f g : FunctionPlan) → is_like f g ≡ false → AreDifferent f g
not_like f g e =
    let three = three_false (bytes_eq f.name g.name) (nat_eq f.service g.service) (has_guest_of f.kind g.kind) e in
    record {
      names = text_differs f.name g.name three.0;
      services = λ same. let off : nat_eq f.service g.service ≡ false = three.1.0 in grind arith;
      guests = λ guest is. guests_differ f.kind g.kind guest three.1.1 is;
    }

pub functions_differ : (cores : ℕ) (guests : List (List ℕ)) (ds : List Data) → ((k : ℕ) → function_cause_at cores guests ds k ≡ None)
    → (i j : ℕ) (f g : FunctionPlan) → i < j → slice_get (functions_of cores guests ds) i ≡ Some f
    → slice_get (functions_of cores guests ds) j ≡ Some g → AreDifferent f g
functions_differ cores guests ds none i j f g less is_f is_g =
    let value = λ (d : Data). (function_in cores guests d).value in
    let made_f = slice_get-map_back value ds i f is_f in
    let made_g = slice_get-map_back value ds j g is_g in
    let before = functions_of cores guests (take j ds) in
    let cause = sym (ap (option_and_then (function_cause_in cores guests (take j ds))) made_g.here) ∙ none j in
    let once = unless_none (not (is_twice before (value made_g.it))) Twice
    (earlier_none (function_in cores guests made_g.it).cause (unless (not (is_twice before (value made_g.it))) Twice) cause).1 in
    let here : slice_get before i ≡ Some (value made_f.it) =
    slice_get-map value (take j ds) i made_f.it (slice_get-take ds i j made_f.it less made_f.here) in
    let unlike = none_passes (λ e. is_like e (value made_g.it)) before i (value made_f.it) (not_true (is_twice before (value made_g.it)) once) here in
    subst (λ h. AreDifferent f h) made_g.is
    (subst (λ h. AreDifferent h (value made_g.it)) made_f.is (not_like (value made_f.it) (value made_g.it) unlike))
