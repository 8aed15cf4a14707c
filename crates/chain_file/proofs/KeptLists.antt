-- What is true of all items of a list, where no item has a cause.
use Rattle.std.proofs.Common.{◌≡◌, ℕ, zero, suc, ◌<◌, Bool, true, false, ◌||◌, List, [], ◌∷◌, length, map, take, get_or, slice_get, Option, Some, None, option_and_then, All, refl, sym, ap, ◌∙◌, subst, arith}
use Rattle.std.specs.List.{list_any}
use Rattle.std.proofs.lemmas.List.{length-map}
use Rattle.serde_json.specs.Data.{Data, Items}
use Rattle.serde_json.specs.Events.{items_len}
use Rattle.serde_json.specs.Find.{as_array}
use Rattle.onvm_base.specs.Plan.{IsFrom}
use Rattle.chain_file.specs.declared.fault.Cause.{Cause}
use Rattle.chain_file.specs.declared.judged.Judged.{Judged}
use Rattle.chain_file.specs.Causes.{first_of, unless}
use Rattle.chain_file.specs.File.{cause_at}
use Rattle.chain_file.specs.Values.{each, listed_in, length_from, length_in, list_at}
use Rattle.chain_file.proofs.Untold.{earlier_none, first_of_none, length_listed}

-- ---- options

pub no_some : {A : Type 0} (x : A) → Some x ≡ None → ⊥
no_some x e = cc

pub same_some : {A : Type 0} (x y : A) → Some x ≡ Some y → x ≡ y
same_some x y e = cc

-- a value that is there
pub record Given {A : Type 0} (o : Option A) : Type 0 where
  pub it : A
  pub is : o ≡ Some it

-- ---- causes

-- of causes of which none is told, none is there
pub no_cause : (cs : List (Option Cause)) → first_of cs ≡ None → (k : ℕ) → get_or cs k None ≡ None
no_cause [] e k = refl
no_cause (c ∷ cs) e zero = (first_of_none c cs e).0
no_cause (c ∷ cs) e (suc k) = no_cause cs (first_of_none c cs e).1 k

pub unless_none : (holds : Bool) (cause : Cause) → unless holds cause ≡ None → holds ≡ true
unless_none true cause e = refl
unless_none false cause e = absurd (no_some cause e)

-- ---- places of a list

pub slice_get_item : {A : Type 0} (xs : List A) (k : ℕ) → k < length xs → Given (slice_get xs k)
slice_get_item [] k less = absurd (omega arith)
slice_get_item (x ∷ xs) zero less = record { it = x; is = refl }
slice_get_item (x ∷ xs) (suc k) less = let g = slice_get_item xs k (omega arith) in record { it = g.it; is = g.is }

pub get_or-slice_get : {A : Type 0} (xs : List A) (k : ℕ) (d x : A) → slice_get xs k ≡ Some x → get_or xs k d ≡ x
get_or-slice_get [] k d x e = absurd (no_some x (sym e))
get_or-slice_get (y ∷ xs) zero d x e = same_some y x e
get_or-slice_get (y ∷ xs) (suc k) d x e = get_or-slice_get xs k d x e

pub slice_get-map : {A B : Type 0} (f : A → B) (xs : List A) (k : ℕ) (x : A) → slice_get xs k ≡ Some x → slice_get (map f xs) k ≡ Some (f x)
slice_get-map f [] k x e = absurd (no_some x (sym e))
slice_get-map f (y ∷ xs) zero x e = ap (λ z. Some (f z)) (same_some y x e)
slice_get-map f (y ∷ xs) (suc k) x e = slice_get-map f xs k x e

-- what an item of a map was made of
pub record MadeOf {A B : Type 0} (f : A → B) (xs : List A) (k : ℕ) (y : B) : Type 0 where
  pub it : A
  pub here : slice_get xs k ≡ Some it
  pub is : f it ≡ y

pub slice_get-map_back : {A B : Type 0} (f : A → B) (xs : List A) (k : ℕ) (y : B) → slice_get (map f xs) k ≡ Some y → MadeOf f xs k y
slice_get-map_back f [] k y e = absurd (no_some y (sym e))
slice_get-map_back f (x ∷ xs) zero y e = record { it = x; here = refl; is = same_some (f x) y e }
slice_get-map_back f (x ∷ xs) (suc k) y e = let m = slice_get-map_back f xs k y e in record { it = m.it; here = m.here; is = m.is }

pub slice_get-take : {A : Type 0} (xs : List A) (i j : ℕ) (x : A) → i < j → slice_get xs i ≡ Some x → slice_get (take j xs) i ≡ Some x
slice_get-take [] i j x less e = absurd (no_some x (sym e))
slice_get-take (y ∷ xs) i zero x less e = absurd (omega arith)
slice_get-take (y ∷ xs) zero (suc j) x less e = e
slice_get-take (y ∷ xs) (suc i) (suc j) x less e = slice_get-take xs i j x (omega arith) e

-- ---- each item of a list

pub all_from_places : {A : Type 0} (P : A → Type 0) (xs : List A) → ((k : ℕ) (x : A) → slice_get xs k ≡ Some x → P x) → All P xs
all_from_places P xs h = λ k d less.
    let g = slice_get_item xs k less in
    subst P (sym (get_or-slice_get xs k d g.it g.is)) (h k g.it g.is)

pub all_judged : {B : Type 0} (P : B → Type 0) (f : Data → B) (judge : List Data → Data → Option Cause)
    → ((before : List Data) (d : Data) → judge before d ≡ None → P (f d))
    → (ds : List Data) → ((k : ℕ) → cause_at judge ds k ≡ None) → All P (map f ds)
all_judged P f judge right ds none =
    all_from_places P (map f ds) (λ k y e.
    let m = slice_get-map_back f ds k y e in
    subst P m.is (right (take k ds) m.it (sym (ap (option_and_then (judge (take k ds))) m.here) ∙ none k)))

pub all_each : {B : Type 0} (P : B → Type 0) (judge : Data → Judged B)
    → ((d : Data) → (judge d).cause ≡ None → P (judge d).value)
    → (ds : List Data) → (each judge ds).cause ≡ None → All P (each judge ds).value
all_each P judge right ds none = all_from_places P (each judge ds).value (place_of ds none)
  where
    place_of : (ds : List Data) → (each judge ds).cause ≡ None → (k : ℕ) (y : _) → slice_get (each judge ds).value k ≡ Some y → P y
    place_of [] none k y e = absurd (no_some y (sym e))
    place_of (d ∷ ds) none zero y e =
        subst P (same_some (judge d).value y e) (right d (earlier_none (judge d).cause (each judge ds).cause none).0)
    place_of (d ∷ ds) none (suc k) y e = place_of ds (earlier_none (judge d).cause (each judge ds).cause none).1 k y e

-- ---- the lengths of lists

length_from_right : (first last n : ℕ) → length_from first last n ≡ None → IsFrom first last n
length_from_right first last n e = grind arith

length_in_right : (first last : ℕ) (ds : Option Items) → length_in first last ds ≡ None → IsFrom first last (length (listed_in ds))
length_in_right first last None e = absurd (grind arith)
length_in_right first last (Some ds) e =
    subst (IsFrom first last) (sym (length_listed ds)) (length_from_right first last (items_len ds) e)

pub list_at_right : (first last : ℕ) (o : Option Data) → list_at first last o ≡ None → IsFrom first last (length (listed_in (option_and_then as_array o)))
list_at_right first last None e = absurd (grind arith)
list_at_right first last (Some d) e = length_in_right first last (as_array d) e

pub mapped_length : {A B : Type 0} (f : A → B) (xs : List A) (first last : ℕ) → IsFrom first last (length xs) → IsFrom first last (length (map f xs))
mapped_length f xs first last h = subst (IsFrom first last) (sym (length-map xs f)) h

-- ---- tests of a list that fail

either_false : (a b : Bool) → (a || b) ≡ false → (a ≡ false) × (b ≡ false)
either_false true b e = absurd (grind arith)
either_false false b e = (refl, e)

pub none_passes : {A : Type 0} (test : A → Bool) (xs : List A) (k : ℕ) (x : A) → list_any test xs ≡ false → slice_get xs k ≡ Some x → test x ≡ false
none_passes test [] k x e here = absurd (no_some x (sym here))
none_passes test (y ∷ xs) zero x e here =
    subst (λ z. test z ≡ false) (same_some y x here) (either_false (test y) (list_any test xs) e).0
none_passes test (y ∷ xs) (suc k) x e here = none_passes test xs k x (either_false (test y) (list_any test xs) e).1 here
