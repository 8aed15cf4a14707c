-- What is read of an object that was written row by row, and of a list.
use Rattle.std.proofs.Common.{◌≡◌, ℕ, zero, suc, Bool, true, false, not, ◌&&◌, ◌||◌, nat_le, if◌then◌else◌, List, [], ◌∷◌, length, map, take, slice_get, Option, Some, None, option_map, option_and_then, All, IfSome, bytes_eq, Ordering, Less, Equal, Greater, nat_cmp, refl, sym, ap, ◌∙◌, subst, arith}
use Rattle.std.specs.List.{list_any, list_all}
use Rattle.std.specs.Ordering.{match_ordering}
use Rattle.std.specs.Cmp.Lexicographic.{slice_cmp}
use Rattle.std.proofs.lemmas.Slice.Eq.{bytes_eq-Decides}
use Rattle.serde_json.specs.Data.{Data, string, array, item, Members, no_members, member, put}
use Rattle.serde_json.specs.Events.{items_len}
use Rattle.serde_json.specs.Find.{get, get_member, as_array}
use Rattle.serde_json.specs.View.{items_of}
use Rattle.serde_json.proofs.Views.{get_member-put, get_member-put_other}
use Rattle.onvm_base.specs.Plan.{IsFrom, IsName, is_name_character}
use Rattle.chain_file.specs.declared.fault.Cause.{Cause}
use Rattle.chain_file.specs.declared.judged.Judged.{Judged}
use Rattle.chain_file.specs.File.{cause_at}
use Rattle.chain_file.specs.Values.{right, must, may, number_in, number, number_or, length_from, list_at, listed, listed_in, under, each, is_name, name_at, are_among, only}
use Rattle.chain_file.specs.Written.{Row, members_of, member_if, object_of, natural, list}
use Rattle.chain_file.proofs.Compact.{sorted, sorted_items, sorted_members, IsText, IsPlain, ItemsArePlain, MembersArePlain}
use Rattle.chain_file.proofs.KeptFunctions.{text_differs}
use Rattle.chain_file.proofs.KeptNames.{both_true}
use Rattle.chain_file.proofs.Spelled.{is_letter}

-- ---- keys

abbrev pub is_key : List ℕ → List Row → Bool
is_key key rows = list_any (λ r. bytes_eq key r.0) rows

abbrev pub are_distinct : List Row → Bool
are_distinct [] = true
are_distinct (r ∷ rs) = not (is_key r.0 rs) && are_distinct rs

-- what stands in the row of a key
abbrev pub value_at : List ℕ → List Row → Option Data
value_at key [] = None
value_at key (r ∷ rs) = if bytes_eq key r.0 then r.1 else value_at key rs

abbrev or_else : Option Data → Option Data → Option Data
or_else None other = other
or_else (Some d) other = Some d

no_key : (key : List ℕ) (rows : List Row) → is_key key rows ≡ false → value_at key rows ≡ None
no_key key [] e = refl
no_key key (r ∷ rs) e = by (bytes_eq key r.0) refl (no_key key rs)
  where
    by : (here : Bool) → bytes_eq key r.0 ≡ here → (is_key key rs ≡ false → value_at key rs ≡ None) → value_at key (r ∷ rs) ≡ None
    by true is rest = let off : true ≡ false = rw is at e in cc
    by false is rest = rw is (rest (rw is at e))

not_is : (b : Bool) → not b ≡ true → b ≡ false
not_is true e = absurd (grind arith)
not_is false e = refl

same_key : (key k : List ℕ) → bytes_eq key k ≡ true → key ≡ k
same_key key k e = (bytes_eq-Decides key k).0 e

abbrev FoundAt : List ℕ → List Row → Members → Type 0
FoundAt key rows found =
    get_member key (sorted_members (members_of rows) found) ≡ or_else (option_map sorted (value_at key rows)) (get_member key found)

found_at : (key : List ℕ) (rows : List Row) (found : Members) → are_distinct rows ≡ true → FoundAt key rows found
found_at key [] found e = refl
found_at key (r ∷ rs) found e = by r.1 (bytes_eq key r.0) refl (found_at key rs)
  where
    two : (not (is_key r.0 rs) ≡ true) × (are_distinct rs ≡ true)
    two = both_true (not (is_key r.0 rs)) (are_distinct rs) e

    later : bytes_eq key r.0 ≡ true → value_at key rs ≡ None
    later is = no_key key rs (subst (λ k. is_key k rs ≡ false) (sym (same_key key r.0 is)) (not_is (is_key r.0 rs) two.0))

    by : (o : Option Data) (here : Bool) → bytes_eq key r.0 ≡ here → ((before : Members) → are_distinct rs ≡ true → FoundAt key rs before)
        → get_member key (sorted_members (member_if r.0 o (members_of rs)) found)
        ≡ or_else (option_map sorted (if bytes_eq key r.0 then o else value_at key rs)) (get_member key found)
    by None true is rest = rest found two.1 ∙ rw (is, later is) refl
    by None false is rest = rest found two.1 ∙ rw is refl
    by (Some d) true is rest =
        rest (put r.0 (sorted d) found) two.1
        ∙ rw (is, later is) (subst (λ k. get_member k (put r.0 (sorted d) found) ≡ Some (sorted d)) (sym (same_key key r.0 is)) (get_member-put r.0 (sorted d) found))
    by (Some d) false is rest =
        rest (put r.0 (sorted d) found) two.1
        ∙ rw is (ap (or_else (option_map sorted (value_at key rs))) (get_member-put_other key r.0 (sorted d) found (text_differs key r.0 is)))

or_nothing : (o : Option Data) → or_else o None ≡ o
or_nothing None = refl
or_nothing (Some d) = refl

pub get_of : (key : List ℕ) (rows : List Row) → are_distinct rows ≡ true → get key (sorted (object_of rows)) ≡ option_map sorted (value_at key rows)
get_of key rows e = found_at key rows no_members e ∙ or_nothing (option_map sorted (value_at key rows))

abbrev pub is_known : (keys own : List (List ℕ)) → List ℕ → Bool
is_known keys own k = list_any (bytes_eq k) keys || list_any (bytes_eq k) own

among_at : (o : Ordering) (keys own : List (List ℕ)) (k l : List ℕ) (d e : Data) (ms : Members)
    → is_known keys own k ≡ true → is_known keys own l ≡ true → are_among keys own ms ≡ true → are_among keys own (put k d ms) ≡ true
    → are_among keys own (match_ordering o (member k d (member l e ms)) (member l d ms) (member l e (put k d ms))) ≡ true
among_at Less keys own k l d e ms hk hl h g = rw (hk, hl, h) refl
among_at Equal keys own k l d e ms hk hl h g = rw (hl, h) refl
among_at Greater keys own k l d e ms hk hl h g = rw (hl, g) refl

among-put : (keys own : List (List ℕ)) (k : List ℕ) (d : Data) (ms : Members) → is_known keys own k ≡ true → are_among keys own ms ≡ true
    → are_among keys own (put k d ms) ≡ true
among-put keys own k d no_members hk h = rw hk refl
among-put keys own k d (member l e ms) hk h =
    let two = both_true (is_known keys own l) (are_among keys own ms) h in
    among_at (slice_cmp nat_cmp k l) keys own k l d e ms hk two.0 two.1 (among-put keys own k d ms hk two.1)

abbrev pub are_known : (keys own : List (List ℕ)) → List Row → Bool
are_known keys own rows = list_all (λ r. is_known keys own r.0) rows

among_rows : (keys own : List (List ℕ)) (rows : List Row) (found : Members) → are_known keys own rows ≡ true → are_among keys own found ≡ true
    → are_among keys own (sorted_members (members_of rows) found) ≡ true
among_rows keys own [] found e h = h
among_rows keys own (r ∷ rs) found e h = by r.1 (among_rows keys own rs)
  where
    two : (is_known keys own r.0 ≡ true) × (are_known keys own rs ≡ true)
    two = both_true (is_known keys own r.0) (are_known keys own rs) e

    by : (o : Option Data)
        → ((before : Members) → are_known keys own rs ≡ true → are_among keys own before ≡ true
        → are_among keys own (sorted_members (members_of rs) before) ≡ true)
        → are_among keys own (sorted_members (member_if r.0 o (members_of rs)) found) ≡ true
    by None rest = rest found two.1 h
    by (Some d) rest = rest (put r.0 (sorted d) found) two.1 (among-put keys own r.0 (sorted d) found two.0 h)

pub only_right : (keys own : List (List ℕ)) (rows : List Row) → are_known keys own rows ≡ true → only keys own (sorted (object_of rows)) ≡ None
only_right keys own rows e = let among = among_rows keys own rows no_members e refl in rw among refl

pub row_plain : (levels : ℕ) (key : List ℕ) (o : Option Data) (ms : Members) → IsText key → IfSome o (IsPlain levels) → MembersArePlain levels ms
    → MembersArePlain levels (member_if key o ms)
row_plain levels key None ms text h rest = rest
row_plain levels key (Some d) ms text h rest = (text, h, rest)

-- ---- numbers

pub number_in_right : (first last n : ℕ) → IsFrom first last n → number_in first last (natural n) ≡ right n
number_in_right first last n h =
    let above : nat_le first n ≡ true = grind arith in
    let below : nat_le n last ≡ true = grind arith in
    rw (above, below) refl

pub number_right : (key : List ℕ) (first last n : ℕ) (d : Data) → get key d ≡ Some (natural n) → IsFrom first last n → number key first last d ≡ right n
number_right key first last n d e h = ap (must (number_in first last) first) e ∙ number_in_right first last n h

pub number_or_right : (key : List ℕ) (first last default n : ℕ) (d : Data) → get key d ≡ Some (natural n) → IsFrom first last n
    → number_or key first last default d ≡ right n
number_or_right key first last default n d e h = ap (may (number_in first last) default) e ∙ number_in_right first last n h

-- ---- names

all_true : {A : Type 0} (test : A → Bool) (xs : List A) → All (λ x. test x ≡ true) xs → list_all test xs ≡ true
all_true test [] h = refl
all_true test (x ∷ xs) h = rw (h 0 x (omega arith)) (all_true test xs (λ k d less. h (suc k) d (omega arith)))

pub name_is : (name : List ℕ) → IsName name → is_name name ≡ true
name_is name h =
    let some : nat_le 1 (length name) ≡ true = let l = h.length_of.0 in grind arith in
    let few : nat_le (length name) 32 ≡ true = let l = h.length_of.1 in grind arith in
    rw (some, few) (all_true is_name_character name h.characters)

name_letter : (c : ℕ) → is_name_character c ≡ true → is_letter c ≡ true
name_letter c e = grind arith

letters_from : (cs : List ℕ) → list_all is_name_character cs ≡ true → IsText cs
letters_from [] e = refl
letters_from (c ∷ cs) e =
    let two = both_true (is_name_character c) (list_all is_name_character cs) e in
    rw (name_letter c two.0) (letters_from cs two.1)

pub name_text : (name : List ℕ) → IsName name → IsText name
name_text name h = letters_from name (all_true is_name_character name h.characters)

pub name_at_right : (name : List ℕ) (o : Option Data) → o ≡ Some (string name) → IsName name → name_at o ≡ right name
name_at_right name o e h = ap name_at e ∙ rw (name_is name h) refl

-- ---- lists

pub sorted-list : (ds : List Data) → sorted (list ds) ≡ list (map sorted ds)
sorted-list ds = ap array (items ds)
  where
    items : (ds : List Data) → sorted_items (items_of ds) ≡ items_of (map sorted ds)
    items [] = refl
    items (d ∷ ds) = ap (item (sorted d)) (items ds)

pub map-map : {A B C : Type 0} (f : B → C) (g : A → B) (xs : List A) → map f (map g xs) ≡ map (λ x. f (g x)) xs
map-map f g [] = refl
map-map f g (x ∷ xs) = ap (λ ys. f (g x) ∷ ys) (map-map f g xs)

pub sorted-mapped : {A : Type 0} (form : A → Data) (xs : List A) → sorted (list (map form xs)) ≡ list (map (λ x. sorted (form x)) xs)
sorted-mapped form xs = sorted-list (map form xs) ∙ ap list (map-map sorted form xs)

listed-items_of : (ds : List Data) → listed (items_of ds) ≡ ds
listed-items_of [] = refl
listed-items_of (d ∷ ds) = ap (λ es. d ∷ es) (listed-items_of ds)

len-items_of : (ds : List Data) → items_len (items_of ds) ≡ length ds
len-items_of [] = refl
len-items_of (d ∷ ds) = ap suc (len-items_of ds)

length-map : {A B : Type 0} (f : A → B) (xs : List A) → length (map f xs) ≡ length xs
length-map f [] = refl
length-map f (x ∷ xs) = ap suc (length-map f xs)

pub under_is : {A : Type 0} (key : List ℕ) (d : Data) (form : A → Data) (xs : List A) → get key d ≡ Some (list (map form xs)) → under key d ≡ map form xs
under_is key d form xs e = ap (λ o. listed_in (option_and_then as_array o)) e ∙ listed-items_of (map form xs)

length_from_right : (first last n : ℕ) → IsFrom first last n → length_from first last n ≡ None
length_from_right first last n h =
    let above : nat_le first n ≡ true = grind arith in
    let below : nat_le n last ≡ true = grind arith in
    rw (above, below) refl

pub list_at_is : {A : Type 0} (first last : ℕ) (o : Option Data) (form : A → Data) (xs : List A) → o ≡ Some (list (map form xs))
    → IsFrom first last (length xs) → list_at first last o ≡ None
list_at_is first last o form xs e h =
    ap (list_at first last) e ∙ ap (length_from first last) (len-items_of (map form xs) ∙ length-map form xs) ∙ length_from_right first last (length xs) h

pub items_plain : {A : Type 0} (levels : ℕ) (form : A → Data) (xs : List A) → All (λ x. IsPlain levels (form x)) xs → ItemsArePlain levels (items_of (map form xs))
items_plain levels form [] h = tt
items_plain levels form (x ∷ xs) h = (h 0 x (omega arith), items_plain levels form xs (λ k d less. h (suc k) d (omega arith)))

pub each_right : {A : Type 0} (judge : Data → Judged A) (form : A → Data) (xs : List A) → All (λ x. judge (form x) ≡ right x) xs
    → each judge (map form xs) ≡ right xs
each_right judge form [] h = refl
each_right judge form (x ∷ xs) h =
    rw (
      h 0 x (omega arith),
      ap (λ j. j.cause) (each_right judge form xs (λ k d less. h (suc k) d (omega arith))),
      ap (λ j. j.value) (each_right judge form xs (λ k d less. h (suc k) d (omega arith))),
    ) refl

-- ---- places of a list

pub map-take : {A B : Type 0} (f : A → B) (xs : List A) (k : ℕ) → take k (map f xs) ≡ map f (take k xs)
map-take f [] zero = refl
map-take f [] (suc k) = refl
map-take f (x ∷ xs) zero = refl
map-take f (x ∷ xs) (suc k) = ap (λ ys. f x ∷ ys) (map-take f xs k)

pub values_back : {A : Type 0} (value : Data → A) (form : A → Data) (xs : List A) → All (λ x. value (form x) ≡ x) xs → map value (map form xs) ≡ xs
values_back value form [] h = refl
values_back value form (x ∷ xs) h =
    rw (h 0 x (omega arith)) (ap (λ ys. x ∷ ys) (values_back value form xs (λ k d less. h (suc k) d (omega arith))))

pub values_back_to : {A : Type 0} (value : Data → A) (form : A → Data) (xs : List A) (k : ℕ) → All (λ x. value (form x) ≡ x) xs
    → map value (take k (map form xs)) ≡ take k xs
values_back_to value form [] zero h = refl
values_back_to value form [] (suc k) h = refl
values_back_to value form (x ∷ xs) zero h = refl
values_back_to value form (x ∷ xs) (suc k) h =
    rw (h 0 x (omega arith)) (ap (λ ys. x ∷ ys) (values_back_to value form xs k (λ k d less. h (suc k) d (omega arith))))

slice_get-map : {A : Type 0} (form : A → Data) (xs : List A) (k : ℕ) → slice_get (map form xs) k ≡ option_map form (slice_get xs k)
slice_get-map form [] k = refl
slice_get-map form (x ∷ xs) zero = refl
slice_get-map form (x ∷ xs) (suc k) = slice_get-map form xs k

pub each_place : {A : Type 0} (judge : Data → Option Cause) (form : A → Data) (xs : List A) (k : ℕ)
    → ((x : A) → slice_get xs k ≡ Some x → judge (form x) ≡ None) → option_and_then judge (slice_get (map form xs) k) ≡ None
each_place judge form xs k h = ap (option_and_then judge) (slice_get-map form xs k) ∙ by (slice_get xs k) refl
  where
    by : (o : Option _) → slice_get xs k ≡ o → option_and_then judge (option_map form o) ≡ None
    by None is = refl
    by (Some x) is = h x is

pub no_cause_at : {A : Type 0} (judge : List Data → Data → Option Cause) (form : A → Data) (xs : List A) (k : ℕ)
    → ((x : A) → slice_get xs k ≡ Some x → judge (take k (map form xs)) (form x) ≡ None) → cause_at judge (map form xs) k ≡ None
no_cause_at judge form xs k h = each_place (judge (take k (map form xs))) form xs k h

-- an item that stands at a place is one of all
pub item_of : {A : Type 0} (P : A → Type 0) (xs : List A) (k : ℕ) (x : A) → All P xs → slice_get xs k ≡ Some x → P x
item_of P [] k x h e = absurd (grind arith)
item_of P (y ∷ ys) zero x h e = let same : y ≡ x = cc in subst P same (h 0 y (omega arith))
item_of P (y ∷ ys) (suc k) x h e = item_of P ys k x (λ i d less. h (suc i) d (omega arith)) e
