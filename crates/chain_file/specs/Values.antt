-- Values of an object by their keys, and what is wrong with them.
use Rattle.std.specs.Prelude.{ℕ, ◌&&◌, ◌||◌, nat_le, if◌then◌else◌, Bool, true, ℤ, Option, Some, None, option_and_then, List, [], ◌∷◌, length, map, bytes_eq}
use Rattle.std.specs.List.{list_any, list_all}
use Rattle.serde_json.specs.Data.{Data, Items, no_items, item, Members, no_members, member}
use Rattle.serde_json.specs.Events.{items_len}
use Rattle.serde_json.specs.Find.{get, as_number, as_u64, as_i64, as_str, as_array, as_object}
use Rattle.onvm_base.specs.declared.limits.TheConstants.{MAX_NAME_BYTES}
use Rattle.onvm_base.specs.Plan.{is_name_character}
use Rattle.chain_file.specs.declared.fault.Cause.{Cause}
use Rattle.chain_file.specs.declared.fault.Cause.TheVariants.{Shape, Unknown, Limit}
use Rattle.chain_file.specs.declared.judged.Judged.{Judged}
use Rattle.chain_file.specs.Causes.{earlier, first_of, unless}

abbrev pub right : {A : Type 0} → A → Judged A
right value = record { cause = None; value = value }

-- something is wrong, and this stands in for the value
abbrev pub wrong : {A : Type 0} → Cause → A → Judged A
wrong cause value = record { cause = Some cause; value = value }

-- under a key that has to be there
abbrev pub must : {A : Type 0} → (Data → Judged A) → A → Option Data → Judged A
must judge none None = wrong Shape none
must judge none (Some d) = judge d

-- under a key with a default
abbrev pub may : {A : Type 0} → (Data → Judged A) → A → Option Data → Judged A
may judge default None = right default
may judge default (Some d) = judge d

-- ---- numbers

abbrev pub number_from : (first last : ℕ) → ℕ → Judged ℕ
number_from first last n = if nat_le first n && nat_le n last then right n else wrong Limit first

-- a number below 0 is out of every range, one that isn't whole is none
abbrev pub not_natural : (first : ℕ) → Option ℤ → Judged ℕ
not_natural first (Some z) = wrong Limit first
not_natural first None = wrong Shape first

abbrev pub whole : (first last : ℕ) → Option ℕ → Option ℤ → Judged ℕ
whole first last (Some n) z = number_from first last n
whole first last None z = not_natural first z

-- a whole number from the first to the last
abbrev pub number_in : (first last : ℕ) → Data → Judged ℕ
number_in first last d = whole first last (option_and_then as_u64 (as_number d)) (option_and_then as_i64 (as_number d))

abbrev pub number : List ℕ → (first last : ℕ) → Data → Judged ℕ
number key first last d = must (number_in first last) first (get key d)

abbrev pub number_or : List ℕ → (first last default : ℕ) → Data → Judged ℕ
number_or key first last default d = may (number_in first last) default (get key d)

-- ---- two values

abbrev pub of_one : {A B : Type 0} → (A → B) → Judged A → Judged B
of_one f a = record { cause = a.cause; value = f a.value }

abbrev pub of_two : {A B C : Type 0} → (A → B → C) → Judged A → Judged B → Judged C
of_two f a b = record { cause = earlier a.cause b.cause; value = f a.value b.value }

-- ---- lists

abbrev pub length_from : (first last : ℕ) → ℕ → Option Cause
length_from first last n = unless (nat_le first n && nat_le n last) Limit

abbrev pub length_in : (first last : ℕ) → Option Items → Option Cause
length_in first last None = Some Shape
length_in first last (Some ds) = length_from first last (items_len ds)

-- a list with so many items. What its items are isn't looked at
abbrev pub list_in : (first last : ℕ) → Data → Option Cause
list_in first last d = length_in first last (as_array d)

abbrev pub list_at : (first last : ℕ) → Option Data → Option Cause
list_at first last None = Some Shape
list_at first last (Some d) = list_in first last d

abbrev pub listed : Items → List Data
listed no_items = []
listed (item d ds) = d ∷ listed ds

abbrev pub listed_in : Option Items → List Data
listed_in None = []
listed_in (Some ds) = listed ds

-- the items of a list. What is no list has none
abbrev pub items : Data → List Data
items d = listed_in (as_array d)

-- the items of the list under a key
abbrev pub under : List ℕ → Data → List Data
under key d = listed_in (option_and_then as_array (get key d))

-- the items that are given, or none
abbrev pub given : Option (List Data) → List Data
given None = []
given (Some ds) = ds

-- items, each judged
abbrev pub each : {A : Type 0} → (Data → Judged A) → List Data → Judged (List A)
each judge ds = record { cause = first_of (map (λ d. (judge d).cause) ds); value = map (λ d. (judge d).value) ds }

-- the items of a list of wrong length are judged, and not kept
abbrev pub kept : {A : Type 0} → (length_cause : Option Cause) → Judged (List A) → Judged (List A)
kept None judged = judged
kept (Some cause) judged = record { cause = judged.cause; value = [] }

-- a list of so many items, each judged
abbrev pub list_of : {A : Type 0} → (Data → Judged A) → (first last : ℕ) → List ℕ → Data → Judged (List A)
list_of judge first last key d = record {
  cause = earlier (list_at first last (get key d)) (each judge (under key d)).cause;
  value = (kept (list_at first last (get key d)) (each judge (under key d))).value;
}

-- ---- names

abbrev pub is_name : List ℕ → Bool
is_name text = nat_le 1 (length text) && nat_le (length text) MAX_NAME_BYTES && list_all is_name_character text

abbrev pub name_of : List ℕ → Judged (List ℕ)
name_of text = if is_name text then right text else wrong Shape []

abbrev pub name_in : Option (List ℕ) → Judged (List ℕ)
name_in None = wrong Shape []
name_in (Some text) = name_of text

-- a name under a key that has to be there
abbrev pub name_at : Option Data → Judged (List ℕ)
name_at d = name_in (option_and_then as_str d)

-- ---- keys

-- each key is one of these, or one of the kind's own
abbrev pub are_among : (keys own : List (List ℕ)) → Members → Bool
are_among keys own no_members = true
are_among keys own (member k d ms) = (list_any (bytes_eq k) keys || list_any (bytes_eq k) own) && are_among keys own ms

abbrev pub keys_in : (keys own : List (List ℕ)) → Option Members → Option Cause
keys_in keys own None = Some Shape
keys_in keys own (Some ms) = unless (are_among keys own ms) Unknown

-- an object with no other keys
abbrev pub only : (keys own : List (List ℕ)) → Data → Option Cause
only keys own d = keys_in keys own (as_object d)
