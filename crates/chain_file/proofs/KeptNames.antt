-- What is read as a name is one.
use Rattle.std.proofs.Common.{◌≡◌, ℕ, ◌≤◌, Bool, true, false, nat_le, ◌&&◌, List, [], ◌∷◌, length, Option, Some, None, All, if◌then◌else◌, refl, arith}
use Rattle.std.specs.Prelude.{option_and_then}
use Rattle.std.specs.List.{list_all}
use Rattle.std.proofs.lemmas.List.Elements.{All-cons, All-nil}
use Rattle.serde_json.specs.Data.{Data}
use Rattle.serde_json.specs.Find.{as_str}
use Rattle.onvm_base.specs.declared.limits.TheConstants.{MAX_NAME_BYTES}
use Rattle.onvm_base.specs.Plan.{IsName, is_name_character}
use Rattle.chain_file.specs.declared.fault.Cause.TheVariants.{Shape}
use Rattle.chain_file.specs.Values.{is_name, name_at, name_in, right, wrong}
use Rattle.chain_file.proofs.KeptLists.{no_some}

pub both_true : (a b : Bool) → (a && b) ≡ true → (a ≡ true) × (b ≡ true)
both_true true b e = (refl, e)
both_true false b e = absurd (grind arith)

pub at_most : (m n : ℕ) → nat_le m n ≡ true → m ≤ n
at_most m n e = grind arith

all_pass : {A : Type 0} (test : A → Bool) (xs : List A) → list_all test xs ≡ true → All (λ x. test x ≡ true) xs
all_pass test [] e = All-nil (λ x. test x ≡ true)
all_pass test (x ∷ xs) e =
    let two = both_true (test x) (list_all test xs) e in
    All-cons (λ x. test x ≡ true) x xs two.0 (all_pass test xs two.1)

pub is_name-IsName : (text : List ℕ) → is_name text ≡ true → IsName text
is_name-IsName text e =
    let two = both_true (nat_le 1 (length text) && nat_le (length text) MAX_NAME_BYTES) (list_all is_name_character text) e in
    let long = both_true (nat_le 1 (length text)) (nat_le (length text) MAX_NAME_BYTES) two.0 in
    record {
      length_of = (at_most 1 (length text) long.0, at_most (length text) MAX_NAME_BYTES long.1);
      characters = all_pass is_name_character text two.1;
    }

name_by : (text : List ℕ) (test : Bool) → is_name text ≡ test → (if test then right text else wrong Shape []).cause ≡ None
    → IsName (if test then right text else wrong Shape []).value
name_by text true is e = is_name-IsName text is
name_by text false is e = absurd (no_some Shape e)

name_in_right : (text : Option (List ℕ)) → (name_in text).cause ≡ None → IsName (name_in text).value
name_in_right None e = absurd (no_some Shape e)
name_in_right (Some text) e = name_by text (is_name text) refl e

pub name_at_right : (o : Option Data) → (name_at o).cause ≡ None → IsName (name_at o).value
name_at_right o e = name_in_right (option_and_then as_str o) e
