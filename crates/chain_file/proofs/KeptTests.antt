-- What is read as a match object is one.
use Rattle.std.proofs.Common.{◌≡◌, ℕ, ◌-◌, ◌≤◌, Bool, true, false, nat_le, ◌&&◌, List, [], ◌∷◌, Option, Some, None, option_and_then, codes, if◌then◌else◌, refl, sym, ap, ◌∙◌, subst, arith, ℤ, pos, int_le}
use Rattle.serde_json.specs.Data.{Data}
use Rattle.serde_json.specs.Find.{as_i64, as_number, as_u64, get}
use Rattle.onvm_base.specs.declared.limits.TheConstants.{MAX_PORTS, MAX_VLAN}
use Rattle.onvm_base.specs.Plan.{AreTests}
use Rattle.chain_file.specs.declared.fault.Cause.{Cause}
use Rattle.chain_file.specs.declared.fault.Cause.TheVariants.{Limit, Shape}
use Rattle.chain_file.specs.Causes.{unless}
use Rattle.chain_file.specs.Matches.{are_in_order, can, integer_from, integer_of, pair_in, port_test, prefix_at, range_from, range_in, test, test_keys, tests_in}
use Rattle.chain_file.specs.Values.{items, number_in, only, right, whole, wrong}
use Rattle.chain_file.proofs.KeptLists.{no_cause, no_some, same_some, unless_none}
use Rattle.chain_file.proofs.KeptPrefixes.{prefix_at_right}
use Rattle.chain_file.proofs.Ranges.{number_in-IsFrom}

-- ---- numbers

can_within : (last : ℕ) (o : Option Data) (n : ℕ) → (can (number_in 0 last) o).value ≡ Some n → n ≤ last
can_within last None n e = absurd (no_some n (sym e))
can_within last (Some d) n e =
    let within = number_in-IsFrom 0 last d (omega arith) in
    subst (λ m. m ≤ last) (same_some (number_in 0 last d).value n e) within.1

-- ---- pairs

from_right : (first last n : ℕ) (test : Bool) → (if test then right n else wrong Limit first).cause ≡ None
    → (if test then right n else wrong Limit first).value ≡ n
from_right first last n true e = refl
from_right first last n false e = absurd (no_some Limit e)

-- a number that is right is the whole number that stands there
whole_right : (first last : ℕ) (n : Option ℕ) (z : Option ℤ) → (whole first last n z).cause ≡ None
    → integer_from n z ≡ Some (pos (whole first last n z).value)
whole_right first last (Some n) z e =
    ap (λ m. Some (pos m)) (sym (from_right first last n (nat_le first n && nat_le n last) e))
whole_right first last None (Some z) e = absurd (no_some Limit e)
whole_right first last None None e = absurd (no_some Shape e)

number_in_right : (first last : ℕ) (d : Data) → (number_in first last d).cause ≡ None
    → integer_of d ≡ Some (pos (number_in first last d).value)
number_in_right first last d e =
    whole_right first last (option_and_then as_u64 (as_number d)) (option_and_then as_i64 (as_number d)) e

in_order : (m n : ℕ) → int_le (pos m) (pos n) ≡ true → m ≤ n
in_order m n e = grind arith

pub record IsRange (first last : ℕ) (range : ℕ × ℕ) : Type 0 where
  pub from : first ≤ range.0
  pub order : range.0 ≤ range.1
  pub to : range.1 ≤ last

pair_right : (first last : ℕ) (low high : Data) → first ≤ last → (pair_in first last low high).cause ≡ None
    → IsRange first last (pair_in first last low high).value
pair_right first last low high h e =
    let causes = (number_in first last low).cause ∷ (number_in first last high).cause
    ∷ unless (are_in_order (integer_of low) (integer_of high)) Shape ∷ [] in
    let low_right = number_in_right first last low (no_cause causes e 0) in
    let high_right = number_in_right first last high (no_cause causes e 1) in
    let ordered = unless_none (are_in_order (integer_of low) (integer_of high)) Shape (no_cause causes e 2) in
    let whole_order : are_in_order (Some (pos (number_in first last low).value)) (Some (pos (number_in first last high).value)) ≡ true =
    ap (λ o. are_in_order o (Some (pos (number_in first last high).value))) (sym low_right)
    ∙ ap (are_in_order (integer_of low)) (sym high_right) ∙ ordered in
    let from = number_in-IsFrom first last low h in
    let to = number_in-IsFrom first last high h in
    record { from = from.0; order = in_order _ _ whole_order; to = to.1 }

range_from_right : (first last : ℕ) (ds : List Data) → first ≤ last → (range_from first last ds).cause ≡ None
    → IsRange first last (range_from first last ds).value
range_from_right first last [] h e = absurd (no_some Shape e)
range_from_right first last (a ∷ []) h e = absurd (no_some Shape e)
range_from_right first last (a ∷ b ∷ []) h e = pair_right first last a b h e
range_from_right first last (a ∷ b ∷ c ∷ ds) h e = absurd (no_some Shape e)

pub range_in_right : (first last : ℕ) (d : Data) → first ≤ last → (range_in first last d).cause ≡ None
    → IsRange first last (range_in first last d).value
range_in_right first last d h e = range_from_right first last (items d) h e

can_range : (o : Option Data) (range : ℕ × ℕ) → (can (range_in 0 65535) o).cause ≡ None
    → (can (range_in 0 65535) o).value ≡ Some range → range.0 ≤ range.1
can_range None range e is = absurd (no_some range (sym is))
can_range (Some d) range e is =
    subst (λ (r : ℕ × ℕ). r.0 ≤ r.1) (same_some (range_in 0 65535 d).value range is)
    (range_in_right 0 65535 d (omega arith) e).order

-- ---- match objects

abbrev test_causes : Data → List (Option Cause)
test_causes d =
    only test_keys [] d
    ∷ (test (codes "port") (MAX_PORTS - 1) d).cause
    ∷ (test (codes "vlan") MAX_VLAN d).cause
    ∷ (test (codes "type") 65535 d).cause
    ∷ (prefix_at (get (codes "src") d)).cause
    ∷ (prefix_at (get (codes "dst") d)).cause
    ∷ (test (codes "protocol") 255 d).cause
    ∷ (port_test (codes "src_ports") d).cause
    ∷ (port_test (codes "dst_ports") d).cause
    ∷ []

pub tests_right : (d : Data) → (tests_in d).cause ≡ None → AreTests (tests_in d).value
unfolding tests_in
tests_right d e = record {
  port = λ n is. let within = can_within (MAX_PORTS - 1) (get (codes "port") d) n is in omega (arith, within);
  vlan = λ n is. can_within MAX_VLAN (get (codes "vlan") d) n is;
  source = λ p is. prefix_at_right (get (codes "src") d) p is;
  target = λ p is. prefix_at_right (get (codes "dst") d) p is;
  source_ports = λ range is. can_range (get (codes "src_ports") d) range (no_cause (test_causes d) e 7) is;
  target_ports = λ range is. can_range (get (codes "dst_ports") d) range (no_cause (test_causes d) e 8) is;
}
