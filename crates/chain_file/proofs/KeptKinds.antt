-- What is read as a kind's parameters are in their ranges.
use Rattle.std.proofs.Common.{◌≡◌, ℕ, ◌≤◌, List, [], ◌∷◌, length, Option, Some, None, All, codes, bytes_eq, refl, sym, subst, arith}
use Rattle.std.specs.List.{list_any}
use Rattle.serde_json.specs.Data.{Data}
use Rattle.serde_json.specs.Find.{as_str, get}
use Rattle.std.specs.Prelude.{option_and_then}
use Rattle.onvm_base.specs.declared.limits.TheConstants.{MAX_DEPTH, MAX_RATE, MAX_ROUTES, MAX_SERVICES, MAX_TAG_PRIORITY, MAX_TESTS, MAX_VLAN}
use Rattle.onvm_base.specs.declared.function.Kind.{Kind}
use Rattle.onvm_base.specs.declared.function.Kind.TheVariants.{Filter, Tag, Route, Balance, Police, Nat, Guest}
use Rattle.onvm_base.specs.Plan.{AreTests, IsFrom, IsKind, IsName, IsShortPrefix}
use Rattle.chain_file.specs.declared.fault.Cause.{Cause}
use Rattle.chain_file.specs.declared.fault.Cause.TheVariants.{Shape, Unknown}
use Rattle.chain_file.specs.declared.judged.Judged.{Judged}
use Rattle.chain_file.specs.declared.kinds.Word.{Word}
use Rattle.chain_file.specs.declared.kinds.Word.TheVariants as word
use Rattle.chain_file.specs.Causes.{unless}
use Rattle.chain_file.specs.Kinds.{address_at, entry_in, filter_in, kind_in, nat_in, no_word, route_in, short_prefix_at}
use Rattle.chain_file.specs.Matches.{range_in, tests_in}
use Rattle.chain_file.specs.Values.{each, kept, list_at, list_of, must, name_at, number_in, under}
use Rattle.chain_file.proofs.KeptLists.{all_each, list_at_right, mapped_length, no_cause, no_some}
use Rattle.chain_file.proofs.KeptNames.{name_at_right}
use Rattle.chain_file.proofs.KeptPrefixes.{short_prefix_at_right}
use Rattle.chain_file.proofs.KeptTests.{IsRange, range_in_right, tests_right}
use Rattle.chain_file.proofs.Ranges.{number-IsFrom}
use Rattle.chain_file.proofs.Untold.{earlier_none}

-- a kind's rules, kind by kind
abbrev Rules : Kind → Type 0
Rules (Filter tests) = IsFrom 1 MAX_TESTS (length tests) × All AreTests tests
Rules (Tag vlan priority) = (vlan ≤ MAX_VLAN) × (priority ≤ MAX_TAG_PRIORITY)
Rules (Route table) = IsFrom 1 MAX_ROUTES (length table) × All (λ entry. IsShortPrefix entry.prefix) table
Rules (Balance services) = IsFrom 1 MAX_SERVICES (length services)
Rules (Police rate depth) = IsFrom 1 MAX_RATE rate × IsFrom 1 MAX_DEPTH depth
Rules (Nat inside outside ports) = IsShortPrefix inside × ((1 ≤ ports.0) × (ports.0 ≤ ports.1))
Rules (Guest guest) = IsName guest
Rules kind = Unit

by_rules : (kind : Kind) → Rules kind → IsKind kind
by_rules kind h = record {
  filter_length = λ tests e. (subst Rules e h).0;
  filter_tests = λ tests e. (subst Rules e h).1;
  tag_vlan = λ vlan priority e. (subst Rules e h).0;
  tag_priority = λ vlan priority e. (subst Rules e h).1;
  route_length = λ table e. (subst Rules e h).0;
  route_prefixes = λ table e. (subst Rules e h).1;
  balance_length = λ services e. subst Rules e h;
  police_rate = λ rate depth e. (subst Rules e h).0;
  police_depth = λ rate depth e. (subst Rules e h).1;
  nat_inside = λ inside outside ports e. (subst Rules e h).0;
  nat_ports = λ inside outside ports e. (subst Rules e h).1;
  guest_name = λ guest e. subst Rules e h;
}

-- ---- lists

list_by : {A : Type 0} (length_cause : Option Cause) (judged : Judged (List A)) → length_cause ≡ None
    → (kept length_cause judged).value ≡ judged.value
list_by None judged e = refl
list_by (Some cause) judged e = absurd (no_some cause e)

pub record IsListOf {A : Type 0} (judge : Data → Judged A) (first last : ℕ) (key : List ℕ) (d : Data) : Type 0 where
  pub length_of : IsFrom first last (length (list_of judge first last key d).value)
  pub value : (list_of judge first last key d).value ≡ (each judge (under key d)).value
  pub right : (each judge (under key d)).cause ≡ None

list_of_right : {A : Type 0} (judge : Data → Judged A) (first last : ℕ) (key : List ℕ) (d : Data)
    → (list_of judge first last key d).cause ≡ None → IsListOf judge first last key d
list_of_right judge first last key d e =
    let two = earlier_none (list_at first last (get key d)) (each judge (under key d)).cause e in
    let value = list_by (list_at first last (get key d)) (each judge (under key d)) two.0 in
    record {
      length_of = subst (λ xs. IsFrom first last (length xs)) (sym value)
          (mapped_length (λ d. (judge d).value) (under key d) first last (list_at_right first last (get key d) two.0));
      value = value;
      right = two.1;
    }

filter_right : (d : Data) → (filter_in d).cause ≡ None → Rules (filter_in d).value
filter_right d e =
    let l = list_of_right tests_in 1 MAX_TESTS (codes "match") d e in
    (l.length_of, subst (All AreTests) (sym l.value) (all_each AreTests tests_in tests_right (under (codes "match") d) l.right))

entry_right : (d : Data) → IsShortPrefix (entry_in d).value.prefix
unfolding entry_in
entry_right d = short_prefix_at_right (codes "prefix") d

route_right : (d : Data) → (route_in d).cause ≡ None → Rules (route_in d).value
route_right d e =
    let l = list_of_right entry_in 1 MAX_ROUTES (codes "table") d e in (
      l.length_of,
      subst (All (λ entry. IsShortPrefix entry.prefix)) (sym l.value)
          (all_each (λ entry. IsShortPrefix entry.prefix) entry_in (λ one none. entry_right one) (under (codes "table") d) l.right),
    )

must_range : (o : Option Data) → (must (range_in 1 65535) (1, 65535) o).cause ≡ None
    → IsRange 1 65535 (must (range_in 1 65535) (1, 65535) o).value
must_range None e = absurd (no_some Shape e)
must_range (Some d) e = range_in_right 1 65535 d (omega arith) e

nat_right : (d : Data) → (nat_in d).cause ≡ None → Rules (nat_in d).value
nat_right d e =
    let causes = (short_prefix_at (codes "inside") d).cause ∷ (address_at (codes "outside") d).cause
    ∷ (must (range_in 1 65535) (1, 65535) (get (codes "ports") d)).cause ∷ [] in
    let range = must_range (get (codes "ports") d) (no_cause causes e 2) in
    (short_prefix_at_right (codes "inside") d, (range.from, range.order))

-- ---- kinds

rules_of_kind : (guests : List (List ℕ)) (w : Option Word) (d : Data) → (kind_in guests w d).cause ≡ None → Rules (kind_in guests w d).value
rules_of_kind guests None d e = absurd (no_some (no_word (option_and_then as_str (get (codes "kind") d))) e)
rules_of_kind guests (Some word.Forward) d e = tt
rules_of_kind guests (Some word.Drop) d e = tt
rules_of_kind guests (Some word.Out) d e = tt
rules_of_kind guests (Some word.To) d e = tt
rules_of_kind guests (Some word.Filter) d e = filter_right d e
rules_of_kind guests (Some word.Ttl) d e = tt
rules_of_kind guests (Some word.Tag) d e = (
  (number-IsFrom (codes "vlan") 0 MAX_VLAN d (omega arith)).1,
  (number-IsFrom (codes "tag_priority") 0 MAX_TAG_PRIORITY d (omega arith)).1,
)
rules_of_kind guests (Some word.Untag) d e = tt
rules_of_kind guests (Some word.Macs) d e = tt
rules_of_kind guests (Some word.Route) d e = route_right d e
rules_of_kind guests (Some word.Balance) d e = (list_of_right (number_in 0 255) 1 MAX_SERVICES (codes "services") d e).length_of
rules_of_kind guests (Some word.Count) d e = tt
rules_of_kind guests (Some word.Police) d e = (
  number-IsFrom (codes "rate") 1 MAX_RATE d (omega arith),
  number-IsFrom (codes "depth") 1 MAX_DEPTH d (omega arith),
)
rules_of_kind guests (Some word.Nat) d e = nat_right d e
rules_of_kind guests (Some word.Guest) d e =
    let name = name_at (get (codes "guest") d) in
    name_at_right (get (codes "guest") d)
    (earlier_none name.cause (unless (list_any (bytes_eq name.value) guests) Unknown) e).0

pub kind_right : (guests : List (List ℕ)) (w : Option Word) (d : Data) → (kind_in guests w d).cause ≡ None → IsKind (kind_in guests w d).value
kind_right guests w d e = by_rules (kind_in guests w d).value (rules_of_kind guests w d e)
