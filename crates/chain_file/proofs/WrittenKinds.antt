-- Written kinds and functions are read back.
use Rattle.std.proofs.Common.{◌≡◌, ℕ, ◌-◌, ◌^◌, ◌<◌, ◌≤◌, true, List, [], ◌∷◌, length, map, codes, Option, Some, None, option_map, option_and_then, All, refl, ap, ◌∙◌, arith}
use Rattle.serde_json.specs.Data.{Data, string}
use Rattle.serde_json.specs.Find.{get, as_str}
use Rattle.onvm_base.specs.declared.limits.TheConstants.{MAX_COST, MAX_DEPTH, MAX_PRIORITY, MAX_RATE, MAX_ROUTES, MAX_SERVICES, MAX_TAG_PRIORITY, MAX_TESTS, MAX_VLAN, MAX_WEIGHT}
use Rattle.onvm_base.specs.declared.rules.Prefix.{Prefix}
use Rattle.onvm_base.specs.declared.chain.ChainStep.{ChainStep}
use Rattle.onvm_base.specs.declared.chain.ChainStep.TheVariants as step
use Rattle.onvm_base.specs.declared.function.RouteEntry.{RouteEntry}
use Rattle.onvm_base.specs.declared.function.Kind.{Kind}
use Rattle.onvm_base.specs.declared.function.Kind.TheVariants as kind
use Rattle.onvm_base.specs.declared.function.FunctionPlan.{FunctionPlan}
use Rattle.onvm_base.specs.Plan.{AreTests, IsFrom, IsFunction, IsKind, IsShortPrefix}
use Rattle.chain_file.specs.declared.fault.Cause.{Cause}
use Rattle.chain_file.specs.declared.judged.Judged.{Judged}
use Rattle.chain_file.specs.declared.kinds.Word.{Word}
use Rattle.chain_file.specs.declared.kinds.Word.TheVariants as word
use Rattle.chain_file.specs.Causes.{earlier}
use Rattle.chain_file.specs.Functions.{function_in, word_in}
use Rattle.chain_file.specs.Guests.{HasGuest}
use Rattle.chain_file.specs.Kinds.{short_prefix_at, address_at, mac_at, spelled_or, nowhere, entry_in, entry_to, entry_out, either, entry_target, kind_in, keys_cause, guest_from, nat_in}
use Rattle.chain_file.specs.Matches.{tests_in, range_in}
use Rattle.chain_file.specs.Spelling.{short_prefix_of, v4_of, mac_of}
use Rattle.chain_file.specs.Values.{right, must, number, number_or, number_in, of_one, list_of, list_at, each, kept, under, name_at, only, of_two}
use Rattle.chain_file.specs.Widths.{TestsFit, EntryFits, KindFits, TargetFits, PrefixFits, IsAddress}
use Rattle.chain_file.specs.Words.{function_keys, own_keys, word_of}
use Rattle.chain_file.specs.Written.{Row, row, natural, natural_row, list, range, prefix, prefix_text, v4_text, hex_text, object_of, members_of, step_row, tests, entry, own_rows, function_rows, function}
use Rattle.chain_file.specs.Written as written
use Rattle.chain_file.proofs.Compact.{sorted, IsPlain, IsText, MembersArePlain}
use Rattle.chain_file.proofs.Rows.{get_of, only_right, are_known, are_distinct, value_at, number_in_right, number_right, number_or_right, name_at_right, name_text, sorted-mapped, under_is, list_at_is, each_right, items_plain}
use Rattle.chain_file.proofs.Spelled.{short_of-prefix_text, v4_of-v4_text, v4_spelled, mac_of-hex_text, hex_spelled}
use Rattle.chain_file.proofs.WrittenTests.{tests_back, tests_plain, range_in_right, range_plain, prefix_plain}

-- ---- spellings

short_right : (key : List ℕ) (d : Data) (p : Prefix) → get key d ≡ Some (prefix p) → IsShortPrefix p → PrefixFits p → short_prefix_at key d ≡ right p
short_right key d p e h fits =
    ap (λ o. spelled_or nowhere (option_and_then short_prefix_of (option_and_then as_str o))) e
    ∙ ap (spelled_or nowhere) (short_of-prefix_text p h fits)

address_right : (key : List ℕ) (d : Data) (address : ℕ) → get key d ≡ Some (string (v4_text address)) → address < 2 ^ 32 → address_at key d ≡ right address
address_right key d address e fits =
    ap (λ o. spelled_or 0 (option_and_then v4_of (option_and_then as_str o))) e ∙ ap (spelled_or 0) (v4_of-v4_text address fits)

mac_right : (key : List ℕ) (d : Data) (bytes : List ℕ) → get key d ≡ Some (string (hex_text bytes)) → IsAddress bytes → mac_at key d ≡ right bytes
mac_right key d bytes e fits =
    ap (λ o. spelled_or (0 ∷ 0 ∷ 0 ∷ 0 ∷ 0 ∷ 0 ∷ []) (option_and_then mac_of (option_and_then as_str o))) e
    ∙ ap (spelled_or (0 ∷ 0 ∷ 0 ∷ 0 ∷ 0 ∷ 0 ∷ [])) (mac_of-hex_text bytes fits.six fits.are_bytes)

-- ---- lists of a kind

kept_right : {A : Type 0} (c : Option Cause) (j : Judged (List A)) (xs : List A) → c ≡ None → j ≡ right xs
    → record { cause = earlier c j.cause; value = (kept c j).value } ≡ right xs
kept_right c j xs none is = rw (none, is) refl

list_right : {A : Type 0} (judge : Data → Judged A) (first last : ℕ) (key : List ℕ) (d : Data) (form : A → Data) (xs : List A)
    → get key d ≡ Some (sorted (list (map form xs))) → IsFrom first last (length xs) → All (λ x. judge (sorted (form x)) ≡ right x) xs
    → list_of judge first last key d ≡ right xs
list_right judge first last key d form xs e h all =
    let here = e ∙ ap Some (sorted-mapped form xs) in
    let length_is = list_at_is first last (get key d) (λ x. sorted (form x)) xs here h in
    let items_are = ap (each judge) (under_is key d (λ x. sorted (form x)) xs here) ∙ each_right judge (λ x. sorted (form x)) xs all in
    kept_right (list_at first last (get key d)) (each judge (under key d)) xs length_is items_are

all_of : {A : Type 0} (P Q R : A → Type 0) (xs : List A) → ((x : A) → P x → Q x → R x) → All P xs → All Q xs → All R xs
all_of P Q R xs f p q = λ k d less. f _ (p k d less) (q k d less)

all_from : {A : Type 0} (P R : A → Type 0) (xs : List A) → ((x : A) → P x → R x) → All P xs → All R xs
all_from P R xs f p = λ k d less. f _ (p k d less)

-- ---- entries of a route

entry_from : (d : Data) (e : RouteEntry) → only (codes "prefix" ∷ codes "to" ∷ codes "out" ∷ []) [] d ≡ None
    → short_prefix_at (codes "prefix") d ≡ right e.prefix → entry_target d ≡ right e.target → entry_in d ≡ right e
unfolding entry_in
entry_from d e keys prefix target = rw (keys, prefix, target) refl

target_from : (t o : Option Data) (d : Data) (j : Judged ChainStep) → get (codes "to") d ≡ t → get (codes "out") d ≡ o → either entry_to entry_out t o ≡ j
    → entry_target d ≡ j
target_from t o d j is_t is_o e = rw (is_t, is_o) e

entry_of : (p : Prefix) (s : ChainStep) → IsShortPrefix p → PrefixFits p → TargetFits s
    → entry_in (sorted (object_of (row (codes "prefix") (prefix p) ∷ step_row s ∷ []))) ≡ right (record { prefix = p; target = s })
entry_of p (step.To n) h fits small =
    let rows = row (codes "prefix") (prefix p) ∷ step_row (step.To n) ∷ [] in
    let d = sorted (object_of rows) in
    entry_from d (record { prefix = p; target = step.To n }) (only_right (codes "prefix" ∷ codes "to" ∷ codes "out" ∷ []) [] rows refl)
    (short_right (codes "prefix") d p (get_of (codes "prefix") rows refl) h fits)
    (target_from (Some (natural n)) None d (right (step.To n)) (get_of (codes "to") rows refl) (get_of (codes "out") rows refl)
    (ap (of_one (λ n. step.To n)) (number_in_right 0 255 n (omega arith, omega arith))))
entry_of p (step.Out n) h fits small =
    let rows = row (codes "prefix") (prefix p) ∷ step_row (step.Out n) ∷ [] in
    let d = sorted (object_of rows) in
    entry_from d (record { prefix = p; target = step.Out n }) (only_right (codes "prefix" ∷ codes "to" ∷ codes "out" ∷ []) [] rows refl)
    (short_right (codes "prefix") d p (get_of (codes "prefix") rows refl) h fits)
    (target_from None (Some (natural n)) d (right (step.Out n)) (get_of (codes "to") rows refl) (get_of (codes "out") rows refl)
    (ap (of_one (λ n. step.Out n)) (number_in_right 0 255 n (omega arith, omega arith))))

entry_back : (e : RouteEntry) → IsShortPrefix e.prefix → EntryFits e → entry_in (sorted (entry e)) ≡ right e
entry_back e h fits = entry_of e.prefix e.target h fits.prefix fits.target

-- ---- kinds

abbrev word_of_kind : Kind → Word
word_of_kind kind.Forward = word.Forward
word_of_kind kind.Drop = word.Drop
word_of_kind (kind.Out port) = word.Out
word_of_kind (kind.To service) = word.To
word_of_kind (kind.Filter ts) = word.Filter
word_of_kind kind.Ttl = word.Ttl
word_of_kind (kind.Tag vlan priority) = word.Tag
word_of_kind kind.Untag = word.Untag
word_of_kind (kind.Macs target source) = word.Macs
word_of_kind (kind.Route table) = word.Route
word_of_kind (kind.Balance services) = word.Balance
word_of_kind kind.Count = word.Count
word_of_kind (kind.Police rate depth) = word.Police
word_of_kind (kind.Nat inside outside ports) = word.Nat
word_of_kind (kind.Guest guest) = word.Guest

-- a function of this kind as it is read
abbrev read_as : FunctionPlan → Kind → Data
read_as f k = sorted (object_of (function_rows f k))

distinct_rows : (f : FunctionPlan) (k : Kind) → are_distinct (function_rows f k) ≡ true
distinct_rows f kind.Forward = refl
distinct_rows f kind.Drop = refl
distinct_rows f (kind.Out port) = refl
distinct_rows f (kind.To service) = refl
distinct_rows f (kind.Filter ts) = refl
distinct_rows f kind.Ttl = refl
distinct_rows f (kind.Tag vlan priority) = refl
distinct_rows f kind.Untag = refl
distinct_rows f (kind.Macs target source) = refl
distinct_rows f (kind.Route table) = refl
distinct_rows f (kind.Balance services) = refl
distinct_rows f kind.Count = refl
distinct_rows f (kind.Police rate depth) = refl
distinct_rows f (kind.Nat inside outside ports) = refl
distinct_rows f (kind.Guest guest) = refl

known_rows : (f : FunctionPlan) (k : Kind) → are_known function_keys (own_keys (Some (word_of_kind k))) (function_rows f k) ≡ true
known_rows f kind.Forward = refl
known_rows f kind.Drop = refl
known_rows f (kind.Out port) = refl
known_rows f (kind.To service) = refl
known_rows f (kind.Filter ts) = refl
known_rows f kind.Ttl = refl
known_rows f (kind.Tag vlan priority) = refl
known_rows f kind.Untag = refl
known_rows f (kind.Macs target source) = refl
known_rows f (kind.Route table) = refl
known_rows f (kind.Balance services) = refl
known_rows f kind.Count = refl
known_rows f (kind.Police rate depth) = refl
known_rows f (kind.Nat inside outside ports) = refl
known_rows f (kind.Guest guest) = refl

word_back : (k : Kind) → word_of (written.word k) ≡ Some (word_of_kind k)
word_back kind.Forward = refl
word_back kind.Drop = refl
word_back (kind.Out port) = refl
word_back (kind.To service) = refl
word_back (kind.Filter ts) = refl
word_back kind.Ttl = refl
word_back (kind.Tag vlan priority) = refl
word_back kind.Untag = refl
word_back (kind.Macs target source) = refl
word_back (kind.Route table) = refl
word_back (kind.Balance services) = refl
word_back kind.Count = refl
word_back (kind.Police rate depth) = refl
word_back (kind.Nat inside outside ports) = refl
word_back (kind.Guest guest) = refl

-- what is read under a key of a written function
at_key : (f : FunctionPlan) (k : Kind) (key : List ℕ) → get key (read_as f k) ≡ option_map sorted (value_at key (function_rows f k))
at_key f k key = get_of key (function_rows f k) (distinct_rows f k)

two_back : {A B C : Type 0} (f : A → B → C) {a : A} {b : B} {j : Judged A} {k : Judged B} → j ≡ right a → k ≡ right b → of_two f j k ≡ right (f a b)
two_back f is_j is_k = rw (is_j, is_k) refl

nat_from : (d : Data) (inside : Prefix) (outside : ℕ) (ports : ℕ × ℕ) → short_prefix_at (codes "inside") d ≡ right inside
    → address_at (codes "outside") d ≡ right outside → must (range_in 1 65535) (1, 65535) (get (codes "ports") d) ≡ right ports
    → nat_in d ≡ right (kind.Nat inside outside ports)
nat_from d inside outside ports a b c = rw (a, b, c) refl

kind_back : (guests : List (List ℕ)) (f : FunctionPlan) (k : Kind) → IsKind k → KindFits k → HasGuest guests k
    → kind_in guests (Some (word_of_kind k)) (read_as f k) ≡ right k
kind_back guests f kind.Forward h fits known = refl
kind_back guests f kind.Drop h fits known = refl
kind_back guests f (kind.Out port) h fits known =
    ap (of_one (λ n. kind.Out n)) (number_right (codes "port") 0 255 port (read_as f (kind.Out port)) (at_key f (kind.Out port) (codes "port")) (omega arith, omega arith))
kind_back guests f (kind.To service) h fits known =
    ap (of_one (λ n. kind.To n)) (number_right (codes "to_service") 0 255 service (read_as f (kind.To service)) (at_key f (kind.To service) (codes "to_service")) (omega arith, omega arith))
kind_back guests f (kind.Filter ts) h fits known =
    ap (of_one (λ tests. kind.Filter tests)) (list_right tests_in 1 MAX_TESTS (codes "match") (read_as f (kind.Filter ts)) tests ts (at_key f (kind.Filter ts) (codes "match")) (h.filter_length ts refl)
    (all_of AreTests TestsFit (λ t. tests_in (sorted (tests t)) ≡ right t) ts tests_back (h.filter_tests ts refl) fits))
kind_back guests f kind.Ttl h fits known = refl
kind_back guests f (kind.Tag vlan priority) h fits known =
    two_back (λ vlan priority. kind.Tag vlan priority)
    (number_right (codes "vlan") 0 MAX_VLAN vlan (read_as f (kind.Tag vlan priority)) (at_key f (kind.Tag vlan priority) (codes "vlan")) (omega arith, h.tag_vlan vlan priority refl))
    (number_right (codes "tag_priority") 0 MAX_TAG_PRIORITY priority (read_as f (kind.Tag vlan priority)) (at_key f (kind.Tag vlan priority) (codes "tag_priority")) (omega arith, h.tag_priority vlan priority refl))
kind_back guests f kind.Untag h fits known = refl
kind_back guests f (kind.Macs target source) h fits known =
    two_back (λ target source. kind.Macs target source)
    (mac_right (codes "target") (read_as f (kind.Macs target source)) target (at_key f (kind.Macs target source) (codes "target")) fits.0)
    (mac_right (codes "source") (read_as f (kind.Macs target source)) source (at_key f (kind.Macs target source) (codes "source")) fits.1)
kind_back guests f (kind.Route table) h fits known =
    ap (of_one (λ table. kind.Route table)) (list_right entry_in 1 MAX_ROUTES (codes "table") (read_as f (kind.Route table)) entry table (at_key f (kind.Route table) (codes "table")) (h.route_length table refl)
    (all_of (λ e. IsShortPrefix e.prefix) EntryFits (λ e. entry_in (sorted (entry e)) ≡ right e) table entry_back (h.route_prefixes table refl) fits))
kind_back guests f (kind.Balance services) h fits known =
    ap (of_one (λ services. kind.Balance services)) (list_right (number_in 0 255) 1 MAX_SERVICES (codes "services") (read_as f (kind.Balance services)) natural services (at_key f (kind.Balance services) (codes "services")) (h.balance_length services refl)
    (all_from (λ n. n < 2 ^ 8) (λ n. number_in 0 255 (natural n) ≡ right n) services (λ n small. number_in_right 0 255 n (omega arith, omega arith)) fits))
kind_back guests f kind.Count h fits known = refl
kind_back guests f (kind.Police rate depth) h fits known =
    two_back (λ rate depth. kind.Police rate depth)
    (number_right (codes "rate") 1 MAX_RATE rate (read_as f (kind.Police rate depth)) (at_key f (kind.Police rate depth) (codes "rate")) (h.police_rate rate depth refl))
    (number_right (codes "depth") 1 MAX_DEPTH depth (read_as f (kind.Police rate depth)) (at_key f (kind.Police rate depth) (codes "depth")) (h.police_depth rate depth refl))
kind_back guests f (kind.Nat inside outside ports) h fits known =
    nat_from (read_as f (kind.Nat inside outside ports)) inside outside ports
    (short_right (codes "inside") (read_as f (kind.Nat inside outside ports)) inside (at_key f (kind.Nat inside outside ports) (codes "inside")) (h.nat_inside inside outside ports refl) fits.0)
    (address_right (codes "outside") (read_as f (kind.Nat inside outside ports)) outside (at_key f (kind.Nat inside outside ports) (codes "outside")) fits.1)
    (ap (must (range_in 1 65535) (1, 65535)) (at_key f (kind.Nat inside outside ports) (codes "ports"))
    ∙ range_in_right 1 65535 ports (h.nat_ports inside outside ports refl).0 (h.nat_ports inside outside ports refl).1 (omega (arith, fits.2)))
kind_back guests f (kind.Guest guest) h fits known =
    ap (guest_from guests) (name_at_right guest (get (codes "guest") (read_as f (kind.Guest guest))) (at_key f (kind.Guest guest) (codes "guest")) (h.guest_name guest refl)) ∙ rw (known guest refl) refl

-- ---- functions

keys_right : (f : FunctionPlan) (k : Kind) → keys_cause (Some (word_of_kind k)) (read_as f k) ≡ None
keys_right f k = only_right function_keys (own_keys (Some (word_of_kind k))) (function_rows f k) (known_rows f k)

word_right : (f : FunctionPlan) (k : Kind) → word_in (read_as f k) ≡ Some (word_of_kind k)
word_right f k = ap (λ o. option_and_then word_of (option_and_then as_str o)) (at_key f k (codes "kind")) ∙ word_back k

function_from : (cores : ℕ) (guests : List (List ℕ)) (d : Data) (f : FunctionPlan) (w : Option Word) → word_in d ≡ w
    → keys_cause w d ≡ None → name_at (get (codes "name") d) ≡ right f.name → number (codes "service") 1 255 d ≡ right f.service
    → number (codes "core") 0 (cores - 1) d ≡ right f.core → kind_in guests w d ≡ right f.kind
    → number_or (codes "priority") 1 MAX_PRIORITY 1 d ≡ right f.priority → number_or (codes "weight") 1 MAX_WEIGHT 1024 d ≡ right f.weight
    → number_or (codes "cost") 0 MAX_COST 100 d ≡ right f.cost → function_in cores guests d ≡ right f
unfolding function_in
function_from cores guests d f w is keys name service core kind priority weight cost =
    rw (is, keys, name, service, core, kind, priority, weight, cost) refl

pub function_back : (cores : ℕ) (guests : List (List ℕ)) (f : FunctionPlan) → IsFunction cores f → KindFits f.kind → HasGuest guests f.kind
    → function_in cores guests (sorted (function f)) ≡ right f
function_back cores guests f h fits known =
    let k = f.kind in
    let d = sorted (function f) in
    function_from cores guests d f (Some (word_of_kind k)) (word_right f k) (keys_right f k)
    (name_at_right f.name (get (codes "name") d) (at_key f k (codes "name")) h.name)
    (number_right (codes "service") 1 255 f.service d (at_key f k (codes "service")) h.service)
    (number_right (codes "core") 0 (cores - 1) f.core d (at_key f k (codes "core")) (omega arith, omega (arith, h.core)))
    (kind_back guests f k h.kind fits known)
    (number_or_right (codes "priority") 1 MAX_PRIORITY 1 f.priority d (at_key f k (codes "priority")) h.priority)
    (number_or_right (codes "weight") 1 MAX_WEIGHT 1024 f.weight d (at_key f k (codes "weight")) h.weight)
    (number_or_right (codes "cost") 0 MAX_COST 100 f.cost d (at_key f k (codes "cost")) (omega arith, h.cost))

-- ---- what is written

target_plain : (s : ChainStep) → TargetFits s → MembersArePlain 1 (members_of (step_row s ∷ []))
target_plain (step.To n) small = (refl, omega arith, tt)
target_plain (step.Out n) small = (refl, omega arith, tt)

entry_plain : (e : RouteEntry) → IsShortPrefix e.prefix → EntryFits e → IsPlain 2 (entry e)
entry_plain e h fits = (refl, prefix_plain 1 e.prefix h.is_prefix fits.prefix, target_plain e.target fits.target)

word_plain : (k : Kind) → IsText (written.word k)
word_plain kind.Forward = refl
word_plain kind.Drop = refl
word_plain (kind.Out port) = refl
word_plain (kind.To service) = refl
word_plain (kind.Filter ts) = refl
word_plain kind.Ttl = refl
word_plain (kind.Tag vlan priority) = refl
word_plain kind.Untag = refl
word_plain (kind.Macs target source) = refl
word_plain (kind.Route table) = refl
word_plain (kind.Balance services) = refl
word_plain kind.Count = refl
word_plain (kind.Police rate depth) = refl
word_plain (kind.Nat inside outside ports) = refl
word_plain (kind.Guest guest) = refl

own_plain : (k : Kind) → IsKind k → KindFits k → MembersArePlain 3 (members_of (own_rows k))
own_plain kind.Forward h fits = tt
own_plain kind.Drop h fits = tt
own_plain (kind.Out port) h fits = (refl, omega arith, tt)
own_plain (kind.To service) h fits = (refl, omega arith, tt)
own_plain (kind.Filter ts) h fits = (refl, items_plain 2 tests ts (all_of AreTests TestsFit (λ t. IsPlain 2 (tests t)) ts (tests_plain 0) (h.filter_tests ts refl) fits), tt)
own_plain kind.Ttl h fits = tt
own_plain (kind.Tag vlan priority) h fits = (refl, omega (arith, h.tag_vlan vlan priority refl), (refl, omega (arith, h.tag_priority vlan priority refl), tt))
own_plain kind.Untag h fits = tt
own_plain (kind.Macs target source) h fits = (refl, (hex_spelled 6 target fits.0.six fits.0.are_bytes).letters, (refl, (hex_spelled 6 source fits.1.six fits.1.are_bytes).letters, tt))
own_plain (kind.Route table) h fits = (refl, items_plain 2 entry table (all_of (λ e. IsShortPrefix e.prefix) EntryFits (λ e. IsPlain 2 (entry e)) table entry_plain (h.route_prefixes table refl) fits), tt)
own_plain (kind.Balance services) h fits = (refl, items_plain 2 natural services (all_from (λ n. n < 2 ^ 8) (λ n. IsPlain 2 (natural n)) services (λ n small. omega arith) fits), tt)
own_plain kind.Count h fits = tt
own_plain (kind.Police rate depth) h fits = (refl, omega (arith, (h.police_rate rate depth refl).1), (refl, omega (arith, (h.police_depth rate depth refl).1), tt))
own_plain (kind.Nat inside outside ports) h fits =
    let order = h.nat_ports inside outside ports refl in (
      refl,
      prefix_plain 3 inside (h.nat_inside inside outside ports refl).is_prefix fits.0,
      (
        refl,
        (v4_spelled outside fits.1).letters,
        (refl, range_plain 2 ports (omega (arith, fits.2, order.1)) (omega (arith, fits.2)), tt),
      ),
    )
own_plain (kind.Guest guest) h fits = (refl, name_text guest (h.guest_name guest refl), tt)

pub function_plain : (cores : ℕ) (f : FunctionPlan) → cores ≤ 8 → IsFunction cores f → KindFits f.kind → IsPlain 4 (function f)
function_plain cores f few h fits = (
  refl,
  name_text f.name h.name,
  (
    refl,
    omega (arith, h.service.1),
    (
      refl,
      omega (arith, h.core),
      (
        refl,
        word_plain f.kind,
        (refl, omega (arith, h.priority.1), (refl, omega (arith, h.weight.1), (refl, omega (arith, h.cost), own_plain f.kind h.kind fits))),
      ),
    ),
  ),
)
