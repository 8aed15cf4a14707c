-- No written plan is too large for a chain file.
use Rattle.std.proofs.Common.{◌≡◌, ℕ, zero, suc, ◌+◌, ◌^◌, ◌<◌, ◌≤◌, Bool, true, false, List, [], ◌∷◌, ◌++◌, length, map, codes, decimal, Option, Some, None, option_map, All, IfSome, refl, ap, arith, length-append}
use Rattle.std.specs.List.{list_all}
use Rattle.std.proofs.lemmas.Fmt.{length-decimal-le}
use Rattle.json.specs.Print.{escape, quoted}
use Rattle.json.proofs.Printed.Strings.{escape_byte_plain}
use Rattle.serde_json.specs.Data.{Data, string, object, Members, no_members}
use Rattle.serde_json.specs.View.{items_of}
use Rattle.serde_json.specs.Written.{comma_if, compact_text, items_text, members_text}
use Rattle.onvm_base.specs.declared.limits.TheConstants.{MAX_CHAIN_FILE_BYTES, MAX_CHAINS, MAX_CHAIN_STEPS, MAX_FUNCTIONS, MAX_ROUTES, MAX_RULES, MAX_SERVICES, MAX_TESTS}
use Rattle.onvm_base.specs.declared.chain.ChainPlan.{ChainPlan}
use Rattle.onvm_base.specs.declared.chain.ChainStep.{ChainStep}
use Rattle.onvm_base.specs.declared.chain.ChainStep.TheVariants as step
use Rattle.onvm_base.specs.declared.function.FunctionPlan.{FunctionPlan}
use Rattle.onvm_base.specs.declared.function.Kind.{Kind}
use Rattle.onvm_base.specs.declared.function.Kind.TheVariants as kind
use Rattle.onvm_base.specs.declared.function.RouteEntry.{RouteEntry}
use Rattle.onvm_base.specs.declared.plan.Plan.{Plan}
use Rattle.onvm_base.specs.declared.rules.Prefix.{Prefix}
use Rattle.onvm_base.specs.declared.rules.RulePlan.{RulePlan}
use Rattle.onvm_base.specs.declared.rules.Tests.{Tests}
use Rattle.onvm_base.specs.Plan.{AreTests, IsChainPlan, IsFunction, IsKind, IsName, IsPrefix, IsRule, IsShortPrefix, IsStep}
use Rattle.chain_file.specs.Widths.{EntryFits, KindFits, PlanFits, PrefixFits, TargetFits, TestsFit}
use Rattle.chain_file.specs.Written.{chain, entry, form, function, hex_text, list, member_if, members_of, name_of_chain, natural, object_of, one_step, own_rows, prefix, prefix_text, range, rule, step_row, tests, v4_text}
use Rattle.chain_file.specs.Written as written
use Rattle.chain_file.proofs.Compact.{IsText}
use Rattle.chain_file.proofs.KeptNames.{both_true}
use Rattle.chain_file.proofs.Rows.{name_text}
use Rattle.chain_file.proofs.Spelled.{hex_spelled, is_letter, prefix_spelled, v4_spelled}
use Rattle.chain_file.proofs.WrittenPlan.{AreNamed, chain_name_is, small_service, offers}
use Rattle.chain_file.proofs.WrittenTop.{named}

-- a tree's text has at most so many bytes
abbrev Fits : ℕ → Data → Type 0
Fits most d = length (compact_text d) ≤ most

-- and the text of members, with the closing brace
record MembersFit (most : ℕ) (ms : Members) : Type 0 where
  fits : (later : Bool) → length (members_text later ms) ≤ most

-- ---- texts and numbers

record IsInside (c : ℕ) : Type 0 where
  no_quote : c ≡ 34 → ⊥
  no_backslash : c ≡ 92 → ⊥
  no_control : 32 ≤ c

letter_inside : (c : ℕ) → is_letter c ≡ true → IsInside c
letter_inside c e = record { no_quote = λ is. grind arith; no_backslash = λ is. grind arith; no_control = grind arith }

pub same_escaped : (s : List ℕ) → IsText s → escape s ≡ s
same_escaped [] e = refl
same_escaped (c ∷ cs) e =
    let two = both_true (is_letter c) (list_all is_letter cs) e in
    let inside = letter_inside c two.0 in
    rw (escape_byte_plain c inside.no_quote inside.no_backslash inside.no_control, same_escaped cs two.1) refl

quoted_length : (s : List ℕ) → IsText s → length (quoted s) ≡ length s + 2
quoted_length s e = omega (arith, length-append (escape s) (34 ∷ []), ap length (same_escaped s e))

text_fits : (most : ℕ) (s : List ℕ) → IsText s → length s ≤ most → Fits (most + 2) (string s)
text_fits most s e few = omega (arith, quoted_length s e)

number_fits : (n : ℕ) → n < 10 ^ 13 → Fits 13 (natural n)
number_fits n less = length-decimal-le 13 n (omega arith) less (omega arith)

range_fits : (pair : ℕ × ℕ) → pair.0 < 2 ^ 16 → pair.1 < 2 ^ 16 → Fits 30 (range pair)
range_fits pair a b =
    omega (
      arith,
      number_fits pair.0 (omega arith),
      number_fits pair.1 (omega arith),
      length-append (decimal pair.0) (44 ∷ (decimal pair.1 ++ 93 ∷ [])),
      length-append (decimal pair.1) (93 ∷ []),
    )

prefix_fits : (p : Prefix) → IsPrefix p → PrefixFits p → Fits 38 (prefix p)
prefix_fits p h fits = let s = prefix_spelled p h fits in text_fits 36 (prefix_text p) s.letters s.few

-- ---- objects and lists

comma_length : (later : Bool) → length (comma_if later) ≤ 1
comma_length true = omega arith
comma_length false = omega arith

row_fits : (key : List ℕ) (o : Option Data) (ms : Members) (most rest total : ℕ) → IsText key → IfSome o (Fits most) → MembersFit rest ms
    → length key + 4 + most + rest ≤ total → MembersFit total (member_if key o ms)
row_fits key None ms most rest total text h others enough = record { fits = λ later. omega (arith, others.fits later) }
row_fits key (Some d) ms most rest total text h others enough = record {
  fits = λ later.
      omega (
        arith,
        others.fits true,
        comma_length later,
        quoted_length key text,
        length-append (comma_if later) (quoted key ++ 58 ∷ (compact_text d ++ members_text true ms)),
        length-append (quoted key) (58 ∷ (compact_text d ++ members_text true ms)),
        length-append (compact_text d) (members_text true ms),
      );
}

no_rows : MembersFit 1 no_members
no_rows = record { fits = λ later. omega arith }

object_fits : (most : ℕ) (ms : Members) → MembersFit most ms → Fits (most + 1) (object ms)
object_fits most ms h = omega (arith, h.fits false)

-- so many items of so many bytes, with their commas and the closing bracket
abbrev items_bytes : ℕ → ℕ → ℕ
items_bytes zero most = 1
items_bytes (suc n) most = most + 1 + items_bytes n most

items_bytes-le : (n m most : ℕ) → n ≤ m → items_bytes n most ≤ items_bytes m most
items_bytes-le zero zero most less = omega arith
items_bytes-le zero (suc m) most less = omega (arith, items_bytes-le zero m most (omega arith))
items_bytes-le (suc n) zero most less = absurd (omega arith)
items_bytes-le (suc n) (suc m) most less = omega (arith, items_bytes-le n m most (omega arith))

items_fit : {A : Type 0} (most : ℕ) (form : A → Data) (xs : List A) → All (λ x. Fits most (form x)) xs
    → (later : Bool) → length (items_text later (items_of (map form xs))) ≤ items_bytes (length xs) most
items_fit most form [] h later = omega arith
items_fit most form (x ∷ xs) h later =
    let first : Fits most (form x) = h 0 x (omega arith) in
    let rest = items_fit most form xs (λ k d less. h (suc k) d (omega arith)) true in
    let more = items_text true (items_of (map form xs)) in
    omega (arith, first, rest, comma_length later, length-append (comma_if later) (compact_text (form x) ++ more), length-append (compact_text (form x)) more)

list_fits : {A : Type 0} (count most total : ℕ) (form : A → Data) (xs : List A) → All (λ x. Fits most (form x)) xs → length xs ≤ count
    → items_bytes count most + 1 ≤ total → Fits total (list (map form xs))
list_fits count most total form xs h few enough =
    omega (arith, items_fit most form xs h false, items_bytes-le (length xs) count most few)

-- ---- tests, steps and entries

all_of : {A : Type 0} (P Q R : A → Type 0) (xs : List A) → ((x : A) → P x → Q x → R x) → All P xs → All Q xs → All R xs
all_of P Q R xs f p q = λ k d less. f _ (p k d less) (q k d less)

all_from : {A : Type 0} (P R : A → Type 0) (xs : List A) → ((x : A) → P x → R x) → All P xs → All R xs
all_from P R xs f p = λ k d less. f _ (p k d less)

number_test : (o : Option ℕ) → IfSome o (λ n. n < 2 ^ 16) → IfSome (option_map natural o) (Fits 13)
number_test None h = tt
number_test (Some n) h = number_fits n (omega arith)

prefix_test : (o : Option Prefix) → IfSome o IsPrefix → IfSome o PrefixFits → IfSome (option_map prefix o) (Fits 38)
prefix_test None h fits = tt
prefix_test (Some p) h fits = prefix_fits p h fits

range_test : (o : Option (ℕ × ℕ)) → IfSome o (λ pair. pair.0 ≤ pair.1) → IfSome o (λ pair. pair.1 < 2 ^ 16) → IfSome (option_map range o) (Fits 30)
range_test None h fits = tt
range_test (Some pair) h fits = range_fits pair (omega arith) fits

if_some : {A : Type 0} (P : A → Type 0) (o : Option A) → ((x : A) → o ≡ Some x → P x) → IfSome o P
if_some P None h = tt
if_some P (Some x) h = h x refl

wider : (o : Option ℕ) → IfSome o (λ n. n < 2 ^ 8) → IfSome o (λ n. n < 2 ^ 16)
wider None h = tt
wider (Some n) h = omega arith

tests_fit : (t : Tests) → AreTests t → TestsFit t → Fits 270 (tests t)
tests_fit t h fits =
    object_fits 269 _
    (row_fits (codes "port") (option_map natural t.port) _ 13 248 269 refl (number_test t.port (if_some (λ n. n < 2 ^ 16) t.port (λ n is. omega (arith, h.port n is))))
    (row_fits (codes "vlan") (option_map natural t.vlan) _ 13 227 248 refl (number_test t.vlan (if_some (λ n. n < 2 ^ 16) t.vlan (λ n is. omega (arith, h.vlan n is))))
    (row_fits (codes "type") (option_map natural t.ethertype) _ 13 206 227 refl (number_test t.ethertype fits.ethertype)
    (row_fits (codes "src") (option_map prefix t.src) _ 38 161 206 refl (prefix_test t.src (if_some IsPrefix t.src h.source) fits.source)
    (row_fits (codes "dst") (option_map prefix t.dst) _ 38 116 161 refl (prefix_test t.dst (if_some IsPrefix t.dst h.target) fits.target)
    (row_fits (codes "protocol") (option_map natural t.protocol) _ 13 90 116 refl (number_test t.protocol (wider t.protocol fits.protocol))
    (row_fits (codes "src_ports") (option_map range t.src_ports) _ 30 46 90 refl (range_test t.src_ports (if_some (λ pair. pair.0 ≤ pair.1) t.src_ports h.source_ports) fits.source_ports)
    (row_fits (codes "dst_ports") (option_map range t.dst_ports) no_members 30 1 46 refl (range_test t.dst_ports (if_some (λ pair. pair.0 ≤ pair.1) t.dst_ports h.target_ports) fits.target_ports)
    no_rows (omega arith)) (omega arith)) (omega arith)) (omega arith)) (omega arith)) (omega arith)) (omega arith)) (omega arith))

step_fits : (s : ChainStep) → TargetFits s → MembersFit 21 (members_of (step_row s ∷ []))
step_fits (step.To n) small = row_fits (codes "to") (Some (natural n)) no_members 13 1 21 refl (number_fits n (omega arith)) no_rows (omega arith)
step_fits (step.Out n) small = row_fits (codes "out") (Some (natural n)) no_members 13 1 21 refl (number_fits n (omega arith)) no_rows (omega arith)

entry_fits : (e : RouteEntry) → IsShortPrefix e.prefix → EntryFits e → Fits 70 (entry e)
entry_fits e h fits =
    object_fits 69 _
    (row_fits (codes "prefix") (Some (prefix e.prefix)) _ 38 21 69 refl (prefix_fits e.prefix h.is_prefix fits.prefix) (step_fits e.target fits.target) (omega arith))

-- ---- functions

word_fits : (k : Kind) → Fits 9 (string (written.word k))
word_fits kind.Forward = text_fits 7 (codes "forward") refl (omega arith)
word_fits kind.Drop = text_fits 7 (codes "drop") refl (omega arith)
word_fits (kind.Out port) = text_fits 7 (codes "out") refl (omega arith)
word_fits (kind.To service) = text_fits 7 (codes "to") refl (omega arith)
word_fits (kind.Filter ts) = text_fits 7 (codes "filter") refl (omega arith)
word_fits kind.Ttl = text_fits 7 (codes "ttl") refl (omega arith)
word_fits (kind.Tag vlan priority) = text_fits 7 (codes "tag") refl (omega arith)
word_fits kind.Untag = text_fits 7 (codes "untag") refl (omega arith)
word_fits (kind.Macs target source) = text_fits 7 (codes "macs") refl (omega arith)
word_fits (kind.Route table) = text_fits 7 (codes "route") refl (omega arith)
word_fits (kind.Balance services) = text_fits 7 (codes "balance") refl (omega arith)
word_fits kind.Count = text_fits 7 (codes "count") refl (omega arith)
word_fits (kind.Police rate depth) = text_fits 7 (codes "police") refl (omega arith)
word_fits (kind.Nat inside outside ports) = text_fits 7 (codes "nat") refl (omega arith)
word_fits (kind.Guest guest) = text_fits 7 (codes "guest") refl (omega arith)

name_fits : (name : List ℕ) → IsName name → Fits 34 (string name)
name_fits name h = text_fits 32 name (name_text name h) (omega (arith, h.length_of.1))

one_row : (key : List ℕ) (d : Data) (most : ℕ) → IsText key → length key ≤ 10 → most ≤ 18200 → Fits most d → MembersFit 20000 (member_if key (Some d) no_members)
one_row key d most text few less h = row_fits key (Some d) no_members most 1 20000 text h no_rows (omega arith)

two_rows : (key later : List ℕ) (d e : Data) (most : ℕ) → IsText key → IsText later → length key ≤ 12 → length later ≤ 12 → most ≤ 40 → Fits most d → Fits most e
    → MembersFit 20000 (member_if key (Some d) (member_if later (Some e) no_members))
two_rows key later d e most text more few fewer less h g =
    row_fits key (Some d) _ most 100 20000 text h (row_fits later (Some e) no_members most 1 100 more g no_rows (omega arith)) (omega arith)

own_fits : (k : Kind) → IsKind k → KindFits k → MembersFit 20000 (members_of (own_rows k))
own_fits kind.Forward h fits = record { fits = λ later. omega arith }
own_fits kind.Drop h fits = record { fits = λ later. omega arith }
own_fits (kind.Out port) h fits = one_row (codes "port") (natural port) 13 refl (omega arith) (omega arith) (number_fits port (omega arith))
own_fits (kind.To service) h fits = one_row (codes "to_service") (natural service) 13 refl (omega arith) (omega arith) (number_fits service (omega arith))
own_fits (kind.Filter ts) h fits =
    one_row (codes "match") (list (map tests ts)) 17346 refl (omega arith) (omega arith)
    (list_fits MAX_TESTS 270 17346 tests ts (all_of AreTests TestsFit (λ t. Fits 270 (tests t)) ts tests_fit (h.filter_tests ts refl) fits)
    (h.filter_length ts refl).1 (omega arith))
own_fits kind.Ttl h fits = record { fits = λ later. omega arith }
own_fits (kind.Tag vlan priority) h fits =
    two_rows (codes "vlan") (codes "tag_priority") (natural vlan) (natural priority) 13 refl refl (omega arith) (omega arith) (omega arith)
    (number_fits vlan (omega (arith, h.tag_vlan vlan priority refl))) (number_fits priority (omega (arith, h.tag_priority vlan priority refl)))
own_fits kind.Untag h fits = record { fits = λ later. omega arith }
own_fits (kind.Macs target source) h fits =
    let one = hex_spelled 6 target fits.0.six fits.0.are_bytes in
    let two = hex_spelled 6 source fits.1.six fits.1.are_bytes in
    two_rows (codes "target") (codes "source") (string (hex_text target)) (string (hex_text source)) 14 refl refl (omega arith) (omega arith) (omega arith)
    (text_fits 12 (hex_text target) one.letters one.few) (text_fits 12 (hex_text source) two.letters two.few)
own_fits (kind.Route table) h fits =
    one_row (codes "table") (list (map entry table)) 18178 refl (omega arith) (omega arith)
    (list_fits MAX_ROUTES 70 18178 entry table (all_of (λ e. IsShortPrefix e.prefix) EntryFits (λ e. Fits 70 (entry e)) table entry_fits (h.route_prefixes table refl) fits)
    (h.route_length table refl).1 (omega arith))
own_fits (kind.Balance services) h fits =
    one_row (codes "services") (list (map natural services)) 450 refl (omega arith) (omega arith)
    (list_fits MAX_SERVICES 13 450 natural services (all_from (λ n. n < 2 ^ 8) (λ n. Fits 13 (natural n)) services (λ n small. number_fits n (omega arith)) fits)
    (h.balance_length services refl).1 (omega arith))
own_fits kind.Count h fits = record { fits = λ later. omega arith }
own_fits (kind.Police rate depth) h fits =
    two_rows (codes "rate") (codes "depth") (natural rate) (natural depth) 13 refl refl (omega arith) (omega arith) (omega arith)
    (number_fits rate (omega (arith, (h.police_rate rate depth refl).1))) (number_fits depth (omega (arith, (h.police_depth rate depth refl).1)))
own_fits (kind.Nat inside outside ports) h fits =
    let order = h.nat_ports inside outside ports refl in
    let address = v4_spelled outside fits.1 in
    row_fits (codes "inside") (Some (prefix inside)) _ 38 200 20000 refl (prefix_fits inside (h.nat_inside inside outside ports refl).is_prefix fits.0)
    (row_fits (codes "outside") (Some (string (v4_text outside))) _ 17 100 200 refl (text_fits 15 (v4_text outside) address.letters address.few)
    (row_fits (codes "ports") (Some (range ports)) no_members 30 1 100 refl (range_fits ports (omega (arith, fits.2, order.1)) fits.2) no_rows (omega arith)) (omega arith)) (omega arith)
own_fits (kind.Guest guest) h fits = one_row (codes "guest") (string guest) 34 refl (omega arith) (omega arith) (name_fits guest (h.guest_name guest refl))

function_fits : (cores : ℕ) (f : FunctionPlan) → cores ≤ 8 → IsFunction cores f → KindFits f.kind → Fits 20201 (function f)
function_fits cores f few h fits =
    object_fits 20200 _
    (row_fits (codes "name") (Some (string f.name)) _ 34 20158 20200 refl (name_fits f.name h.name)
    (row_fits (codes "service") (Some (natural f.service)) _ 13 20134 20158 refl (number_fits f.service (omega (arith, h.service.1)))
    (row_fits (codes "core") (Some (natural f.core)) _ 13 20113 20134 refl (number_fits f.core (omega (arith, h.core)))
    (row_fits (codes "kind") (Some (string (written.word f.kind))) _ 9 20096 20113 refl (word_fits f.kind)
    (row_fits (codes "priority") (Some (natural f.priority)) _ 13 20071 20096 refl (number_fits f.priority (omega (arith, h.priority.1)))
    (row_fits (codes "weight") (Some (natural f.weight)) _ 13 20048 20071 refl (number_fits f.weight (omega (arith, h.weight.1)))
    (row_fits (codes "cost") (Some (natural f.cost)) _ 13 20000 20048 refl (number_fits f.cost (omega (arith, h.cost)))
    (own_fits f.kind h.kind fits) (omega arith)) (omega arith)) (omega arith)) (omega arith)) (omega arith)) (omega arith)) (omega arith))

-- ---- chains and rules

one_fits : (cores ports : ℕ) (fs : List FunctionPlan) (s : ChainStep) → All (IsFunction cores) fs → ports ≤ 4 → IsStep ports fs s → Fits 22 (one_step s)
one_fits cores ports fs (step.To n) are few h =
    object_fits 21 _ (step_fits (step.To n) (omega (arith, small_service cores n fs are (offers 0 n fs (h.service n refl)))))
one_fits cores ports fs (step.Out n) are few h = object_fits 21 _ (step_fits (step.Out n) (omega (arith, h.port n refl)))

chain_fits : (cores ports : ℕ) (fs : List FunctionPlan) (c : ChainPlan) → All (IsFunction cores) fs → ports ≤ 4 → IsChainPlan ports fs c → Fits 430 (chain c)
chain_fits cores ports fs c are few h =
    object_fits 429 _
    (row_fits (codes "name") (Some (string c.name)) _ 34 387 429 refl (name_fits c.name h.name)
    (row_fits (codes "steps") (Some (list (map one_step c.steps))) no_members 370 1 387 refl
    (list_fits MAX_CHAIN_STEPS 22 370 one_step c.steps (all_from (IsStep ports fs) (λ s. Fits 22 (one_step s)) c.steps (λ s is. one_fits cores ports fs s are few is) h.steps) h.length_of.1 (omega arith))
    no_rows (omega arith)) (omega arith))

rule_fits : (cs : List ChainPlan) (r : RulePlan) → AreNamed cs → IsRule (length cs) r → TestsFit r.tests → Fits 340 (rule cs r)
rule_fits cs r names h fits =
    object_fits 339 _
    (row_fits (codes "chain") (Some (string (name_of_chain cs r.chain.0))) _ 34 290 339 refl (name_fits (name_of_chain cs r.chain.0) (chain_name_is cs r.chain.0 names h.chain))
    (row_fits (codes "match") (Some (tests r.tests)) no_members 270 1 290 refl (tests_fit r.tests h.tests fits) no_rows (omega arith)) (omega arith))

-- ---- the plan

pub form_fits : (p : Plan) → PlanFits p → length (compact_text (form p)) ≤ MAX_CHAIN_FILE_BYTES
form_fits p fits =
    let h = p.kept.sizes_are in
    let whole : Fits 761717 (form p) =
    object_fits 761716 _
    (row_fits (codes "version") (Some (natural p.version)) _ 13 761692 761716 refl (number_fits p.version (omega (arith, h.version)))
    (row_fits (codes "ports") (Some (natural p.ports)) _ 13 761670 761692 refl (number_fits p.ports (omega (arith, h.ports.1)))
    (row_fits (codes "transmit") (Some (natural p.transmit)) _ 13 761645 761670 refl (number_fits p.transmit (omega (arith, h.transmit.1)))
    (row_fits (codes "cores") (Some (natural p.cores)) _ 13 761623 761645 refl (number_fits p.cores (omega (arith, h.cores.1)))
    (row_fits (codes "buffers") (Some (natural p.buffers)) _ 13 761599 761623 refl (number_fits p.buffers (omega (arith, h.buffers.1)))
    (row_fits (codes "ring") (Some (natural p.ring)) _ 13 761578 761599 refl (number_fits p.ring (omega (arith, h.ring.1)))
    (row_fits (codes "output") (Some (natural p.output)) _ 13 761555 761578 refl (number_fits p.output (omega (arith, h.output.1)))
    (row_fits (codes "burst") (Some (natural p.burst)) _ 13 761533 761555 refl (number_fits p.burst (omega (arith, h.burst.1)))
    (row_fits (codes "high") (Some (natural p.high)) _ 13 761512 761533 refl (number_fits p.high (omega (arith, h.high, h.ring.1)))
    (row_fits (codes "low") (Some (natural p.low)) _ 13 761492 761512 refl (number_fits p.low (omega (arith, h.marks, h.high, h.ring.1)))
    (row_fits (codes "age") (Some (natural p.age)) _ 13 761472 761492 refl (number_fits p.age (omega (arith, h.age)))
    (row_fits (codes "window") (Some (natural p.window)) _ 13 761449 761472 refl (number_fits p.window (omega (arith, h.window.1)))
    (row_fits (codes "tick") (Some (natural p.tick)) _ 13 761428 761449 refl (number_fits p.tick (omega (arith, h.tick.1)))
    (row_fits (codes "functions") (Some (list (map function p.functions))) _ 646466 114949 761428 refl (list_fits MAX_FUNCTIONS 20201 646466 function p.functions (λ k d less. function_fits p.cores _ h.cores.1 (p.kept.functions_are k d less) (fits.kinds k d less)) p.kept.function_count.1 (omega arith))
    (row_fits (codes "chains") (Some (list (map chain p.chains))) _ 27586 87353 114949 refl (list_fits MAX_CHAINS 430 27586 chain p.chains (λ k d less. chain_fits p.cores p.ports p.functions _ p.kept.functions_are h.ports.1 (p.kept.chains_are k d less)) p.kept.chain_count.1 (omega arith))
    (row_fits (codes "rules") (Some (list (map (rule p.chains) p.rules))) _ 87298 46 87353 refl (list_fits MAX_RULES 340 87298 (rule p.chains) p.rules (λ k d less. rule_fits p.chains _ (named p) (p.kept.rules_are k d less) (fits.rules k d less)) p.kept.rule_count (omega arith))
    (row_fits (codes "default") (Some (string (name_of_chain p.chains p.default.0))) no_members 34 1 46 refl (name_fits (name_of_chain p.chains p.default.0) (chain_name_is p.chains p.default.0 (named p) p.kept.default_is))
    no_rows (omega arith)) (omega arith)) (omega arith)) (omega arith)) (omega arith)) (omega arith)) (omega arith)) (omega arith)) (omega arith)) (omega arith)) (omega arith)) (omega arith)) (omega arith)) (omega arith)) (omega arith)) (omega arith)) (omega arith)) in
    omega arith
