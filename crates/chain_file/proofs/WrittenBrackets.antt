-- No written plan has too many brackets for a chain file.
use Rattle.std.proofs.Common.{◌≡◌, ℕ, zero, suc, ◌+◌, ◌/◌, ◌%◌, ◌==◌, ◌≤◌, Bool, true, false, if◌then◌else◌, List, [], ◌∷◌, ◌++◌, cond, length, map, codes, decimal, Option, Some, None, option_map, All, IfSome, refl, ap, ◌∙◌, arith}
use Rattle.std.specs.List.{list_all}
use Rattle.std.specs.Fmt.{digit_glyph, digits, digits_onto}
use Rattle.std.proofs.lemmas.Bool.{le-leb}
use Rattle.std.proofs.lemmas.List.Sums.{sum_by-append, sum_by-cons}
use Rattle.json.specs.Print.{escape, quoted}
use Rattle.serde_json.specs.Data.{unsigned, negative, float, Data, null, boolean, number, string, array, object, Items, no_items, item, Members, no_members, member}
use Rattle.serde_json.specs.View.{items_of}
use Rattle.serde_json.specs.Written.{comma_if, compact_text, items_text, members_text}
use Rattle.onvm_base.specs.declared.limits.TheConstants.{MAX_CHAIN_FILE_BYTES, MAX_CHAINS, MAX_CHAIN_STEPS, MAX_FUNCTIONS, MAX_ROUTES, MAX_RULES, MAX_TESTS}
use Rattle.onvm_base.specs.declared.chain.ChainPlan.{ChainPlan}
use Rattle.onvm_base.specs.declared.chain.ChainStep.{ChainStep}
use Rattle.onvm_base.specs.declared.chain.ChainStep.TheVariants as step
use Rattle.onvm_base.specs.declared.function.FunctionPlan.{FunctionPlan}
use Rattle.onvm_base.specs.declared.function.Kind.{Kind}
use Rattle.onvm_base.specs.declared.function.Kind.TheVariants as kind
use Rattle.onvm_base.specs.declared.function.RouteEntry.{RouteEntry}
use Rattle.onvm_base.specs.declared.plan.Plan.{Plan}
use Rattle.onvm_base.specs.declared.rules.Prefix.{Prefix}
use Rattle.onvm_base.specs.declared.rules.RulePlan.{RulePlan}
use Rattle.onvm_base.specs.declared.rules.Tests.{Tests}
use Rattle.onvm_base.specs.Plan.{IsChainPlan, IsFunction, IsKind}
use Rattle.chain_file.specs.declared.file.TheConstants.{MAX_CHAIN_FILE_BRACKETS}
use Rattle.chain_file.specs.File.{is_opening, is_within, openings}
use Rattle.chain_file.specs.Widths.{PlanFits}
use Rattle.chain_file.specs.Written.{chain, entry, form, function, list, member_if, members_of, natural, one_step, own_rows, prefix, range, rule, tests}
use Rattle.chain_file.proofs.Compact.{IsPlain, IsText, ItemsArePlain, MembersArePlain}
use Rattle.chain_file.proofs.KeptNames.{both_true}
use Rattle.chain_file.proofs.Spelled.{is_letter}
use Rattle.chain_file.proofs.WrittenSize.{same_escaped}
use Rattle.chain_file.proofs.WrittenTop.{form_plain}

-- ---- a tree's lists and objects are the brackets that its text opens

abbrev mutual
  brackets : Data → ℕ
  brackets null = 0
  brackets (boolean b) = 0
  brackets (number n) = 0
  brackets (string s) = 0
  brackets (array ds) = 1 + items_brackets ds
  brackets (object ms) = 1 + members_brackets ms

  items_brackets : Items → ℕ
  items_brackets no_items = 0
  items_brackets (item d ds) = brackets d + items_brackets ds

  members_brackets : Members → ℕ
  members_brackets no_members = 0
  members_brackets (member k d ms) = brackets d + members_brackets ms

abbrev weight : ℕ → ℕ
weight c = cond (is_opening c) 1 0

both : (xs ys : List ℕ) → openings (xs ++ ys) ≡ openings xs + openings ys
both xs ys = sum_by-append weight xs ys

behind : (c : ℕ) (xs : List ℕ) → openings (c ∷ xs) ≡ weight c + openings xs
behind c xs = sum_by-cons weight c xs

letter_weight : (c : ℕ) → is_letter c ≡ true → weight c ≡ 0
letter_weight c e = grind arith

text_openings : (s : List ℕ) → IsText s → openings s ≡ 0
text_openings [] e = refl
text_openings (c ∷ cs) e =
    let two = both_true (is_letter c) (list_all is_letter cs) e in
    omega (arith, behind c cs, letter_weight c two.0, text_openings cs two.1)

quoted_openings : (s : List ℕ) → IsText s → openings (quoted s) ≡ 0
quoted_openings s e =
    omega (arith, behind 34 (escape s ++ 34 ∷ []), both (escape s) (34 ∷ []), ap openings (same_escaped s e), text_openings s e)

digit_weight : (n : ℕ) → weight (digit_glyph false (n % 10)) ≡ 0
digit_weight n = grind arith

either : (b : Bool) (xs ys : List ℕ) (n : ℕ) → openings xs ≡ n → openings ys ≡ n → openings (if b then xs else ys) ≡ n
either true xs ys n one other = one
either false xs ys n one other = other

onto_openings : (k n : ℕ) (acc : List ℕ) → openings (digits_onto k 10 false n acc) ≡ openings acc
onto_openings zero n acc = refl
onto_openings (suc k) n acc =
    let digit = digit_glyph false (n % 10) in
    let more : openings (digit ∷ acc) ≡ openings acc = omega (arith, behind digit acc, digit_weight n) in
    either (n / 10 == 0) (digit ∷ acc) (digits_onto k 10 false (n / 10) (digit ∷ acc)) (openings acc) more
    (onto_openings k (n / 10) (digit ∷ acc) ∙ more)

number_openings : (n : ℕ) → openings (decimal n) ≡ 0
unfolding digits
number_openings n = onto_openings 64 n []

comma_openings : (later : Bool) → openings (comma_if later) ≡ 0
comma_openings true = refl
comma_openings false = refl

mutual
  tree_openings : (levels : ℕ) (d : Data) → IsPlain levels d → openings (compact_text d) ≡ brackets d
  tree_openings levels null h = absurd h
  tree_openings levels (boolean b) h = absurd h
  tree_openings levels (number (unsigned n)) h = number_openings n
  tree_openings levels (number (negative z)) h = absurd h
  tree_openings levels (number (float x)) h = absurd h
  tree_openings levels (string s) h = quoted_openings s h
  tree_openings zero (array ds) h = absurd h
  tree_openings (suc levels) (array ds) h = omega (arith, behind 91 (items_text false ds), items_openings levels false ds h)
  tree_openings zero (object ms) h = absurd h
  tree_openings (suc levels) (object ms) h = omega (arith, behind 123 (members_text false ms), members_openings levels false ms h)

  items_openings : (levels : ℕ) (later : Bool) (ds : Items) → ItemsArePlain levels ds → openings (items_text later ds) ≡ items_brackets ds
  items_openings levels later no_items h = refl
  items_openings levels later (item d ds) h =
      omega (
        arith,
        comma_openings later,
        both (comma_if later) (compact_text d ++ items_text true ds),
        both (compact_text d) (items_text true ds),
        tree_openings levels d h.0,
        items_openings levels true ds h.1,
      )

  members_openings : (levels : ℕ) (later : Bool) (ms : Members) → MembersArePlain levels ms → openings (members_text later ms) ≡ members_brackets ms
  members_openings levels later no_members h = refl
  members_openings levels later (member k d ms) h =
      omega (
        arith,
        comma_openings later,
        both (comma_if later) (quoted k ++ 58 ∷ (compact_text d ++ members_text true ms)),
        both (quoted k) (58 ∷ (compact_text d ++ members_text true ms)),
        quoted_openings k h.0,
        behind 58 (compact_text d ++ members_text true ms),
        both (compact_text d) (members_text true ms),
        tree_openings levels d h.1,
        members_openings levels true ms h.2,
      )

-- ---- the lists and objects of a plan

abbrev Has : ℕ → Data → Type 0
Has most d = brackets d ≤ most

-- so many items with so many each
abbrev times : ℕ → ℕ → ℕ
times zero most = 0
times (suc n) most = most + times n most

times-le : (n m most : ℕ) → n ≤ m → times n most ≤ times m most
times-le zero m most less = omega arith
times-le (suc n) zero most less = absurd (omega arith)
times-le (suc n) (suc m) most less = omega (arith, times-le n m most (omega arith))

items_have : {A : Type 0} (most : ℕ) (form : A → Data) (xs : List A) → All (λ x. Has most (form x)) xs
    → items_brackets (items_of (map form xs)) ≤ times (length xs) most
items_have most form [] h = omega arith
items_have most form (x ∷ xs) h =
    let first : Has most (form x) = h 0 x (omega arith) in
    omega (arith, first, items_have most form xs (λ k d less. h (suc k) d (omega arith)))

list_has : {A : Type 0} (count most total : ℕ) (form : A → Data) (xs : List A) → All (λ x. Has most (form x)) xs → length xs ≤ count
    → times count most + 1 ≤ total → Has total (list (map form xs))
list_has count most total form xs h few enough = omega (arith, items_have most form xs h, times-le (length xs) count most few)

row_has : (key : List ℕ) (o : Option Data) (ms : Members) (most rest : ℕ) → IfSome o (Has most) → members_brackets ms ≤ rest
    → members_brackets (member_if key o ms) ≤ most + rest
row_has key None ms most rest h others = omega (arith, others)
row_has key (Some d) ms most rest h others = omega (arith, others)

number_test : (o : Option ℕ) → IfSome (option_map natural o) (Has 0)
number_test None = tt
number_test (Some n) = omega arith

prefix_test : (o : Option Prefix) → IfSome (option_map prefix o) (Has 0)
prefix_test None = tt
prefix_test (Some p) = omega arith

range_test : (o : Option (ℕ × ℕ)) → IfSome (option_map range o) (Has 1)
range_test None = tt
range_test (Some pair) = omega arith

tests_have : (t : Tests) → Has 3 (tests t)
tests_have t =
    let all =
    row_has (codes "port") (option_map natural t.port) _ 0 2 (number_test t.port)
    (row_has (codes "vlan") (option_map natural t.vlan) _ 0 2 (number_test t.vlan)
    (row_has (codes "type") (option_map natural t.ethertype) _ 0 2 (number_test t.ethertype)
    (row_has (codes "src") (option_map prefix t.src) _ 0 2 (prefix_test t.src)
    (row_has (codes "dst") (option_map prefix t.dst) _ 0 2 (prefix_test t.dst)
    (row_has (codes "protocol") (option_map natural t.protocol) _ 0 2 (number_test t.protocol)
    (row_has (codes "src_ports") (option_map range t.src_ports) _ 1 1 (range_test t.src_ports)
    (row_has (codes "dst_ports") (option_map range t.dst_ports) no_members 1 0 (range_test t.dst_ports) (omega arith)))))))) in
    omega (arith, all)

step_has : (s : ChainStep) → Has 1 (one_step s)
step_has (step.To n) = omega arith
step_has (step.Out n) = omega arith

entry_has : (e : RouteEntry) → Has 1 (entry e)
entry_has e = by_target e.target
  where
    by_target : (s : ChainStep) → Has 1 (entry (record { prefix = e.prefix; target = s }))
    by_target (step.To n) = omega arith
    by_target (step.Out n) = omega arith

all_have : {A : Type 0} (most : ℕ) (form : A → Data) → ((x : A) → Has most (form x)) → (xs : List A) → All (λ x. Has most (form x)) xs
all_have most form h xs = λ k d less. h _

own_have : (k : Kind) → IsKind k → members_brackets (members_of (own_rows k)) ≤ 257
own_have kind.Forward h = omega arith
own_have kind.Drop h = omega arith
own_have (kind.Out port) h = omega arith
own_have (kind.To service) h = omega arith
own_have (kind.Filter ts) h =
    let all = list_has MAX_TESTS 3 257 tests ts (all_have 3 tests tests_have ts) (h.filter_length ts refl).1 (omega arith) in
    omega (arith, all)
own_have kind.Ttl h = omega arith
own_have (kind.Tag vlan priority) h = omega arith
own_have kind.Untag h = omega arith
own_have (kind.Macs target source) h = omega arith
own_have (kind.Route table) h =
    let all = list_has MAX_ROUTES 1 257 entry table (all_have 1 entry entry_has table) (h.route_length table refl).1 (omega arith) in
    omega (arith, all)
own_have (kind.Balance services) h =
    let all = list_has 32 0 1 natural services (all_have 0 natural (λ n. omega arith) services) (h.balance_length services refl).1 (omega arith) in
    omega (arith, all)
own_have kind.Count h = omega arith
own_have (kind.Police rate depth) h = omega arith
own_have (kind.Nat inside outside ports) h = omega arith
own_have (kind.Guest guest) h = omega arith

function_has : (cores : ℕ) (f : FunctionPlan) → IsFunction cores f → Has 258 (function f)
function_has cores f h = omega (arith, own_have f.kind h.kind)

chain_has : (ports : ℕ) (fs : List FunctionPlan) (c : ChainPlan) → IsChainPlan ports fs c → Has 18 (chain c)
chain_has ports fs c h =
    let all = list_has MAX_CHAIN_STEPS 1 17 one_step c.steps (all_have 1 one_step step_has c.steps) h.length_of.1 (omega arith) in
    omega (arith, all)

rule_has : (cs : List ChainPlan) (r : RulePlan) → Has 4 (rule cs r)
rule_has cs r = omega (arith, tests_have r.tests)

plan_has : (p : Plan) → Has 10436 (form p)
plan_has p =
    let functions = list_has MAX_FUNCTIONS 258 8257 function p.functions (λ k d less. function_has p.cores _ (p.kept.functions_are k d less)) p.kept.function_count.1 (omega arith) in
    let chains = list_has MAX_CHAINS 18 1153 chain p.chains (λ k d less. chain_has p.ports p.functions _ (p.kept.chains_are k d less)) p.kept.chain_count.1 (omega arith) in
    let rules = list_has MAX_RULES 4 1025 (rule p.chains) p.rules (all_have 4 (rule p.chains) (rule_has p.chains) p.rules) p.kept.rule_count (omega arith) in
    omega (arith, functions, chains, rules)

-- ---- the text of a plan

pub form_brackets : (p : Plan) → PlanFits p → openings (compact_text (form p)) ≤ MAX_CHAIN_FILE_BRACKETS
form_brackets p fits = omega (arith, tree_openings 6 (form p) (form_plain p fits), plan_has p)

pub within : (bytes : List ℕ) → length bytes ≤ MAX_CHAIN_FILE_BYTES → openings bytes ≤ MAX_CHAIN_FILE_BRACKETS → is_within bytes ≡ true
within bytes size few = rw (le-leb (length bytes) MAX_CHAIN_FILE_BYTES size, le-leb (openings bytes) MAX_CHAIN_FILE_BRACKETS few) refl
