-- Lists are made and found by type and by port.
use Rattle.std.proofs.Common.{◌≡◌, ◌∙◌, ◌⊎◌, sym, ap, subst, ℕ, zero, suc, ◌+◌, ◌<◌, ◌≤◌, List, [], ◌∷◌, ◌++◌, Option, Some, None, map, length, take, get_or, inl, inr, refl, nat_cmp, arith}
use Rattle.std.specs.List.{cons_option, Contains, filter, filter_map, slice_get}
use Rattle.std.specs.List.Sorted.{IsBinarySearchResult, IsStrictlyIncreasing}
use Rattle.std.specs.Option.{MatchOption}
use Rattle.std.specs.Prelude.{Result, Ok, Err}
use Rattle.std.specs.Result.{result_ok}
use Rattle.std.proofs.lemmas.Bool.{cases_lt}
use Rattle.std.proofs.lemmas.List.{get_or_default, map-append, take_more}
use Rattle.std.proofs.lemmas.List.Elements.{Contains-append_cases, Contains-push_cases}
use Rattle.std.proofs.lemmas.List.Kept.{AllPairs-from_increasing}
use Rattle.std.proofs.lemmas.List.Sorted.{searched}
use Rattle.std.proofs.lemmas.Option.{none-some, same_Some}
use Rattle.onvm_base.specs.declared.rules.RulePlan.{RulePlan}
use Rattle.rule_match.proofs.Sifted.{Contains-first, Contains-later}
use Rattle.rule_match.specs.Parts.{asked_type, can_be_of_port, can_have_type, lists_by_type, ArePartedByPort, IsOther, IsPlaceOf}

-- what is in a list is its first item or behind it
Contains-cases : {A : Type 0} (x : A) (xs : List A) (y : A) → Contains (x ∷ xs) y → (x ≡ y) ⊎ Contains xs y
Contains-cases x xs y has = elim (Contains-append_cases (x ∷ []) xs y has) [
  | inl first ↦ elim (Contains-push_cases [] x y first) [
    | inl nowhere ↦ absurd (omega (arith, nowhere.1))
    | inr same ↦ inl same
  ]
  | inr later ↦ inr later
]

Contains-cons_option : {A : Type 0} (o : Option A) (xs : List A) (y : A) → Contains xs y → Contains (cons_option o xs) y
Contains-cons_option None xs y has = has
Contains-cons_option (Some x) xs y has = Contains-later x xs y has

-- a type that a rule asks for is among those asked for
pub Contains-asked : (rules : List RulePlan) (rule : RulePlan) (ethertype : ℕ) → Contains rules rule
    → asked_type rule ≡ Some ethertype → Contains (filter_map asked_type rules) ethertype
Contains-asked [] rule ethertype has asks = absurd (omega (arith, has.1))
Contains-asked (other ∷ rules) rule ethertype has asks =
    let rest = filter_map asked_type rules in
    elim (Contains-cases other rules rule has) [
      | inl same ↦
          subst (λ (o : Option ℕ). Contains (cons_option o rest) ethertype) (sym (ap asked_type same ∙ asks))
          (Contains-first ethertype rest)
      | inr later ↦
          Contains-cons_option (asked_type other) rest ethertype (Contains-asked rules rule ethertype later asks)
    ]

abbrev list_for : List RulePlan → ℕ → List RulePlan
list_for rules ethertype = filter (can_have_type (Some ethertype)) rules

-- one list more
pub lists_by_type-more : (rules : List RulePlan) (types : List ℕ) (index d : ℕ) (lists : List (List RulePlan))
    (list : List RulePlan) → index < length types → lists ≡ lists_by_type rules (take index types)
    → list ≡ filter (can_have_type (Some (get_or types index d))) rules
    → lists ++ list ∷ [] ≡ lists_by_type rules (take (index + 1) types)
lists_by_type-more rules types index d lists list lt so_far is =
    ap (λ (l : List (List RulePlan)). l ++ list ∷ []) so_far
    ∙ ap (λ (l : List RulePlan). map (list_for rules) (take index types) ++ l ∷ []) is
    ∙ sym (map-append (list_for rules) (take index types) (get_or types index d ∷ []))
    ∙ ap (map (list_for rules)) (sym (take_more types index d lt))

rises : (types : List ℕ) → IsStrictlyIncreasing types → (i j : ℕ) → i ≤ j → j < length types
    → get_or types i 0 ≤ get_or types j 0
rises types rise i j le lt = elim (cases_lt i j) [
  | inl before ↦
      let below : get_or types i 0 < get_or types j 0 = AllPairs-from_increasing types rise i j 0 before lt in
      omega (arith, below)
  | inr after ↦
      let same : i ≡ j = omega (arith, le, after) in
      omega (arith, ap (λ (k : ℕ). get_or types k 0) same)
]

-- what a binary search finds
pub found_place : (types : List ℕ) (own : ℕ) (found : Result ℕ ℕ) → IsStrictlyIncreasing types
    → IsBinarySearchResult (λ y. nat_cmp y own) types found
    → MatchOption (result_ok found) (IsOther types (Some own)) (IsPlaceOf types (Some own))
found_place types own (Ok at) rise position =
    let here = searched types own (Ok at) position (rises types rise) in
    record { within = here.0; same = ap (λ (n : ℕ). Some n) (sym here.1) }
found_place types own (Err at) rise position =
    let gap = searched types own (Err at) position (rises types rise) in
    λ asked has same.
    let is : own ≡ asked = same_Some own asked same in
    let there : get_or types has.0 0 ≡ asked = get_or_default types has.0 0 asked has.1 ∙ has.2 in
    elim (cases_lt has.0 at) [
      | inl before ↦ absurd (omega (arith, gap.1 has.0 before, there, is))
      | inr after ↦ absurd (omega (arith, gap.2 has.0 after has.1, there, is))
    ]

push_cases : {A : Type 0} (xs : List A) (x y : A) (at : ℕ) → slice_get (xs ++ x ∷ []) at ≡ Some y
    → ((at < length xs) × (slice_get xs at ≡ Some y)) ⊎ ((at ≡ length xs) × (x ≡ y))
push_cases [] x y zero there = inr (refl, same_Some x y there)
push_cases [] x y (suc at) there = absurd (none-some y there)
push_cases (z ∷ xs) x y zero there = inl (omega arith, there)
push_cases (z ∷ xs) x y (suc at) there = elim (push_cases xs x y at there) [
  | inl before ↦ inl (omega (arith, before.0), before.1)
  | inr last ↦ inr (omega (arith, last.0), last.1)
]

-- one port more
pub ArePartedByPort-more : (rules : List RulePlan) (lists : List (List RulePlan)) (port : ℕ) (list : List RulePlan)
    → length lists ≡ port → list ≡ filter (can_be_of_port port) rules → ArePartedByPort rules lists
    → ArePartedByPort rules (lists ++ list ∷ [])
ArePartedByPort-more rules lists port list count is parted = λ at other there.
    elim (push_cases lists list other at there) [
      | inl before ↦ parted at other before.1
      | inr last ↦
          sym last.1 ∙ is ∙ ap (λ (p : ℕ). filter (can_be_of_port p) rules) (sym (last.0 ∙ count))
    ]
