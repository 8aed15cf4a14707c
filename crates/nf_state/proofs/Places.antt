-- Mappings by the place of their inside.
use Rattle.std.proofs.Common.{◌≡◌, ◌∙◌, sym, ap, refl, ℕ, zero, suc, ◌+◌, ◌-◌, ◌<◌, ◌≤◌, true, cond, Option, Some, None, MatchOption, List, [], ◌∷◌, ◌++◌, length, get_or, inl, inr, arith, ◌⊎◌}
use Rattle.std.proofs.lemmas.List.{length-append}
use Rattle.std.specs.List.{slice_get}
use Rattle.std.specs.Ordering.{is_eq, nat_cmp}
use Rattle.std.specs.declared.cmp.Ordering.{Ordering}
use Rattle.std.specs.declared.cmp.Ordering.TheVariants.{Less, Equal, Greater}
use Rattle.std.specs.BTreeMap.{is_at}
use Rattle.std.proofs.lemmas.Bool.{cases_Bool, true≢false, le-ltb, eq-eqb}
use Rattle.std.proofs.lemmas.Option.{none-some, same_Some, slice_get-get_or, slice_get_within}
use Rattle.std.proofs.lemmas.Map.Lookups.{exact_pairs, exact_unsigned}
use Rattle.nf_state.specs.Kept.{AreKept, endpoint_cmp, mappings_from}
use Rattle.nf_state.specs.Mappings.{IsFree, IsLowestFree, IsUnmapped, Mapping, Maps, NoneIsFree, mapping}
use Rattle.nf_state.specs.declared.mappings.Endpoint.{Endpoint}

-- the mapping of a place
get_mapping : (first : ℕ) (xs : List Endpoint) (at : ℕ) (inside : Endpoint) → slice_get xs at ≡ Some inside
    → slice_get (mappings_from first xs) at ≡ Some (mapping inside (first + at))
get_mapping first [] at inside is = absurd (none-some inside is)
get_mapping first (x ∷ xs) zero inside is =
    ap (λ i. Some (mapping i first)) (same_Some x inside is)
    ∙ ap (λ n. Some (mapping inside n)) (omega arith)
get_mapping first (x ∷ xs) (suc at) inside is =
    get_mapping (suc first) xs at inside is ∙ ap (λ n. Some (mapping inside n)) (omega arith)

from_mapping : (first : ℕ) (xs : List Endpoint) (at : ℕ) (m : Mapping) → slice_get (mappings_from first xs) at ≡ Some m
    → (slice_get xs at ≡ Some m.inside) × (m.outside ≡ first + at)
from_mapping first [] at m is = absurd (none-some m is)
from_mapping first (x ∷ xs) zero m is =
    let same = same_Some (mapping x first) m is in
    (ap (λ (n : Mapping). Some n.inside) same, sym (ap (λ (n : Mapping). n.outside) same) ∙ omega arith)
from_mapping first (x ∷ xs) (suc at) m is =
    let less = from_mapping (suc first) xs at m is in
    (less.0, less.1 ∙ omega arith)

pub length-mappings : (first : ℕ) (xs : List Endpoint) → length (mappings_from first xs) ≡ length xs
length-mappings first [] = refl
length-mappings first (x ∷ xs) = ap suc (length-mappings (suc first) xs)

pub push-mappings : (first : ℕ) (xs : List Endpoint) (x : Endpoint) (outside : ℕ) → outside ≡ first + length xs
    → mappings_from first (xs ++ x ∷ []) ≡ mappings_from first xs ++ mapping x outside ∷ []
push-mappings first [] x outside is = ap (λ n. mapping x n ∷ []) (omega arith)
push-mappings first (y ∷ ys) x outside is =
    ap (λ ms. mapping y first ∷ ms) (push-mappings (suc first) ys x outside (omega arith))

pub get-push_left : {A : Type 0} (xs : List A) (x y : A) (at : ℕ) → slice_get xs at ≡ Some y
    → slice_get (xs ++ x ∷ []) at ≡ Some y
get-push_left [] x y at is = absurd (none-some y is)
get-push_left (z ∷ zs) x y zero is = is
get-push_left (z ∷ zs) x y (suc at) is = get-push_left zs x y at is

pub get-push_last : {A : Type 0} (xs : List A) (x : A) (at : ℕ) → at ≡ length xs → slice_get (xs ++ x ∷ []) at ≡ Some x
get-push_last [] x zero is = refl
get-push_last [] x (suc at) is = absurd (omega arith)
get-push_last (z ∷ zs) x zero is = absurd (omega arith)
get-push_last (z ∷ zs) x (suc at) is = get-push_last zs x at (omega arith)

pub get-push_cases : {A : Type 0} (xs : List A) (x y : A) (at : ℕ) → slice_get (xs ++ x ∷ []) at ≡ Some y
    → (slice_get xs at ≡ Some y) ⊎ ((x ≡ y) × (at ≡ length xs))
get-push_cases [] x y zero is = inr (same_Some x y is, refl)
get-push_cases [] x y (suc at) is = absurd (none-some y is)
get-push_cases (z ∷ zs) x y zero is = inl is
get-push_cases (z ∷ zs) x y (suc at) is = elim (get-push_cases zs x y at is) [
  | inl left ↦ inl left
  | inr last ↦ inr (last.0, ap suc last.1)
]

-- insides that compare alike are one
exact_endpoints : (a b : Endpoint) → endpoint_cmp a b ≡ Equal → a ≡ b
exact_endpoints a b is =
    ap (λ (p : ℕ × ℕ). record { address = p.0; port = p.1 })
    (exact_pairs nat_cmp nat_cmp exact_unsigned exact_unsigned (a.address, a.port) (b.address, b.port) is)

equal_from : (o : Ordering) → is_eq o ≡ true → o ≡ Equal
equal_from Less is = absurd (true≢false (sym is))
equal_from Equal is = refl
equal_from Greater is = absurd (true≢false (sym is))

same-number : (n : ℕ) → nat_cmp n n ≡ Equal
same-number n = simp (le-ltb n n (omega arith), eq-eqb n n refl) refl

same-inside : (a : Endpoint) → is_at (endpoint_cmp a) a ≡ true
same-inside a = simp (same-number a.address, same-number a.port) refl

module _ (first last : ℕ) (xs : List Endpoint) (port_of : Endpoint → Option ℕ) (kept : AreKept first last xs port_of) where
  pub maps_from : (inside : Endpoint) (port : ℕ) → port_of inside ≡ Some port → Maps (mappings_from first xs) inside port
  maps_from inside port is = (
    port - first,
    get_mapping first xs (port - first) inside (kept.back inside port is)
        ∙ ap (λ n. Some (mapping inside n)) (omega (arith, kept.from inside port is)),
  )

  pub maps_to : (inside : Endpoint) (port : ℕ) → Maps (mappings_from first xs) inside port → port_of inside ≡ Some port
  maps_to inside port maps =
      let place = from_mapping first xs maps.0 (mapping inside port) maps.1 in
      kept.there maps.0 inside place.0 ∙ ap Some (sym place.1)

  -- what the ordered map answers
  pub found : (inside : Endpoint) (o : Option ℕ) → port_of inside ≡ o
      → MatchOption o (IsUnmapped (mappings_from first xs) inside) (λ port. Maps (mappings_from first xs) inside port)
  found inside None is = λ port maps. none-some port (sym is ∙ maps_to inside port maps)
  found inside (Some port) is = maps_from inside port is

  -- the port in front of the first one is free
  pub free_below : (outside : ℕ) → outside < first → IsFree (mappings_from first xs) outside
  free_below outside below inside maps =
      let place = from_mapping first xs maps.0 (mapping inside outside) maps.1 in
      omega (arith, place.1)

  -- what stands at a place
  pub stands : (outside : ℕ) (o : Option Endpoint) → first ≤ outside → slice_get xs (outside - first) ≡ o
      → MatchOption o (IsFree (mappings_from first xs) outside) (λ inside. Maps (mappings_from first xs) inside outside)
  stands outside None from is = λ inside maps.
      let place = from_mapping first xs maps.0 (mapping inside outside) maps.1 in
      let at : maps.0 ≡ outside - first = omega (arith, place.1) in
      none-some inside (sym is ∙ ap (slice_get xs) (sym at) ∙ place.0)
  stands outside (Some inside) from is = (
    outside - first,
    get_mapping first xs (outside - first) inside is ∙ ap (λ n. Some (mapping inside n)) (omega arith),
  )

  -- each port below the next one is assigned
  assigned : (outside : ℕ) → first ≤ outside → outside < first + length xs
      → (inside : Endpoint) × Maps (mappings_from first xs) inside outside
  assigned outside from below =
      let inside = get_or xs (outside - first) (record { address = 0; port = 0 }) in (
        inside,
        (
          outside - first,
          get_mapping first xs (outside - first) inside
              (slice_get-get_or xs (outside - first) (record { address = 0; port = 0 }) (omega arith))
              ∙ ap (λ n. Some (mapping inside n)) (omega arith),
        ),
      )

  pub none_left : last < first + length xs → NoneIsFree (first, last) (mappings_from first xs)
  none_left full outside from upto = assigned outside from (omega arith)

  pub next_lowest : (outside : ℕ) → outside ≡ first + length xs → outside ≤ last
      → IsLowestFree (first, last) (mappings_from first xs) outside
  next_lowest outside is upto =
      record {
        from = omega arith;
        upto = upto;
        free = λ inside maps.
            let place = from_mapping first xs maps.0 (mapping inside outside) maps.1 in
            let within = slice_get_within xs maps.0 inside place.0 in
            omega (arith, place.1);
        lowest = λ lower from below. assigned lower from (omega arith);
      }

  -- with one inside more
  pub kept_more : (inside : Endpoint) (outside : ℕ) (more : Endpoint → Option ℕ)
      → IsUnmapped (mappings_from first xs) inside → outside ≡ first + length xs → outside ≤ last
      → ((q : Endpoint) → more q ≡ cond (is_at (endpoint_cmp inside) q) (Some outside) (port_of q))
      → AreKept first last (xs ++ inside ∷ []) more
  kept_more inside outside more new is upto updates =
      let here : more inside ≡ Some outside =
      updates inside ∙ ap (λ b. cond b (Some outside) (port_of inside)) (same-inside inside) in
      let unmapped = λ (q : Endpoint) (port : ℕ) (has : port_of q ≡ Some port) (same : inside ≡ q).
      new port (maps_from inside port (ap port_of same ∙ has)) in
      record {
        room = simp length-append (omega arith);
        there = λ at q there. elim (get-push_cases xs inside q at there) [
          | inl before ↦ elim (cases_Bool (is_at (endpoint_cmp inside) q)) [
            | inl same ↦
                absurd (unmapped q (first + at) (kept.there at q before)
                (exact_endpoints inside q (equal_from (endpoint_cmp inside q) same)))
            | inr other ↦
                updates q ∙ ap (λ b. cond b (Some outside) (port_of q)) other ∙ kept.there at q before
          ]
          | inr last ↦ ap more (sym last.0) ∙ here ∙ ap Some (omega (arith, is, last.1))
        ];
        from = λ q port has. elim (cases_Bool (is_at (endpoint_cmp inside) q)) [
          | inl same ↦
              let one = same_Some _ _ (sym has ∙ updates q ∙ ap (λ b. cond b (Some outside) (port_of q)) same) in
              omega arith
          | inr other ↦
              kept.from q port (sym (updates q ∙ ap (λ b. cond b (Some outside) (port_of q)) other) ∙ has)
        ];
        back = λ q port has. elim (cases_Bool (is_at (endpoint_cmp inside) q)) [
          | inl same ↦
              let one = same_Some _ _ (sym has ∙ updates q ∙ ap (λ b. cond b (Some outside) (port_of q)) same) in
              get-push_last xs inside (port - first) (omega arith)
              ∙ ap Some (exact_endpoints inside q (equal_from (endpoint_cmp inside q) same))
          | inr other ↦
              get-push_left xs inside q (port - first)
              (kept.back q port (sym (updates q ∙ ap (λ b. cond b (Some outside) (port_of q)) other) ∙ has))
        ];
      }
