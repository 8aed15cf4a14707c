-- What assigning a port leaves of the mappings.
use Rattle.std.proofs.Common.{◌≡◌, ◌∙◌, sym, ap, subst, refl, ℕ, Option, Some, None, List, [], ◌∷◌, ◌++◌, length, inl, inr, ◌⊎◌}
use Rattle.std.specs.List.{slice_get}
use Rattle.std.proofs.lemmas.Option.{none-some}
use Rattle.nf_state.specs.Mappings.{AreFair, IsFree, IsUnmapped, Assigns, Mapping, Maps, mapping}
use Rattle.nf_state.specs.declared.mappings.Endpoint.{Endpoint}
use Rattle.nf_state.proofs.Places.{get-push_cases, get-push_last, get-push_left}

same_inside : (a b : Endpoint) (m n : ℕ) → mapping a m ≡ mapping b n → a ≡ b
same_inside a b m n is = ap (λ (x : Mapping). x.inside) is

same_outside : (a b : Endpoint) (m n : ℕ) → mapping a m ≡ mapping b n → m ≡ n
same_outside a b m n is = ap (λ (x : Mapping). x.outside) is

-- one mapping more is one that there was, or the new one
maps_more : (mappings : List Mapping) (new : Endpoint) (n : ℕ) (inside : Endpoint) (outside : ℕ)
    → Maps (mappings ++ mapping new n ∷ []) inside outside
    → Maps mappings inside outside ⊎ ((new ≡ inside) × (n ≡ outside))
maps_more mappings new n inside outside maps =
    elim (get-push_cases mappings (mapping new n) (mapping inside outside) maps.0 maps.1) [
      | inl before ↦ inl (maps.0, before)
      | inr last ↦ inr (same_inside new inside n outside last.0, same_outside new inside n outside last.0)
    ]

stays_by : (before after : List Mapping) (new : Mapping) (inside : Endpoint) (outside : ℕ) → after ≡ before ++ new ∷ []
    → Maps before inside outside → Maps after inside outside
stays_by before after new inside outside more maps = (
  maps.0,
  ap (λ ms. slice_get ms maps.0) more ∙ get-push_left before new (mapping inside outside) maps.0 maps.1,
)

same_by : (before after : List Mapping) (inside : Endpoint) (outside : ℕ) → after ≡ before
    → Maps before inside outside → Maps after inside outside
same_by before after inside outside same maps = (maps.0, ap (λ ms. slice_get ms maps.0) same ∙ maps.1)

pub stays : (ports : ℕ × ℕ) (before after : List Mapping) (to : Endpoint) (port : Option ℕ) (inside : Endpoint)
    (outside : ℕ) → Assigns ports before to port after → Maps before inside outside → Maps after inside outside
stays ports before after to None inside outside assigns maps = same_by before after inside outside assigns.same maps
stays ports before after to (Some port) inside outside (inl finds) maps =
    same_by before after inside outside finds.same maps
stays ports before after to (Some port) inside outside (inr opens) maps =
    stays_by before after (mapping to port) inside outside opens.more maps

pub back : (ports : ℕ × ℕ) (before after : List Mapping) (to : Endpoint) (outside : ℕ)
    → Assigns ports before to (Some outside) after → Maps after to outside
back ports before after to outside (inl finds) = same_by before after to outside finds.same finds.there
back ports before after to outside (inr opens) = (
  length before,
  ap (λ ms. slice_get ms (length before)) opens.more
      ∙ get-push_last before (mapping to outside) (length before) refl,
)

pub none_fair : AreFair []
none_fair =
    record {
      one_sender = λ a b outside first second. absurd (none-some (mapping a outside) first.1);
      one_port = λ inside m n first second. absurd (none-some (mapping inside m) first.1);
    }

fair_more : (before : List Mapping) (to : Endpoint) (port : ℕ) → IsUnmapped before to → IsFree before port
    → AreFair before → AreFair (before ++ mapping to port ∷ [])
fair_more before to port new free fair =
    record {
      one_sender = λ a b outside first second.
          elim (maps_more before to port a outside first) [
            | inl old ↦ elim (maps_more before to port b outside second) [
              | inl other ↦ fair.one_sender a b outside old other
              | inr last ↦ absurd (free a (subst (λ n. Maps before a n) (sym last.1) old))
            ]
            | inr last ↦ elim (maps_more before to port b outside second) [
              | inl other ↦ absurd (free b (subst (λ n. Maps before b n) (sym last.1) other))
              | inr also ↦ sym last.0 ∙ also.0
            ]
          ];
      one_port = λ inside m n first second.
          elim (maps_more before to port inside m first) [
            | inl old ↦ elim (maps_more before to port inside n second) [
              | inl other ↦ fair.one_port inside m n old other
              | inr last ↦ absurd (new m (subst (λ i. Maps before i m) (sym last.0) old))
            ]
            | inr last ↦ elim (maps_more before to port inside n second) [
              | inl other ↦ absurd (new n (subst (λ i. Maps before i n) (sym last.0) other))
              | inr also ↦ sym last.1 ∙ also.1
            ]
          ];
    }

pub fair : (ports : ℕ × ℕ) (before after : List Mapping) (to : Endpoint) (port : Option ℕ)
    → Assigns ports before to port after → AreFair before → AreFair after
fair ports before after to None assigns was = subst AreFair (sym assigns.same) was
fair ports before after to (Some port) (inl finds) was = subst AreFair (sym finds.same) was
fair ports before after to (Some port) (inr opens) was =
    subst AreFair (sym opens.more) (fair_more before to port opens.new opens.lowest.free was)
