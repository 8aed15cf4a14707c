-- Guests by their names.
use Rattle.std.proofs.Common.{◌≡◌, ◌≢◌, ◌∙◌, sym, ap, refl, ℕ, zero, suc, ◌+◌, ◌||◌, if◌then◌else◌, true, Option, Some, IsSome, is_some, All, bytes_eq, List, map, [], ◌∷◌, ◌++◌, take, drop, inl, inr, arith}
use Rattle.std.specs.List.{list_any, slice_get}
use Rattle.std.proofs.lemmas.Bool.{cases_Bool, true≢false}
use Rattle.std.proofs.lemmas.Option.{none-some, same_Some}
use Rattle.std.proofs.lemmas.Slice.Eq.{bytes_eq-Decides}
use Rattle.onvm_base.specs.declared.function.FunctionPlan.{FunctionPlan}
use Rattle.onvm_base.specs.declared.function.Kind.TheVariants as kind
use Rattle.nf_api.specs.declared.guest.Guest.{Guest}
use Rattle.nf_catalog.specs.Units.{AreHandedIn, guest_named}

same_from : (a b : List ℕ) → bytes_eq a b ≡ true → a ≡ b
same_from a b is = (bytes_eq-Decides a b).0 is

module _ {V : Type 0} {F : V → Type 0} where
  pub named_first : (name : List ℕ) (guest : Guest V F) (rest : List (Guest V F)) → guest.name ≡ name
      → guest_named name (guest ∷ rest) ≡ Some guest
  named_first name guest rest is =
      ap (λ b. if b then Some guest else guest_named name rest) ((bytes_eq-Decides name guest.name).1 (sym is))

  pub named_later : (name : List ℕ) (guest : Guest V F) (rest : List (Guest V F)) → guest.name ≢ name
      → guest_named name (guest ∷ rest) ≡ guest_named name rest
  named_later name guest rest other = elim (cases_Bool (bytes_eq name guest.name)) [
    | inl is ↦ absurd (other (sym (same_from name guest.name is)))
    | inr is ↦ ap (λ b. if b then Some guest else guest_named name rest) is
  ]

  -- the guest of a name has the name
  pub has_name : (name : List ℕ) (guests : List (Guest V F)) (guest : Guest V F) → guest_named name guests ≡ Some guest
      → guest.name ≡ name
  has_name name [] guest is = absurd (none-some guest is)
  has_name name (first ∷ rest) guest is = elim (cases_Bool (bytes_eq name first.name)) [
    | inl same ↦
        let one = same_Some first guest (sym (ap (λ b. if b then Some first else guest_named name rest) same) ∙ is) in
        ap (λ (g : Guest V F). g.name) (sym one) ∙ sym (same_from name first.name same)
    | inr other ↦
        has_name name rest guest (sym (ap (λ b. if b then Some first else guest_named name rest) other) ∙ is)
  ]

  -- a name that a guest has is that of one
  pub named_some : (name : List ℕ) (guests : List (Guest V F)) → list_any (bytes_eq name) (map (λ guest. guest.name) guests) ≡ true
      → IsSome (guest_named name guests)
  named_some name [] is = absurd (true≢false (sym is))
  named_some name (guest ∷ rest) is = elim (cases_Bool (bytes_eq name guest.name)) [
    | inl same ↦ ap (λ b. is_some (if b then Some guest else guest_named name rest)) same
    | inr other ↦
        ap (λ b. is_some (if b then Some guest else guest_named name rest)) other
        ∙ named_some name rest (sym (ap (λ b. b || list_any (bytes_eq name) (map (λ guest. guest.name) rest)) other) ∙ is)
  ]

  pub handed_in_by_names : (functions : List FunctionPlan) (guests : List (Guest V F))
      → All (λ function. (name : List ℕ) → function.kind ≡ kind.Guest name
      → list_any (bytes_eq name) (map (λ guest. guest.name) guests) ≡ true) functions
      → AreHandedIn functions guests
  handed_in_by_names functions guests have =
      λ f default within name is. named_some name guests (have f default within name is)

  -- without a guest of another name
  removed : (name : List ℕ) (guests : List (Guest V F)) (at : ℕ)
      → ((guest : Guest V F) → slice_get guests at ≡ Some guest → guest.name ≢ name)
      → guest_named name (take at guests ++ drop (suc at) guests) ≡ guest_named name guests
  removed name [] zero other = refl
  removed name [] (suc at) other = refl
  removed name (guest ∷ rest) zero other = sym (named_later name guest rest (other guest refl))
  removed name (guest ∷ rest) (suc at) other =
      ap (λ (o : Option (Guest V F)). if bytes_eq name guest.name then Some guest else o) (removed name rest at other)

  pub left_removed : (name : List ℕ) (before after : List (Guest V F)) (at : ℕ) (taken : List ℕ)
      → after ≡ take at before ++ drop (at + 1) before → slice_get before at ≡ guest_named taken before
      → name ≢ taken → guest_named name after ≡ guest_named name before
  left_removed name before after at taken is place differ =
      let one : at + 1 ≡ suc at = omega arith in
      ap (guest_named name) (is ∙ ap (λ n. take at before ++ drop n before) one)
      ∙ removed name before at
      (λ guest there same. differ (sym same ∙ has_name taken before guest (sym place ∙ there)))
