-- Units one by one.
use Rattle.std.proofs.Common.{◌≡◌, ◌≢◌, ◌∙◌, sym, ap, subst, refl, ℕ, zero, suc, ◌+◌, ◌<◌, ◌≤◌, Some, List, [], ◌∷◌, ◌++◌, length, take, get_or, IsSome, inl, inr, ◌⊎◌, arith}
use Rattle.std.specs.List.{slice_get}
use Rattle.std.proofs.lemmas.List.{length-append, take_more}
use Rattle.std.proofs.lemmas.Option.{none-some, same_Some, slice_get-get_or}
use Rattle.onvm_base.specs.declared.function.FunctionPlan.{FunctionPlan}
use Rattle.onvm_base.specs.declared.function.Kind.{Kind}
use Rattle.onvm_base.specs.declared.function.Kind.TheVariants as kind
use Rattle.nf_api.specs.declared.guest.Guest.{Guest}
use Rattle.nf_catalog.specs.Units.{AreHandedIn, AreUnits, Begins, IsUnitOf, guest_named, kind_of}
use Rattle.nf_catalog.specs.declared.unit.UnitOf.{UnitOf}
use Rattle.nf_catalog.specs.declared.unit.UnitOf.TheVariants as unit

push_cases : {A : Type 0} (xs : List A) (x y : A) (at : ℕ) → slice_get (xs ++ x ∷ []) at ≡ Some y
    → (slice_get xs at ≡ Some y) ⊎ ((x ≡ y) × (at ≡ length xs))
push_cases [] x y zero is = inr (same_Some x y is, refl)
push_cases [] x y (suc at) is = absurd (none-some y is)
push_cases (z ∷ zs) x y zero is = inl is
push_cases (z ∷ zs) x y (suc at) is = elim (push_cases zs x y at is) [
  | inl left ↦ inl left
  | inr last ↦ inr (last.0, ap suc last.1)
]

within : {A : Type 0} (xs : List A) (y : A) (at : ℕ) → slice_get xs at ≡ Some y → at < length xs
within [] y at is = absurd (none-some y is)
within (x ∷ xs) y zero is = omega arith
within (x ∷ xs) y (suc at) is = omega (arith, within xs y at is)

module _ {V : Type 0} {F : V → Type 0} where
  -- a guest is the first of its name of all guests, if it is the first of those that are left
  begins_of_all : (all left : List (Guest V F)) (given : Kind) (one : UnitOf (Guest V F)) → kind_of one ≡ given
      → ((name : List ℕ) → given ≡ kind.Guest name → guest_named name left ≡ guest_named name all)
      → Begins left given one → Begins all given one
  begins_of_all all left given (unit.Steady function) is same begins = begins
  begins_of_all all left given (unit.Route function) is same begins = begins
  begins_of_all all left given (unit.Keeper function) is same begins = begins
  begins_of_all all left given (unit.Guest guest) is same begins = sym (same guest.name (sym is)) ∙ begins

  pub unit_of_all : (all left : List (Guest V F)) (given : Kind) (one : UnitOf (Guest V F))
      → ((name : List ℕ) → given ≡ kind.Guest name → guest_named name left ≡ guest_named name all)
      → IsUnitOf left given one → IsUnitOf all given one
  unit_of_all all left given one same is =
      record { kind_is = is.kind_is; begins = begins_of_all all left given one is.kind_is same is.begins }

  units_push : (functions : List FunctionPlan) (guests : List (Guest V F)) (units : List (UnitOf (Guest V F)))
      (function : FunctionPlan) (one : UnitOf (Guest V F)) → AreUnits functions guests units → IsUnitOf guests function.kind one
      → AreUnits (functions ++ function ∷ []) guests (units ++ one ∷ [])
  units_push functions guests units function one are is =
      record {
        count = simp length-append (omega (arith, are.count));
        each = λ f g u there has. elim (push_cases functions function g f there) [
          | inl before ↦ elim (push_cases units one u f has) [
            | inl also ↦ are.each f g u before also
            | inr last ↦ absurd (omega (arith, within functions g f before, are.count, last.1))
          ]
          | inr end ↦ elim (push_cases units one u f has) [
            | inl before ↦ absurd (omega (arith, within units u f before, are.count, end.1))
            | inr last ↦
                subst (λ (v : UnitOf (Guest V F)). IsUnitOf guests g.kind v) last.0
                (subst (λ (h : FunctionPlan). IsUnitOf guests h.kind one) end.0 is)
          ]
        ];
      }

  -- the units of the first functions, and which guests are left for the others
  pub record AreFirst (functions : List FunctionPlan) (guests : List (Guest V F)) (upto : ℕ)
      (units : List (UnitOf (Guest V F))) (left : List (Guest V F)) : Type 0 where
    pub units_are : AreUnits (take upto functions) guests units
    pub left_are : (f : ℕ) (function : FunctionPlan) (name : List ℕ) → upto ≤ f → slice_get functions f ≡ Some function
        → function.kind ≡ kind.Guest name → guest_named name left ≡ guest_named name guests

  pub first_none : (functions : List FunctionPlan) (guests : List (Guest V F)) → AreFirst functions guests 0 [] guests
  first_none functions guests =
      record {
        units_are = record { count = refl; each = λ f function one there has. absurd (none-some one has) };
        left_are = λ f function name from there is. refl;
      }

  -- one unit more
  pub first_more : (functions : List FunctionPlan) (guests : List (Guest V F)) (upto : ℕ) (units : List (UnitOf (Guest V F)))
      (left after : List (Guest V F)) (function : FunctionPlan) (one : UnitOf (Guest V F))
      → upto < length functions → function ≡ get_or functions upto function
      → ((j : ℕ) (other : FunctionPlan) (name : List ℕ) → upto < j → slice_get functions j ≡ Some other
      → function.kind ≡ kind.Guest name → other.kind ≢ kind.Guest name)
      → AreFirst functions guests upto units left → IsUnitOf left function.kind one
      → ((name : List ℕ) → function.kind ≢ kind.Guest name → guest_named name after ≡ guest_named name left)
      → AreFirst functions guests (upto + 1) (units ++ one ∷ []) after
  first_more functions guests upto units left after function one lt here differ first is others =
      let there : slice_get functions upto ≡ Some function =
      slice_get-get_or functions upto function lt ∙ ap Some (sym here) in
      record {
        units_are =
            subst (λ (fs : List FunctionPlan). AreUnits fs guests (units ++ one ∷ []))
            (ap (λ (f : FunctionPlan). take upto functions ++ f ∷ []) here ∙ sym (take_more functions upto function lt))
            (units_push (take upto functions) guests units function one first.units_are
            (unit_of_all guests left function.kind one
            (λ name named. first.left_are upto function name (omega arith) there named) is));
        left_are = λ j other name from has named.
            others name (λ same. differ j other name (omega arith) has same named)
            ∙ first.left_are j other name (omega arith) has named;
      }

  -- the guest of a function is handed in, and so it is left
  pub left_for : (functions : List FunctionPlan) (guests left : List (Guest V F)) (upto : ℕ) (units : List (UnitOf (Guest V F)))
      (function : FunctionPlan) (name : List ℕ) → upto < length functions → function ≡ get_or functions upto function
      → AreHandedIn functions guests → AreFirst functions guests upto units left → function.kind ≡ kind.Guest name
      → IsSome (guest_named name left)
  left_for functions guests left upto units function name lt here handed first named =
      subst IsSome
      (sym
      (first.left_are upto function name (omega arith)
      (slice_get-get_or functions upto function lt ∙ ap Some (sym here)) named))
      (handed upto function lt name (ap (λ (f : FunctionPlan). f.kind) (sym here) ∙ named))
