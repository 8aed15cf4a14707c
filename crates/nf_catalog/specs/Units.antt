-- The units of a plan's functions, and what a unit does.
use Rattle.std.specs.Prelude.{◌≡◌, ⊤, ℕ, if◌then◌else◌, List, [], ◌∷◌, length, All, Option, Some, None, IsSome, IsTrue, bytes_eq, slice_get}
use Rattle.onvm_base.specs.declared.function.FunctionPlan.{FunctionPlan}
use Rattle.onvm_base.specs.declared.function.Kind.{Kind}
use Rattle.onvm_base.specs.declared.function.Kind.TheVariants as kind
use Rattle.nf_api.specs.Acts.{Acts}
use Rattle.nf_api.specs.Answers.{ActsStatelessly}
use Rattle.nf_api.specs.Tree.{Tree, nothing}
use Rattle.nf_api.specs.declared.guest.Guest.{Guest}
use Rattle.nf_steady.specs.Kinds.{does_grow}
use Rattle.nf_steady.specs.Kinds as steady
use Rattle.nf_route.specs.Kinds as route
use Rattle.nf_state.specs.Kinds.{ActsByState, Wants, first_state}
use Rattle.nf_state.specs.Kinds as keeper
use Rattle.nf_catalog.specs.declared.unit.UnitOf.{UnitOf}
use Rattle.nf_catalog.specs.declared.unit.UnitOf.TheVariants as unit

-- A guest's box holds a table of its functions, of a type V, and beside it a value, of a type F that the table names.

-- the first guest of a name
abbrev pub guest_named : {V : Type 0} {F : V → Type 0} → List ℕ → List (Guest V F) → Option (Guest V F)
guest_named name [] = None
guest_named name (guest ∷ rest) = if bytes_eq name guest.name then Some guest else guest_named name rest

-- the kind that a unit was made of
abbrev pub kind_of : {V : Type 0} {F : V → Type 0} → UnitOf (Guest V F) → Kind
kind_of (unit.Steady function) = steady.kind_of function
kind_of (unit.Route function) = route.kind_of function
kind_of (unit.Keeper function) = keeper.kind_of function
kind_of (unit.Guest guest) = kind.Guest guest.name

-- a unit of this kind begins so: a keeper with nothing in it, and a guest as it was handed in, the first of its name
abbrev pub Begins : {V : Type 0} {F : V → Type 0} → List (Guest V F) → Kind → UnitOf (Guest V F) → Type 0
Begins guests given (unit.Steady function) = ⊤
Begins guests given (unit.Route function) = ⊤
Begins guests given (unit.Keeper function) = keeper.state_of function ≡ first_state given
Begins guests given (unit.Guest guest) = guest_named guest.name guests ≡ Some guest

pub record IsUnitOf {V : Type 0} {F : V → Type 0} (guests : List (Guest V F)) (given : Kind) (one : UnitOf (Guest V F))
    : Type 0 where
  pub kind_is : kind_of one ≡ given
  pub begins : Begins guests given one

-- unit f is that of function f
pub record AreUnits {V : Type 0} {F : V → Type 0} (functions : List FunctionPlan) (guests : List (Guest V F))
    (units : List (UnitOf (Guest V F))) : Type 0 where
  pub count : length units ≡ length functions
  pub each : (f : ℕ) (function : FunctionPlan) (one : UnitOf (Guest V F)) → slice_get functions f ≡ Some function
      → slice_get units f ≡ Some one → IsUnitOf guests function.kind one

-- each guest that a function names is handed in
abbrev pub AreHandedIn : {V : Type 0} {F : V → Type 0} → List FunctionPlan → List (Guest V F) → Type 0
AreHandedIn functions guests =
    All (λ function. (name : List ℕ) → function.kind ≡ kind.Guest name → IsSome (guest_named name guests)) functions

-- What a unit does, where of a guest this is said

abbrev pub state_of : {G : Type 0} → (G → Tree) → UnitOf G → Tree
state_of of_guest (unit.Steady function) = nothing
state_of of_guest (unit.Route function) = nothing
state_of of_guest (unit.Keeper function) = keeper.state_of function
state_of of_guest (unit.Guest guest) = of_guest guest

abbrev pub acts_of : {G : Type 0} → (G → Acts) → UnitOf G → Acts
acts_of of_guest (unit.Steady function) = ActsStatelessly (steady.kind_of function)
acts_of of_guest (unit.Route function) = ActsStatelessly (route.kind_of function)
acts_of of_guest (unit.Keeper function) = ActsByState (keeper.kind_of function)
acts_of of_guest (unit.Guest guest) = of_guest guest

abbrev pub wants_of : {G : Type 0} → (G → List ℕ → Type 0) → UnitOf G → List ℕ → Type 0
wants_of of_guest (unit.Steady function) bytes = IsTrue (does_grow (steady.kind_of function) bytes)
wants_of of_guest (unit.Route function) bytes = ⊥
wants_of of_guest (unit.Keeper function) bytes = Wants function bytes
wants_of of_guest (unit.Guest guest) bytes = of_guest guest bytes
