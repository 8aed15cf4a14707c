-- The names of the guests that were handed in.
use Rattle.std.specs.Prelude.{ℕ, ◌≡◌, true, List, map, All, bytes_eq}
use Rattle.std.specs.List.{list_any}
use Rattle.nf_api.specs.declared.guest.Guest.{Guest}
use Rattle.onvm_base.specs.declared.function.Kind.{Kind}
use Rattle.onvm_base.specs.declared.function.Kind.TheVariants as kind
use Rattle.onvm_base.specs.declared.function.FunctionPlan.{FunctionPlan}

abbrev pub names_of : {X : Type 0} {F : X → Type 0} → List (Guest X F) → List (List ℕ)
names_of guests = map (λ guest. guest.name) guests

-- the guest that a kind names, if it names one, is one of these
abbrev pub HasGuest : (guests : List (List ℕ)) → Kind → Type 0
HasGuest guests k = (name : List ℕ) → k ≡ kind.Guest name → list_any (bytes_eq name) guests ≡ true

-- each guest that these functions name is one of these
abbrev pub HaveGuests : (guests : List (List ℕ)) → List FunctionPlan → Type 0
HaveGuests guests functions = All (λ f. HasGuest guests f.kind) functions
