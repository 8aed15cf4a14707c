-- Which functions a core runs, and which of a service's instances a hash picks.
use Rattle.std.specs.Prelude.{ℕ, ◌+◌, ◌%◌, ◌==◌, if◌then◌else◌, List, [], ◌∷◌, length, Option, Some, None, slice_index}
use Rattle.onvm_base.specs.declared.ids.FnId.{FnId}
use Rattle.onvm_base.specs.declared.function.FunctionPlan.{FunctionPlan}

-- the functions of a core, where these functions are numbered from n
abbrev pub residents_from : ℕ → ℕ → List FunctionPlan → List FnId
residents_from n core [] = []
residents_from n core (f ∷ fs) =
    if f.core == core then record { 0 = n } ∷ residents_from (n + 1) core fs else residents_from (n + 1) core fs

-- the functions of a core, in file order
abbrev pub residents : ℕ → List FunctionPlan → List FnId
residents core functions = residents_from 0 core functions

-- the instance that a flow hash picks of these
abbrev pub picked : List ℕ → ℕ → Option FnId
picked [] hash = None
picked (f ∷ fs) hash = Some (record { 0 = slice_index (f ∷ fs) (hash % length (f ∷ fs)) })
