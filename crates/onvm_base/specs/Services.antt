-- Which functions offer a service.
use Rattle.std.specs.Prelude.{ℕ, ◌+◌, ◌==◌, if◌then◌else◌, List, [], ◌∷◌}
use Rattle.onvm_base.specs.declared.function.FunctionPlan.{FunctionPlan}

-- the numbers of the functions of a service, where these functions are numbered from n
abbrev pub instances_from : ℕ → ℕ → List FunctionPlan → List ℕ
instances_from n service [] = []
instances_from n service (f ∷ fs) =
    if f.service == service then n ∷ instances_from (n + 1) service fs else instances_from (n + 1) service fs

-- the instances of a service, in file order
abbrev pub instances : ℕ → List FunctionPlan → List ℕ
instances service functions = instances_from 0 service functions
