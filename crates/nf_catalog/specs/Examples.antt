-- The functions of the plan that the tests are about.
use Rattle.std.specs.Prelude.{ℕ, ◌+◌, List, [], ◌∷◌}
use Rattle.onvm_base.specs.declared.function.FunctionPlan.{FunctionPlan}
use Rattle.onvm_base.specs.declared.function.Kind.{Kind}
use Rattle.onvm_base.specs.declared.function.Kind.TheVariants.{Guest}

-- a function of this service, whose name is the service's digit
abbrev pub function_of : ℕ → Kind → FunctionPlan
function_of service kind =
    record {
      name = (48 + service) ∷ [];
      service = service;
      core = 0;
      kind = kind;
      priority = 1;
      weight = 1024;
      cost = 100;
    }

-- guest b, and then guest a
abbrev pub two_guests : List FunctionPlan
two_guests = function_of 1 (Guest (98 ∷ [])) ∷ function_of 2 (Guest (97 ∷ [])) ∷ []
