-- The kinds that pick where a frame goes by its heads.
use Rattle.onvm_base.specs.declared.function.Kind.{Kind}
use Rattle.onvm_base.specs.declared.function.Kind.TheVariants as kind
use Rattle.nf_route.specs.declared.kinds.Route.{Route}
use Rattle.nf_route.specs.declared.kinds.Route.TheVariants as route

-- the kind, with its parameters, that a function was made of
abbrev pub kind_of : Route → Kind
kind_of (route.Route table) = kind.Route table
kind_of (route.Balance services) = kind.Balance services
