use Rattle.std.proofs.Common.{subst, sym, OnErr}
use Rattle.nf_api.specs.Acts.{Narrows}
use Rattle.nf_api.specs.Answers.{ActsStatelessly}
use Rattle.nf_steady.specs.Kinds as steady
use Rattle.nf_route.specs.Kinds as route
use Rattle.nf_catalog.specs.Units.{acts_of}
use Rattle.nf_catalog.proofs.unit.UnitOfNetFunction.handle.Goals as goal

pub returns-in-Steady-clause-kept : goal.returns-in-Steady-clause-kept
returns-in-Steady-clause-kept g c =
    subst
    (λ unit. Narrows (ActsStatelessly (steady.kind_of c.handle.new.self)) (acts_of g.G.NetFunction.acts unit))
    (sym c.in-Steady.is) c.handle.ensures.kept

pub returns-in-Steady-clause-regained : goal.returns-in-Steady-clause-regained
returns-in-Steady-clause-regained g c =
    subst
    (λ unit. OnErr c.handle.result (Narrows (acts_of g.G.NetFunction.acts unit) (ActsStatelessly (steady.kind_of c.handle.new.self))))
    (sym c.in-Steady.is) c.handle.ensures.regained

pub returns-in-Route-clause-kept : goal.returns-in-Route-clause-kept
returns-in-Route-clause-kept g c =
    subst
    (λ unit. Narrows (ActsStatelessly (route.kind_of c.handle-in-Route.new.self)) (acts_of g.G.NetFunction.acts unit))
    (sym c.in-Route.is) c.handle-in-Route.ensures.kept
