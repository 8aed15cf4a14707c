use Rattle.std.proofs.Common.{◌≡◌, ◌+◌, subst, sym, arith}
use Rattle.onvm_base.specs.declared.plan.Plan.{Plan}
use Rattle.onvm_core.specs.Logs.{Log}
use Rattle.nf_exec.specs.Roles.{IsCoreRole}
use Rattle.onvm_promises.specs.Sampling.{AreTimed, is_cost}
use Rattle.run_tests.proofs.sessions.passes.handle.Goals as goal

pub pass-requires-clause-role : goal.pass-requires-clause-role
pass-requires-clause-role g c κs within =
    let site = c.args.board.now in
    let fresh = c.requires.token in
    let number : c.args.token.role ≡ site.layout.ports + site.layout.transmit + 0 =
    omega (arith, fresh.role_is, c.requires.plan.ports, c.requires.plan.transmit) in
    subst (λ (plan : Plan). IsCoreRole g.N.NetFunction.acts g.N.NetFunction.state site plan c.args.token c.start-role.result)
    c.requires.registry
    (c.start-role.ensures.role site c.args.registry.now 0 c.args.token c.in_ok-room.ensures
    (record { board = fresh.board; role = number; log = fresh.log; hand = fresh.empty_handed }))

pub pass-requires-clause-timed : goal.pass-requires-clause-timed
pass-requires-clause-timed g c κs within =
    subst (λ (log : Log). AreTimed is_cost c.args.plan.now log) (sym c.requires.token.log) tt
