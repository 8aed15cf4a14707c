use Rattle.std.proofs.Common.{◌≡◌, ◌+◌, ap, arith}
use Rattle.onvm_core.specs.declared.layout.Layout.{Layout}
use Rattle.pass_bench.proofs.handlers.Handler.start.Goals as goal

pub returns-clause-role : goal.returns-clause-role
returns-clause-role g c =
    let site = c.args.board.now in
    let fresh = c.requires.fresh in
    let ports = ap (λ (layout : Layout). layout.ports) c.requires.layout in
    let transmit = ap (λ (layout : Layout). layout.transmit) c.requires.layout in
    let role : c.args.token.role ≡ site.layout.ports + site.layout.transmit + 0 =
    omega (arith, fresh.role_is, ports, transmit) in
    c.start-role.ensures.role site c.args.registry.now 0 c.args.token c.in_ok-room.ensures
    (record { board = fresh.board; role = role; log = fresh.log; hand = fresh.empty_handed })
