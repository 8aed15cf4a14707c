use Rattle.std.proofs.Common.{◌≡◌, ◌+◌, ap, sym, subst, arith}
use Rattle.onvm_base.specs.declared.plan.Plan.{Plan}
use Rattle.onvm_core.specs.declared.layout.Layout.{Layout}
use Rattle.onvm_promises.specs.Sampling.{AreTimed, is_cost}
use Rattle.nf_exec.specs.Rooms.{IsNewRoom}
use Rattle.nf_exec.proofs.tests.desk.Core.start.Goals as goal

pub returns : goal.returns
returns g c =
    let site = c.args.board.now in
    let plan : Plan = c.args.plan.now in
    let unused = c.requires.unused in
    let test = c.requires.test in
    let ports = ap (λ (layout : Layout). layout.ports) c.requires.layout in
    let transmit = ap (λ (layout : Layout). layout.transmit) c.requires.layout in
    let role : c.args.token.role ≡ site.layout.ports + site.layout.transmit + 1 =
    omega (arith, unused.role_is, test.ports, test.transmit, ports, transmit) in
    record {
      core = record {
        role_is =
            c.start.ensures.role site plan 1 c.args.token
            (subst (λ (p : Plan). IsNewRoom site p 1 c.in_ok-room.room) c.in_ok-registry.ensures c.in_ok-room.ensures)
            (record { board = unused.board; role = role; log = unused.log; hand = unused.empty_handed });
        timed = subst (AreTimed is_cost plan) (sym unused.log) tt;
      };
    }
