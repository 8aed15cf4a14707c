use Rattle.onvm_base.specs.declared.ids.PortId.{PortId}
use Rattle.run_tests.proofs.sessions.passes.receive.Goals as goal

pub pass-received-requires-clause-role : goal.pass-received-requires-clause-role
pass-received-requires-clause-role g c =
    let port : PortId = record { 0 = 0 } in
    let fresh = c.requires.token in
    let role = c.start-role.ensures.role c.args.board.now c.args.plan.now port c.requires.plan c.in_ok-make.ensures in
    role.ready c.args.token fresh.board fresh.role_is fresh.log fresh.empty_handed
