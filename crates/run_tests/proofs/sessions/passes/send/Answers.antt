use Rattle.std.proofs.Common.{sym, subst}
use Rattle.tx_pass.specs.declared.role.TxRole.{TxRole}
use Rattle.tx_pass.specs.Roles.{IsTxRole}
use Rattle.run_tests.proofs.sessions.passes.send.Goals as goal

pub pass-requires-clause-role : goal.pass-requires-clause-role
pass-requires-clause-role c =
    let fresh = c.requires.token in
    subst (λ (role : TxRole). IsTxRole c.args.board.now c.args.plan.now c.args.token role) (sym c.start-role.ensures)
    (c.in_ok-make.ensures.ready c.args.token fresh.board fresh.role_is fresh.log fresh.empty_handed)
