use Rattle.std.proofs.Common.{sym, subst}
use Rattle.tx_pass.specs.declared.role.TxRole.{TxRole}
use Rattle.tx_pass.specs.Roles.{IsNewRole as IsNewSender}
use Rattle.onvm_session.proofs.NewRoles.{sender_new}
use Rattle.onvm_session.proofs.new_roles.sender.Goals as goal

pub returns : goal.returns
returns g c = λ site plan units feeds first number new.
    sender_new _ _ _ _ _ site plan units feeds first number c.start.result
    (subst (λ (tx : TxRole). IsNewSender site plan number tx) (sym c.start.ensures) new)
