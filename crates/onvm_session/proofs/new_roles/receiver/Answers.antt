use Rattle.onvm_session.proofs.NewRoles.{receiver_new}
use Rattle.onvm_session.proofs.new_roles.receiver.Goals as goal

pub returns : goal.returns
returns g c = λ site plan units feeds first port of new at.
    let start = c.start.ensures in
    receiver_new _ _ _ _ _ site plan units feeds first port.0 c.args.feed c.start.result (start.role site plan port of new)
    start.feed start.frames start.since at
