use Rattle.std.proofs.Common.{◌+◌, refl}
use Rattle.onvm_session.proofs.NewRoles.{one_more_new}
use Rattle.onvm_session.proofs.new_roles.add_ticker.Goals as goal

pub returns : goal.returns
returns g c = λ site plan units feeds of new old.
    one_more_new _ _ _ _ _ site plan units feeds c.args.first (plan.ports + plan.transmit + plan.cores)
    (plan.ports + plan.transmit + plan.cores + 1) c.args.roles.now.items c.push_reserved.new.self.items c.ticker.result
    c.push_reserved.ensures.items refl old (c.ticker.ensures site plan units feeds of new)
