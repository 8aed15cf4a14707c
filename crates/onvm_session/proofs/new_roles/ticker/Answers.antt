use Rattle.std.proofs.Common.{refl}
use Rattle.onvm_session.proofs.NewRoles.{ticker_new}
use Rattle.onvm_session.proofs.new_roles.ticker.Goals as goal

pub returns : goal.returns
returns g c = λ site plan units feeds of new.
    let start = c.start.ensures in
    ticker_new _ _ _ _ _ site plan units feeds c.args.first _ c.start.result of refl
    (λ token board role log. start.role plan site token new of board role log)
    start.first start.latest (start.samples plan new) (start.ticks plan new)
