use Rattle.nf_route.proofs.Parting.{parted}
use Rattle.nf_route.proofs.bounds.push_ends.Goals as goal

pub returns-clause-part : goal.returns-clause-part
returns-clause-part c =
    parted c.push_address-2.new.bounds.items c.args.prefix c.of-span.result.first c.of-span.result.end c.of-span.ensures
    (λ address. c.in_ok-push_address-2.ensures.kept _ (c.in_ok-push_address.ensures.there address))
    c.in_ok-push_address-2.ensures.there
