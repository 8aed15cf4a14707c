use Rattle.cpu_shares.proofs.Listed.{slice_get-shares_in}
use Rattle.cpu_shares.proofs.division.share.Goals as goal

pub returns-clause-share : goal.returns-clause-share
returns-clause-share c =
    rw c.share_in.ensures.share
    (rw (c.value.ensures.is, c.total.ensures.is)
    (slice_get-shares_in _ c.args.loads.now c.args.priorities.now c.args.at c.requires.within
    c.requires.priorities.as_many))
