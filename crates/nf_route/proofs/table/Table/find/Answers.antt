use Rattle.nf_route.proofs.table.Table.find.Goals as goal

pub returns : goal.returns
returns c =
    let here = c.verdict_at.ensures in
    rw (here.3, ← c.self.view_is)
    (c.self.invariant.found c.args.target here.0 here.1 c.ranges.target.fits (rw c.deref.ensures.value at here.2))
