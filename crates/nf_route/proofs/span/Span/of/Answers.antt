use Rattle.nf_route.proofs.Spans.{spanned}
use Rattle.nf_route.proofs.span.Span.of.Goals as goal

pub returns-in-V4 : goal.returns-in-V4
returns-in-V4 c = λ target.
    rw (c.in-V4.is, c.from.ensures)
    (spanned c.in-V4.address target c.saturating_sub-free.result c.in-V4.length
    (rw c.from.ensures at c.from.type_inv) c.saturating_sub-free.ensures)
