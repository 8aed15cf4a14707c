use Rattle.std.proofs.Common.{◌-◌, ◌+◌, ◌<◌, ◌≤◌, subst, ap, ◌∙◌, arith}
use Rattle.desc_ring.proofs.Backward.{back_within, back_round}
use Rattle.desc_ring.proofs.tail.back.Goals as goal

pub returns-then-cell-k-clause-stands : goal.returns-then-cell-k-clause-stands
returns-then-cell-k-clause-stands c pushed at many =
    ap (λ n. n - c.args.k) at
    ∙ back_within pushed c.args.k c.args.size (omega (arith, c.requires.0))
    (subst (λ n. c.args.k ≤ n) at c.if-cell-k.true)

pub returns-else-cell-k-clause-stands : goal.returns-else-cell-k-clause-stands
returns-else-cell-k-clause-stands c pushed at many =
    ap (λ n. n + (c.args.size - c.args.k)) at
    ∙ back_round pushed c.args.k c.args.size (omega (arith, c.requires.0))
    (subst (λ n. n < c.args.k) at (omega (arith, c.if-cell-k.false))) c.requires.1 many
