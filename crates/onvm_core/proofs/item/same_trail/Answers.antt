use Rattle.std.proofs.Common.{arith, rules}
use Rattle.onvm_core.proofs.Scanned.{same_by_get}
use Rattle.onvm_core.proofs.item.same_trail.Goals as goal

pub returns : goal.returns
returns c = (
  (λ _.
      same_by_get c.args.one.now c.args.other.now c.loop-at.invariant.long
      (λ k less. c.loop-at.invariant.same k (omega (arith, c.loop-at.invariant.end)))),
  search rules,
)
