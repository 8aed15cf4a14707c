use Rattle.std.proofs.Common.{◌∙◌, arith, refl}
use Rattle.std.proofs.lemmas.List.{take_all}
use Rattle.nf_route.proofs.Ranging.{BeginAt-more, ranged}
use Rattle.nf_route.proofs.ranges.ranges_of.Goals as goal

pub loop-bound-preserved : goal.loop-bound-preserved
loop-bound-preserved c =
    rw c.in_ok-push.ensures.items
    (BeginAt-more _ _ _ _ _ _ (omega arith) refl c.find-verdict.ensures c.loop-bound.invariant)

pub returns : goal.returns
returns c =
    ranged c.args.entries.now c.in_ok-bounds.bounds.items c.loop-bound.ranges.items
    (record {
      firsts =
          c.loop-bound.invariant.firsts ∙ take_all _ _ c.loop-bound-test.false ∙ c.deref-bound-items.ensures.value;
      found = c.loop-bound.invariant.found;
    })
    c.in_ok-bounds.ensures.rise c.in_ok-bounds.ensures.part
