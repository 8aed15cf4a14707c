use Rattle.std.proofs.Common.{rules, refl, [], ◌++◌, take, arith}
use Rattle.std.proofs.lemmas.Grind.{common_steps}
use Rattle.onvm_top.proofs.Put.{PutsAll-next, PutsAll-start}
use Rattle.onvm_top.proofs.output.put_all.Goals as goal

pub loop-rest-init : goal.loop-rest-init
loop-rest-init g c = (refl, ([], refl, PutsAll-start _ _))

pub loop-rest-preserved : goal.loop-rest-preserved
loop-rest-preserved g c =
    let kept = c.loop-rest.invariant in (
      search rules,
      (
        kept.1.0 ++ take c.in_ok-count.count c.loop-rest.rest.now,
        grind (arith, common_steps),
        PutsAll-next _ _ _ _ _ _ kept.1.0 c.loop-rest.rest.now c.in_ok-count.count kept.1.2 c.in_ok-count.ensures.bytes
            (search rules) (search rules) (search rules),
      ),
    )
