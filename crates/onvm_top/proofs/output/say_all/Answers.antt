use Rattle.std.proofs.Common.{rules, refl, [], ◌++◌, take, arith}
use Rattle.std.proofs.lemmas.Grind.{common_steps}
use Rattle.onvm_top.proofs.Put.{OnErr-always, SaysAll-next, SaysAll-start, SaysPart-next}
use Rattle.onvm_top.proofs.output.say_all.Goals as goal

pub loop-rest-init : goal.loop-rest-init
loop-rest-init g c = (refl, ([], refl, SaysAll-start _ _))

pub loop-rest-preserved : goal.loop-rest-preserved
loop-rest-preserved g c =
    let kept = c.loop-rest.invariant in (
      search rules,
      (
        kept.1.0 ++ take c.in_ok-count.count c.loop-rest.rest.now,
        grind (arith, common_steps),
        SaysAll-next _ _ _ _ _ _ kept.1.0 c.loop-rest.rest.now c.in_ok-count.count kept.1.2 c.in_ok-count.ensures.bytes
            (search rules) (search rules) (search rules),
      ),
    )

pub returns-in_err-count-clause-err : goal.returns-in_err-count-clause-err
returns-in_err-count-clause-err g c =
    let kept = c.loop-rest.invariant in
    OnErr-always _ _
    (SaysPart-next _ _ _ _ _ _ c.args.piece.now kept.1.0 c.loop-rest.rest.now kept.1.1 (search rules) kept.1.2
    c.in_err-count.ensures.bytes c.in_err-count.ensures.told)
