use Rattle.std.proofs.Common.{◌≡◌, ◌<◌, ◌%◌, sym, ◌∙◌, arith, true, false, length, reverse, eq-eqb, ne_eqb}
use Rattle.std.specs.Prelude.{◌==◌}
use Rattle.onvm_core.specs.History.{pushed_on}
use Rattle.onvm_core.proofs.Scanned.{cell_here, cell_next}
use Rattle.onvm_core.proofs.word.cell_value.Goals as goal

pub returns-in-Some : goal.returns-in-Some
returns-in-Some c =
    let met : (c.loop-k.k % c.args.size == c.args.at) ≡ true =
    eq-eqb (c.loop-k.k % c.args.size) c.args.at c.if-k-size.true in
    c.number_of.ensures
    ∙ sym (cell_here c.args.size c.args.at c.loop-k.k
    (pushed_on c.args.ring (reverse c.args.steps.now)) c.in-Some.item.now c.in-Some.ensures.found met)
    ∙ sym c.loop-k.invariant

pub loop-k-preserved : goal.loop-k-preserved
loop-k-preserved c =
    let unmet : (c.loop-k.k % c.args.size == c.args.at) ≡ false =
    ne_eqb (c.loop-k.k % c.args.size) c.args.at c.if-k-size.false in
    let less : c.loop-k.k < length (pushed_on c.args.ring (reverse c.args.steps.now)) =
    omega (arith, c.ring_counts-pushed.ensures.pushed, c.loop-k-test.true) in
    c.loop-k.invariant
    ∙ cell_next c.args.size c.args.at c.loop-k.k (pushed_on c.args.ring (reverse c.args.steps.now)) less unmet
