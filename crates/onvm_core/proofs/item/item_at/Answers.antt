use Rattle.std.proofs.Common.{◌≡◌, ◌<◌, sym, ◌∙◌, subst, arith, true, length, reverse, take, Some}
use Rattle.std.specs.Prelude.{slice_get}
use Rattle.std.proofs.lemmas.Option.{slice_get_within}
use Rattle.onvm_core.specs.Layouts.{same_ring}
use Rattle.onvm_core.specs.History.{pushed_on}
use Rattle.onvm_core.proofs.Scanned.{pushed_at}
use Rattle.onvm_core.proofs.item.item_at.Goals as goal

pub returns-then-seen-at-clause-found : goal.returns-then-seen-at-clause-found
returns-then-seen-at-clause-found c =
    let same : same_ring c.in-Push.r c.args.ring ≡ true = sym c.same_ring.ensures ∙ c.if-same_ring.true in
    let at : length (pushed_on c.args.ring (reverse (take c.loop-step.step-index c.args.steps.now))) ≡ c.args.at =
    sym c.loop-step.invariant.seen ∙ c.if-seen-at.true in
    let within : c.loop-step.step-index < length c.args.steps.now = omega arith in
    subst (λ n. slice_get (pushed_on c.args.ring (reverse c.args.steps.now)) n ≡ Some c.in-Push.item) at
    (pushed_at c.args.ring c.in-Push.r c.args.steps.now c.loop-step.step-index c.step-item.result c.in-Push.item within
    c.step-item.is c.in-Push.is same)

pub returns-then-seen-at-clause-none : goal.returns-then-seen-at-clause-none
returns-then-seen-at-clause-none c =
    let same : same_ring c.in-Push.r c.args.ring ≡ true = sym c.same_ring.ensures ∙ c.if-same_ring.true in
    let at : length (pushed_on c.args.ring (reverse (take c.loop-step.step-index c.args.steps.now))) ≡ c.args.at =
    sym c.loop-step.invariant.seen ∙ c.if-seen-at.true in
    let within : c.loop-step.step-index < length c.args.steps.now = omega arith in
    let found : slice_get (pushed_on c.args.ring (reverse c.args.steps.now))
    (length (pushed_on c.args.ring (reverse (take c.loop-step.step-index c.args.steps.now))))
    ≡ Some c.in-Push.item
    = pushed_at c.args.ring c.in-Push.r c.args.steps.now c.loop-step.step-index c.step-item.result c.in-Push.item
    within c.step-item.is c.in-Push.is same in (
      (λ off. cc),
      λ le.
          absurd (omega (
            arith,
            slice_get_within (pushed_on c.args.ring (reverse c.args.steps.now))
                (length (pushed_on c.args.ring (reverse (take c.loop-step.step-index c.args.steps.now)))) c.in-Push.item
                found,
            at,
          )),
    )
