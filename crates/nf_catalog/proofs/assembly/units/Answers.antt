use Rattle.std.proofs.Common.{◌≡◌, ◌<◌, ◌∙◌, ap, sym, subst, ◌+◌, length, get_or, List, Some, arith}
use Rattle.std.proofs.lemmas.List.{take_all}
use Rattle.std.proofs.lemmas.Option.{slice_get-get_or}
use Rattle.onvm_base.specs.declared.function.FunctionPlan.{FunctionPlan}
use Rattle.nf_catalog.specs.Units.{AreUnits}
use Rattle.nf_catalog.proofs.Assembling.{AreFirst, first_more, first_none, left_for}
use Rattle.nf_catalog.proofs.assembly.units.Goals as goal

pub loop-function-init : goal.loop-function-init
loop-function-init g c =
    subst (λ units. AreFirst c.args.plan.now.functions c.args.guests.items 0 units c.args.guests.items)
    (sym c.make-units.ensures) (first_none c.args.plan.now.functions c.args.guests.items)

pub make-requires-clause-handed_in : goal.make-requires-clause-handed_in
make-requires-clause-handed_in g c name named =
    let functions = c.args.plan.now.functions in
    let index = c.loop-function.function-index in
    let function = c.function-item.result in
    let lt : index < length functions =
    subst (λ fs. index < length fs) c.as_slice-function-items.ensures c.loop-function-test.true in
    let is : function ≡ get_or functions index function =
    c.function-item.is ∙ ap (λ fs. get_or fs index function) c.as_slice-function-items.ensures in
    left_for functions c.args.guests.items c.loop-function.guests.items index c.loop-function.units function name lt is
    c.requires c.loop-function.invariant named

pub loop-function-preserved : goal.loop-function-preserved
loop-function-preserved g c =
    let functions = c.args.plan.now.functions in
    let index = c.loop-function.function-index in
    let function = c.function-item.result in
    let lt : index < length functions =
    subst (λ fs. index < length fs) c.as_slice-function-items.ensures c.loop-function-test.true in
    let is : function ≡ get_or functions index function =
    c.function-item.is ∙ ap (λ fs. get_or fs index function) c.as_slice-function-items.ensures in
    subst (λ units. AreFirst functions c.args.guests.items (index + 1) units c.make.new.guests.items)
    (sym c.in_ok-push.ensures.ok)
    (first_more functions c.args.guests.items index c.loop-function.units c.loop-function.guests.items
    c.make.new.guests.items function c.in_ok-make.field-0 lt is
    (λ j other name below there named.
    (c.args.plan.now.kept.functions_differ index j function other below
    (slice_get-get_or functions index function lt ∙ ap Some (sym is)) there).guests
    name named)
    c.loop-function.invariant c.in_ok-make.ensures.made c.in_ok-make.ensures.others)

pub returns : goal.returns
returns g c =
    subst (λ functions. AreUnits functions c.args.guests.items c.loop-function.units)
    (take_all c.loop-function.function-index c.args.plan.now.functions
    (omega (arith, c.loop-function-test.false, ap (λ (fs : List FunctionPlan). length fs) c.as_slice-function-items.ensures)))
    c.loop-function.invariant.units_are
