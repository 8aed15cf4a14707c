use Rattle.std.proofs.Common.{◌≡◌, ◌∙◌, ap, sym, Some}
use Rattle.std.specs.Prelude.{slice_get}
use Rattle.std.proofs.lemmas.Option.{get_or_from_slice_get}
use Rattle.onvm_base.specs.declared.function.FunctionPlan.{FunctionPlan}
use Rattle.onvm_promises.specs.Lines.{weight_after}
use Rattle.tick_pass.proofs.Tells.{none_last}
use Rattle.tick_pass.proofs.tick.weight_in_force.Goals as goal

pub returns-in-None : goal.returns-in-None
returns-in-None c function found =
    let functions = c.as_slice-in-None.result.now in
    let there : slice_get functions c.args.f ≡ Some function =
    ap (λ fs. slice_get fs c.args.f) c.as_slice-in-None.ensures ∙ found in
    ap (λ (g : FunctionPlan). g.weight)
    (get_or_from_slice_get functions c.args.f function c.index-as_slice-f.result there)
    ∙ ap (weight_after c.args.f function.weight) (sym (none_last c.args.ticks.now (sym c.in-None.ensures.value)))
