use Rattle.std.proofs.Common.{◌≡◌, ◌<◌, ◌∙◌, ℕ, ap, arith, get_or, length, refl, sym, subst, Some, List, map}
use Rattle.std.specs.Prelude.{slice_get}
use Rattle.std.proofs.lemmas.List.{length-map}
use Rattle.std.proofs.lemmas.Option.{get_or_from_slice_get, slice_get_read, slice_get_within}
use Rattle.onvm_base.specs.declared.function.FunctionPlan.{FunctionPlan}
use Rattle.cpu_shares.specs.declared.load.Load.{Load}
use Rattle.cpu_shares.specs.Shares.{AreLoads, ArePriorities}
use Rattle.nf_registry.specs.Places.{residents}
use Rattle.tick_pass.specs.Telling.{load_at, priority_at}
use Rattle.tick_pass.proofs.Residing.{number}
use Rattle.tick_pass.proofs.Sharing.{loads_are, priorities_are, share_is}
use Rattle.tick_pass.proofs.loads.CoreLoads.share.Goals as goal

pub share-requires-clause-loads : goal.share-requires-clause-loads
share-requires-clause-loads c =
    subst AreLoads (sym (c.deref.ensures.value ∙ c.gather.ensures.loads))
    (loads_are c.args.plan.now c.args.windows.now _ c.requires.windows)

pub share-requires-clause-priorities : goal.share-requires-clause-priorities
share-requires-clause-priorities c =
    subst (λ (z : List Load × List ℕ). ArePriorities z.0 z.1)
    (λ i. (
      sym (c.deref.ensures.value ∙ c.gather.ensures.loads) i,
      sym (c.deref-2.ensures.value ∙ c.gather.ensures.priorities) i,
    ))
    (priorities_are c.args.plan.now c.args.windows.now _ c.requires.windows)

pub share-requires-clause-within : goal.share-requires-clause-within
share-requires-clause-within c =
    let functions = c.as_slice-functions.result.now in
    let same = c.as_slice-functions.ensures in
    let function : FunctionPlan = c.index-functions-f.result in
    let core : ℕ = (get_or functions c.args.f function).core in
    let own : core ≡ function.core = ap (λ (g : FunctionPlan). g.core) (sym c.index-functions-f.is) in
    let found : slice_get functions c.args.f ≡ Some function =
    slice_get_read functions (length functions) c.args.f function refl (omega (arith, c.requires.known, ap length same))
    c.index-functions-f.is in
    let place = c.place_of.ensures function found in
    let within : c.place_of.result < length (residents function.core functions) =
    slice_get_within (residents function.core functions) c.place_of.result (number c.args.f) place in
    let long : length c.deref.result.now ≡ length (residents core c.args.plan.now.functions) =
    ap length (c.deref.ensures.value ∙ c.gather.ensures.loads)
    ∙ length-map (residents core c.args.plan.now.functions) (load_at c.args.windows.now) in
    let as_many : length (residents core c.args.plan.now.functions) ≡ length (residents function.core functions) =
    ap (λ (z : ℕ × List FunctionPlan). length (residents z.0 z.1)) (λ i. (own i, sym same i)) in
    omega (arith, within, long, as_many)

pub returns-clause-share : goal.returns-clause-share
returns-clause-share c samples now function current found =
    let functions = c.as_slice-functions.result.now in
    let plan = c.args.plan.now in
    let same = c.as_slice-functions.ensures in
    let there : slice_get functions c.args.f ≡ Some function = ap (λ fs. slice_get fs c.args.f) same ∙ found in
    let core : ℕ = (get_or functions c.args.f c.index-functions-f.result).core in
    let own : core ≡ function.core =
    ap (λ (g : FunctionPlan). g.core)
    (get_or_from_slice_get functions c.args.f function c.index-functions-f.result there) in
    share_is plan samples now c.args.windows.now function c.args.f c.place_of.result c.deref.result.now
    c.deref-2.result.now c.share.result current found
    (c.deref.ensures.value ∙ c.gather.ensures.loads
    ∙ ap (λ k. map (load_at c.args.windows.now) (residents k plan.functions)) own)
    (c.deref-2.ensures.value ∙ c.gather.ensures.priorities
    ∙ ap (λ k. map (priority_at plan.functions) (residents k plan.functions)) own)
    (ap (λ fs. slice_get (residents function.core fs) c.place_of.result) (sym same)
    ∙ c.place_of.ensures function there)
    c.share.ensures.share
