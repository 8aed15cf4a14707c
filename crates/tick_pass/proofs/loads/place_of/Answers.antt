use Rattle.std.proofs.Common.{◌≡◌, ◌<◌, ℕ, ap, arith, get_or, length, sym, subst, Some}
use Rattle.std.specs.Prelude.{◌≢◌, ◌+◌, slice_get}
use Rattle.std.proofs.lemmas.Option.{get_or_from_slice_get}
use Rattle.onvm_base.specs.declared.function.FunctionPlan.{FunctionPlan}
use Rattle.nf_registry.specs.Places.{residents}
use Rattle.tick_pass.proofs.Residing.{IsPlaced, number, placed_at, placed_more, placed_same}
use Rattle.tick_pass.proofs.loads.place_of.Goals as goal
use Rattle.tick_pass.proofs.loads.place_of.Goals.{else-functions-other, then-functions-other}

pub loop-other-preserved : goal.loop-other-preserved
loop-other-preserved c =
    let at : ℕ = c.loop-other.other in
    let functions = c.args.functions.now in
    let core : ℕ = (get_or functions c.args.f c.index-functions-f.result).core in
    let function : FunctionPlan = c.index-functions-other.result in
    let within : at < length functions = omega (arith, c.loop-other-test.true, c.requires) in
    let reads = ap (λ (g : FunctionPlan). g.core) c.index-functions-other.is in
    elim c.if-functions-other.branch [
      | then-functions-other w ↦
          let own : function.core ≡ core = omega (arith, w.if-functions-other.true, reads) in
          subst (λ n. IsPlaced core n (at + 1) functions) (sym w.place-is)
          (placed_more core c.loop-other.place at functions function within c.index-functions-other.is own
          c.loop-other.invariant)
      | else-functions-other w ↦
          let other : function.core ≢ core = λ e. w.if-functions-other.false (omega (arith, e, reads)) in
          subst (λ n. IsPlaced core n (at + 1) functions) (sym w.place-is)
          (placed_same core c.loop-other.place at functions function within c.index-functions-other.is other
          c.loop-other.invariant)
    ]

pub returns : goal.returns
returns c function found =
    let f : ℕ = c.args.f in
    let functions = c.args.functions.now in
    let core : ℕ = (get_or functions f c.index-functions-f.result).core in
    let own : core ≡ function.core =
    ap (λ (g : FunctionPlan). g.core) (get_or_from_slice_get functions f function c.index-functions-f.result found) in
    let same : c.loop-other.other ≡ f = omega (arith, c.loop-other-test.false, c.loop-other.auto.other-end) in
    let placed : IsPlaced core c.loop-other.place f functions =
    subst (λ n. IsPlaced core c.loop-other.place n functions) same c.loop-other.invariant in
    subst (λ k. slice_get (residents k functions) c.loop-other.place ≡ Some (number f)) own
    (placed_at core c.loop-other.place f functions function (omega (arith, c.requires))
    (sym (get_or_from_slice_get functions f function function found)) (sym own) placed)
