use Rattle.std.proofs.Common.{◌≡◌, ◌∷◌, inl, inr, List, length, sym, ◌∙◌, ap, subst, arith}
use Rattle.std.specs.Prelude.{◌⊎◌, slice_get}
use Rattle.std.specs.Iterator.Adapters.{zip_first, zip_second}
use Rattle.std.specs.Slice.Iter.{iter_rest}
use Rattle.std.specs.Vec.Iter.{into_iter_items, into_iter_len}
use Rattle.onvm_base.specs.declared.function.FunctionPlan.{FunctionPlan}
use Rattle.onvm_session.proofs.UnitLists.{AreHandingOut, all_handed, has_room, none_handed, none_left, one_handed}
use Rattle.onvm_session.proofs.rooms.hand_out.Goals as goal

pub loop-function-init : goal.loop-function-init
loop-function-init g c =
    let it = c.into_iter-function-iterator.result in
    let same = c.into_iter-function-iterator.ensures.into_iter_gives in
    let zip = c.zip-function-items.ensures in
    let first = ap (λ z. iter_rest (zip_first z)) same ∙ ap iter_rest zip.first ∙ c.iter.ensures.rest
    ∙ c.as_slice.ensures in
    let second = ap (λ z. into_iter_items (zip_second z)) same ∙ zip.second.0 ∙ c.into_vec.ensures in
    let as_zipped = ap (λ z. into_iter_len (zip_second z)) same in
    let many = zip.second.1 in
    let vec = c.into_vec.result.ok.0 in
    let left = ap length second in
    let given = ap length c.into_vec.ensures in
    record {
      can_next = (tt, tt);
      is_finite = tt;
      lists = none_handed c.args.plan.now c.args.units (iter_rest (zip_first it)) (into_iter_items (zip_second it))
          c.args.lists.now.items first second c.requires.units c.requires.room;
      long = omega (arith, as_zipped, many, vec, left, given);
    }

pub hand-requires-clause-room : goal.hand-requires-clause-room
hand-requires-clause-room g c = λ list found.
    let at = c.loop-function in
    let now = c.next.new.self in
    let f = c.in-Some.function.now in
    let step = c.in-Some.ensures.steps in
    let out = subst (λ (us : List g.row.N.Denot).
    AreHandingOut c.args.plan.now c.args.units (f ∷ iter_rest (zip_first now)) us at.lists.items) step.1.0
    (subst (λ (fs : List FunctionPlan).
    AreHandingOut c.args.plan.now c.args.units fs (into_iter_items (zip_second at.function-iterator)) at.lists.items)
    step.0 at.invariant.lists) in
    let less = has_room c.args.plan.now c.args.units f (iter_rest (zip_first now)) c.in-Some.unit
    (into_iter_items (zip_second now)) at.lists.items list out
    (ap (slice_get at.lists.items) (sym c.from.ensures) ∙ found) in
    let long = list.ok.0 in
    omega (arith, less, long)

pub loop-function-preserved : goal.loop-function-preserved
loop-function-preserved g c =
    let at = c.loop-function in
    let now = c.next.new.self in
    let f = c.in-Some.function.now in
    let step = c.in-Some.ensures.steps in
    let core = c.from.ensures in
    let out = subst (λ (us : List g.row.N.Denot).
    AreHandingOut c.args.plan.now c.args.units (f ∷ iter_rest (zip_first now)) us at.lists.items) step.1.0
    (subst (λ (fs : List FunctionPlan).
    AreHandingOut c.args.plan.now c.args.units fs (into_iter_items (zip_second at.function-iterator)) at.lists.items)
    step.0 at.invariant.lists) in
    let long = at.invariant.long in
    let left = ap length step.1.0 in
    let less = step.1.1 in
    record {
      can_next = (tt, tt);
      is_finite = tt;
      lists = one_handed c.args.plan.now c.args.units f (iter_rest (zip_first now)) c.in-Some.unit
          (into_iter_items (zip_second now)) at.lists.items c.hand.new.lists.items out c.hand.ensures.many
          (λ was later found there. c.hand.ensures.own was later (ap (slice_get at.lists.items) core ∙ found)
          (ap (slice_get c.hand.new.lists.items) core ∙ there))
          (λ other off. c.hand.ensures.others other (λ same. off (same ∙ core)));
      long = omega (arith, long, left, less);
    }

pub returns : goal.returns
returns g c =
    let at = c.loop-function in
    let functions = iter_rest (zip_first at.function-iterator) in
    let units = into_iter_items (zip_second at.function-iterator) in
    let long = at.invariant.long in
    let end : (length functions ≡ 0) ⊎ (length units ≡ 0) = elim c.in-None.ensures.steps [
      | inl none ↦ inl none.1.0
      | inr none ↦ inr (sym long ∙ none.1.0)
    ] in
    all_handed c.args.plan.now c.args.units functions units at.lists.items at.invariant.lists
    (λ core. none_left core functions units end)
