use Rattle.std.proofs.Common.{◌≡◌, length}
use Rattle.std.specs.Iterator.Adapters.{zip_first, zip_second}
use Rattle.std.specs.Slice.Iter.{iter_rest}
use Rattle.std.specs.Vec.Iter.{into_iter_items, into_iter_len}
use Rattle.onvm_session.proofs.UnitLists.{AreHandingOut}
use Rattle.onvm_session.proofs.rooms.hand_out.Given as goal

abbrev pub invariant-loop-function : goal.invariant-loop-function
invariant-loop-function g l = record {
  can_next : (goal.iterator-loop-function g).can_next l.function-iterator;
  is_finite : (goal.iterator-loop-function g).is_finite l.function-iterator;
  lists : AreHandingOut l.plan l.fn.units (iter_rest (zip_first l.function-iterator))
      (into_iter_items (zip_second l.function-iterator)) l.lists.items;
  long : into_iter_len (zip_second l.function-iterator) ≡ length (into_iter_items (zip_second l.function-iterator));
}
