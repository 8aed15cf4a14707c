use Rattle.std.proofs.Common.{◌≡◌, ◌+◌, ◌≤◌, ℕ, List, length, vec_capacity, vec_len}
use Rattle.std.specs.Iterator.Adapters.{zip_first, zip_second}
use Rattle.std.specs.Vec.Iter.{into_iter_items, into_iter_len}
use Rattle.onvm_base.specs.declared.plan.Plan.{Plan}
use Rattle.onvm_core.specs.Layouts.{IsLayoutOf}
use Rattle.onvm_board.specs.Tokens.{BoardView}
use Rattle.rx_feed.specs.declared.feed.Feed.{Feed}
use Rattle.onvm_session.proofs.Draining.{IsLeftBehind}
use Rattle.onvm_session.specs.Rooms.{AreCores, AreNewUpTo, AreUnitsOf}
use Rattle.onvm_session.proofs.new_roles.add_cores.Given as goal

abbrev pub invariant-loop-room : goal.invariant-loop-room
invariant-loop-room g l = record {
  can_next : (goal.iterator-loop-room g).can_next l.room-iterator;
  is_finite : (goal.iterator-loop-room g).is_finite l.room-iterator;
  rooms : IsLeftBehind l.fn.rooms.items (length l.yielded) (into_iter_items (zip_first l.room-iterator))
      (into_iter_len (zip_first l.room-iterator));
  lists : IsLeftBehind l.fn.lists.items (length l.yielded) (into_iter_items (zip_second l.room-iterator))
      (into_iter_len (zip_second l.room-iterator));
  rooms_left : length l.yielded + into_iter_len (zip_first l.room-iterator) ≡ vec_len l.fn.rooms;
  lists_left : length l.yielded + into_iter_len (zip_second l.room-iterator) ≡ vec_len l.fn.lists;
  space : vec_len l.roles + into_iter_len (zip_first l.room-iterator) ≤ vec_capacity l.roles;
  capacity : vec_capacity l.roles ≡ vec_capacity l.initial.roles;
  many : vec_len l.roles ≡ vec_len l.initial.roles + length l.yielded;
  new : (site : BoardView) (plan : Plan) (units : List g.row.N.Denot) (feeds : List (Feed g.row.I.Denot)) (first : ℕ)
      → IsLayoutOf plan site.layout → AreCores site plan plan.cores l.fn.rooms.items
      → length units ≡ length plan.functions → AreUnitsOf plan units l.fn.lists.items
      → AreNewUpTo g.I.Source.name g.I.Source.left g.I.Source.takes g.N.NetFunction.acts g.N.NetFunction.state
      site plan units feeds first (plan.ports + plan.transmit) l.initial.roles.items
      → AreNewUpTo g.I.Source.name g.I.Source.left g.I.Source.takes g.N.NetFunction.acts g.N.NetFunction.state
      site plan units feeds first (plan.ports + plan.transmit + length l.yielded) l.roles.items;
}
