use Rattle.std.proofs.Common.{◌≡◌, ◌+◌, ◌≤◌, ℕ, List, length, vec_capacity, vec_len}
use Rattle.std.specs.Vec.Iter.{into_iter_items, into_iter_len}
use Rattle.onvm_base.specs.declared.plan.Plan.{Plan}
use Rattle.onvm_board.specs.Tokens.{BoardView}
use Rattle.rx_feed.specs.declared.feed.Feed.{Feed}
use Rattle.onvm_session.proofs.Draining.{IsTaking}
use Rattle.onvm_session.specs.Rooms.{AreNewUpTo, AreSenders}
use Rattle.onvm_session.proofs.new_roles.add_senders.Given as goal

abbrev pub invariant-loop-room : goal.invariant-loop-room
invariant-loop-room g l = record {
  can_next : (goal.iterator-loop-room g).can_next l.room-iterator;
  is_finite : (goal.iterator-loop-room g).is_finite l.room-iterator;
  taking : IsTaking l.fn.rooms.items l.yielded (into_iter_items l.room-iterator) (into_iter_len l.room-iterator);
  space : vec_len l.roles + into_iter_len l.room-iterator ≤ vec_capacity l.roles;
  capacity : vec_capacity l.roles ≡ vec_capacity l.initial.roles;
  many : vec_len l.roles ≡ vec_len l.initial.roles + length l.yielded;
  new : (site : BoardView) (plan : Plan) (units : List g.row.N.Denot) (feeds : List (Feed g.row.I.Denot)) (first : ℕ)
      → AreSenders site plan plan.transmit l.fn.rooms.items
      → AreNewUpTo g.I.Source.name g.I.Source.left g.I.Source.takes g.N.NetFunction.acts g.N.NetFunction.state
      site plan units feeds first plan.ports l.initial.roles.items
      → AreNewUpTo g.I.Source.name g.I.Source.left g.I.Source.takes g.N.NetFunction.acts g.N.NetFunction.state
      site plan units feeds first (plan.ports + length l.yielded) l.roles.items;
}
