use Rattle.std.proofs.Common.{◌+◌, ◌≤◌, length, vec_capacity, vec_len}
use Rattle.std.specs.Vec.Iter.{into_iter_items, into_iter_len}
use Rattle.onvm_session.specs.Leaving.{HaveLeft, feeds_of}
use Rattle.onvm_session.proofs.Draining.{IsTaking}
use Rattle.onvm_session.proofs.leaving.Leavings.add_all.Given as goal

abbrev pub invariant-loop-role : goal.invariant-loop-role
invariant-loop-role g l = record {
  can_next : (goal.iterator-loop-role g).can_next l.role-iterator;
  is_finite : (goal.iterator-loop-role g).is_finite l.role-iterator;
  taking : IsTaking l.fn.roles.items l.yielded (into_iter_items l.role-iterator) (into_iter_len l.role-iterator);
  left : HaveLeft l.yielded l.initial.self l.self;
  room : vec_len l.self.feeds + length (feeds_of (into_iter_items l.role-iterator)) ≤ vec_capacity l.self.feeds;
}
