use Rattle.std.proofs.Common.{◌∷◌, ◌++◌, ◌+◌, [], ℕ, length, ◌∙◌, ap, subst, arith}
use Rattle.std.specs.Vec.Iter.{into_iter_items, into_iter_len}
use Rattle.std.proofs.lemmas.List.{length_push}
use Rattle.onvm_session.proofs.Draining.{takes_all, takes_here, takes_more}
use Rattle.onvm_session.proofs.NewRoles.{one_more_new}
use Rattle.onvm_session.specs.Rooms.{AreNewUpTo}
use Rattle.onvm_session.proofs.new_roles.add_senders.Goals as goal

pub loop-room-preserved : goal.loop-room-preserved
loop-room-preserved g c =
    let at = c.loop-room in
    let was = at.invariant in
    let room = c.in-Some.room in
    let step = c.in-Some.ensures.steps in
    let less = step.1 in
    let space = was.space in
    let many = was.many in
    let pushed = c.push_reserved.ensures in
    let longer = pushed.len in
    let capacity = pushed.capacity in
    let same = was.capacity in
    let n = length_push at.yielded room in
    record {
      can_next = tt;
      is_finite = tt;
      taking = takes_more c.args.rooms.items at.yielded (into_iter_items at.room-iterator)
          (into_iter_items c.next.new.self) (into_iter_len at.room-iterator) (into_iter_len c.next.new.self) room
          was.taking step.0 less;
      space = omega (arith, space, less, longer, capacity);
      capacity = omega (arith, capacity, same);
      many = omega (arith, many, longer, n);
      new = λ site plan units feeds first senders old.
          let here = takes_here c.args.rooms.items at.yielded (into_iter_items at.room-iterator)
          (into_iter_items c.next.new.self) (into_iter_len at.room-iterator) room was.taking step.0 in
          one_more_new _ _ _ _ _ site plan units feeds first (plan.ports + length at.yielded)
          (plan.ports + length (at.yielded ++ room ∷ [])) at.roles.items c.push_reserved.new.self.items
          c.sender.result pushed.items (omega (arith, n)) (was.new site plan units feeds first senders old)
          (c.sender.ensures site plan units feeds first (plan.ports + length at.yielded)
          (senders.each (length at.yielded) room here));
    }

pub returns : goal.returns
returns g c =
    let at = c.loop-room in
    let all = takes_all c.args.rooms.items at.yielded (into_iter_items at.room-iterator)
    (into_iter_len at.room-iterator) at.invariant.taking c.in-None.ensures.steps.0 in
    let long = ap length all in
    let many = at.invariant.many in
    let rooms = c.args.rooms.ok.0 in
    record {
      new = λ site plan units feeds first senders old.
          subst (λ (n : ℕ).
          AreNewUpTo g.I.Source.name g.I.Source.left g.I.Source.takes g.N.NetFunction.acts g.N.NetFunction.state
          site plan units feeds first (plan.ports + n) at.roles.items)
          (long ∙ senders.many) (at.invariant.new site plan units feeds first senders old);
      room = at.invariant.capacity;
      many = omega (arith, many, long, rooms);
    }
