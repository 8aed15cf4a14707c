use Rattle.std.proofs.Common.{◌≡◌, ◌∷◌, ◌++◌, ◌+◌, [], ℕ, Some, inl, inr, length, sym, subst, arith}
use Rattle.std.specs.Iterator.Adapters.{zip_first, zip_second}
use Rattle.std.specs.Vec.Iter.{into_iter_items, into_iter_len}
use Rattle.std.proofs.lemmas.List.{length_push}
use Rattle.onvm_session.proofs.Draining.{IsLeftBehind, left_here, left_later}
use Rattle.onvm_session.proofs.NewRoles.{one_more_new}
use Rattle.onvm_session.specs.Rooms.{AreNewUpTo}
use Rattle.onvm_session.proofs.new_roles.add_cores.Goals as goal

pub loop-room-preserved : goal.loop-room-preserved
loop-room-preserved g c =
    let at = c.loop-room in
    let was = at.invariant in
    let now = c.next.new.self in
    let core = length at.yielded in
    let step = c.in-Some.ensures.steps in
    let less = step.0.1 in
    let fewer = step.1.1 in
    let n = length_push at.yielded (c.in-Some.room, c.in-Some.own) in
    let rooms_left = was.rooms_left in
    let lists_left = was.lists_left in
    let space = was.space in
    let many = was.many in
    let pushed = c.push_reserved.ensures in
    let longer = pushed.len in
    let capacity = pushed.capacity in
    let same = was.capacity in
    record {
      can_next = (tt, tt);
      is_finite = tt;
      rooms = subst (λ (k : ℕ).
          IsLeftBehind c.args.rooms.items k (into_iter_items (zip_first now)) (into_iter_len (zip_first now))) (sym n)
          (left_later c.args.rooms.items (into_iter_items (zip_first at.room-iterator))
          (into_iter_items (zip_first now)) core (into_iter_len (zip_first at.room-iterator))
          (into_iter_len (zip_first now)) (Some c.in-Some.room) was.rooms step.0.0 step.0);
      lists = subst (λ (k : ℕ).
          IsLeftBehind c.args.lists.items k (into_iter_items (zip_second now)) (into_iter_len (zip_second now))) (sym n)
          (left_later c.args.lists.items (into_iter_items (zip_second at.room-iterator))
          (into_iter_items (zip_second now)) core (into_iter_len (zip_second at.room-iterator))
          (into_iter_len (zip_second now)) (Some c.in-Some.own) was.lists step.1.0 step.1);
      rooms_left = omega (arith, rooms_left, less, n);
      lists_left = omega (arith, lists_left, fewer, n);
      space = omega (arith, space, less, longer, capacity);
      capacity = omega (arith, capacity, same);
      many = omega (arith, many, longer, n);
      new = λ site plan units feeds first of cores long own old.
          let room = left_here c.args.rooms.items (into_iter_items (zip_first at.room-iterator))
          (into_iter_items (zip_first now)) core (into_iter_len (zip_first at.room-iterator))
          (into_iter_len (zip_first now)) (Some c.in-Some.room) was.rooms step.0 in
          let list = left_here c.args.lists.items (into_iter_items (zip_second at.room-iterator))
          (into_iter_items (zip_second now)) core (into_iter_len (zip_second at.room-iterator))
          (into_iter_len (zip_second now)) (Some c.in-Some.own) was.lists step.1 in
          one_more_new _ _ _ _ _ site plan units feeds first (plan.ports + plan.transmit + core)
          (plan.ports + plan.transmit + length (at.yielded ++ (c.in-Some.room, c.in-Some.own) ∷ [])) at.roles.items
          c.push_reserved.new.self.items c.handler.result pushed.items (omega (arith, n))
          (was.new site plan units feeds first of cores long own old)
          (c.handler.ensures site plan units feeds first core of (cores.each core c.in-Some.room room) long
          (own.each core c.in-Some.own list));
    }

pub returns-clause-new : goal.returns-clause-new
returns-clause-new g c = λ site plan units feeds first of cores long own old.
    let at = c.loop-room in
    let rooms_left = at.invariant.rooms_left in
    let lists_left = at.invariant.lists_left in
    let rooms = c.args.rooms.ok.0 in
    let lists = c.args.lists.ok.0 in
    let all : length at.yielded ≡ plan.cores = elim c.in-None.ensures.steps [
      | inl end ↦ let none = end.1.0 in omega (arith, none, rooms_left, rooms, cores.many)
      | inr end ↦ let none = end.1.0 in omega (arith, none, lists_left, lists, own.many)
    ] in
    subst (λ (n : ℕ).
    AreNewUpTo g.I.Source.name g.I.Source.left g.I.Source.takes g.N.NetFunction.acts g.N.NetFunction.state site plan
    units feeds first (plan.ports + plan.transmit + n) at.roles.items) all
    (at.invariant.new site plan units feeds first of cores long own old)
