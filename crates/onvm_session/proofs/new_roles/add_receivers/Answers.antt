use Rattle.std.proofs.Common.{◌∷◌, ◌++◌, [], ℕ, length, sym, ◌∙◌, ap, subst, arith}
use Rattle.std.specs.Vec.Iter.{into_iter_items, into_iter_len}
use Rattle.std.proofs.lemmas.List.{length_push}
use Rattle.onvm_session.proofs.Draining.{IsLeftBehind, left_here, left_later, takes_all, takes_here, takes_more}
use Rattle.onvm_session.proofs.NewRoles.{fresh_at, one_more_new}
use Rattle.onvm_session.specs.Rooms.{AreNewUpTo}
use Rattle.onvm_session.proofs.new_roles.add_receivers.Goals as goal

pub receiver-requires : goal.receiver-requires
receiver-requires g c =
    let at = c.loop-room in
    let was = at.invariant in
    let port = length at.yielded in
    let here = takes_here c.args.rooms.items at.yielded (into_iter_items at.room-iterator)
    (into_iter_items c.next.new.self) (into_iter_len at.room-iterator) c.in-Some.room was.taking
    c.in-Some.ensures.steps.0 in
    let asked = c.next-in-loop-room in
    let feed = left_here c.args.feeds (into_iter_items at.given) (into_iter_items asked.new.self) port
    (into_iter_len at.given) (into_iter_len asked.new.self) asked.result was.given asked.ensures.cases in
    record {
      room = c.requires.intakes port c.in-Some.room here;
      fresh = fresh_at c.args.feeds port asked.result c.requires.fresh feed;
    }

pub loop-room-preserved : goal.loop-room-preserved
loop-room-preserved g c =
    let at = c.loop-room in
    let was = at.invariant in
    let room = c.in-Some.room in
    let step = c.in-Some.ensures.steps in
    let less = step.1 in
    let space = was.space in
    let many = was.many in
    let pushed = c.push_reserved.ensures in
    let longer = pushed.len in
    let capacity = pushed.capacity in
    let same = was.capacity in
    let port = length at.yielded in
    let asked = c.next-in-loop-room in
    let n = length_push at.yielded room in
    record {
      can_next = tt;
      is_finite = tt;
      taking = takes_more c.args.rooms.items at.yielded (into_iter_items at.room-iterator)
          (into_iter_items c.next.new.self) (into_iter_len at.room-iterator) (into_iter_len c.next.new.self) room
          was.taking step.0 less;
      given = subst (λ (k : ℕ).
          IsLeftBehind c.args.feeds k (into_iter_items asked.new.self) (into_iter_len asked.new.self)) (sym n)
          (left_later c.args.feeds (into_iter_items at.given) (into_iter_items asked.new.self) port
          (into_iter_len at.given) (into_iter_len asked.new.self) asked.result was.given asked.ensures.items
          asked.ensures.cases);
      space = omega (arith, space, less, longer, capacity);
      capacity = omega (arith, capacity, same);
      many = omega (arith, many, longer, n);
      new = λ site plan units first of receivers.
          let here = takes_here c.args.rooms.items at.yielded (into_iter_items at.room-iterator)
          (into_iter_items c.next.new.self) (into_iter_len at.room-iterator) room was.taking step.0 in
          let feed = left_here c.args.feeds (into_iter_items at.given) (into_iter_items asked.new.self) port
          (into_iter_len at.given) (into_iter_len asked.new.self) asked.result was.given asked.ensures.cases in
          one_more_new _ _ _ _ _ site plan units c.args.feeds first port (length (at.yielded ++ room ∷ [])) at.roles.items
          c.push_reserved.new.self.items c.receiver.result pushed.items n (was.new site plan units first of receivers)
          (c.receiver.ensures site plan units c.args.feeds first (record { 0 = port }) of (receivers.each port room here)
          feed);
    }

pub returns : goal.returns
returns g c =
    let at = c.loop-room in
    let all = takes_all c.args.rooms.items at.yielded (into_iter_items at.room-iterator)
    (into_iter_len at.room-iterator) at.invariant.taking c.in-None.ensures.steps.0 in
    let long = ap length all in
    let many = at.invariant.many in
    let rooms = c.args.rooms.ok.0 in
    record {
      new = λ site plan units first of receivers.
          subst (λ (n : ℕ).
          AreNewUpTo g.I.Source.name g.I.Source.left g.I.Source.takes g.N.NetFunction.acts g.N.NetFunction.state
          site plan units c.args.feeds first n at.roles.items)
          (long ∙ receivers.many) (at.invariant.new site plan units first of receivers);
      room = at.invariant.capacity;
      many = omega (arith, many, long, rooms);
    }
