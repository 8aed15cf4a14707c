use Rattle.std.proofs.Common.{◌∷◌, ◌++◌, [], List, length, refl, ap, subst, arith, length-append, option_to_list}
use Rattle.std.specs.Vec.Iter.{into_iter_items, into_iter_len}
use Rattle.onvm_session.specs.declared.leaving.Leavings.{Leavings}
use Rattle.onvm_session.specs.declared.role.Role.{Role}
use Rattle.onvm_session.specs.Leaving.{HasLeft, HaveLeft, feeds_of}
use Rattle.onvm_session.specs.RoleStates.{feed_of}
use Rattle.onvm_session.proofs.Draining.{takes_all, takes_more}
use Rattle.onvm_session.proofs.leaving.Leavings.add_all.Goals as goal

-- one more, behind those that have left
left_more : {I N : Type 0} (gone : List (Role I N)) (role : Role I N) (old mid new : Leavings I)
    → HaveLeft gone old mid → HasLeft role mid new → HaveLeft (gone ++ role ∷ []) old new
left_more [] role old mid new earlier last = (new, subst (λ l. HasLeft role l new) earlier last, refl)
left_more (first ∷ gone) role old mid new earlier last =
    (earlier.0, earlier.1, left_more gone role earlier.0 mid new earlier.2 last)

pub loop-role-preserved : goal.loop-role-preserved
loop-role-preserved g c =
    let at = c.loop-role in
    let role = c.in-Some.role in
    let here = into_iter_items at.role-iterator in
    let rest = into_iter_items c.next.new.self in
    let step = c.in-Some.ensures.steps in
    let room = at.invariant.room in
    let feeds = ap (λ (xs : List (Role g.row.I.Denot g.row.N.Denot)). length (feeds_of xs)) {x = here} step.0 in
    let split = length-append (option_to_list (feed_of role)) (feeds_of rest) in
    let left = c.add.ensures.left in
    let grown = ap length {x = c.add.new.self.feeds.items} left.feeds in
    let joined = length-append at.self.feeds.items (option_to_list (feed_of role)) in
    let capacity = left.room in
    let before = at.self.feeds.ok.0 in
    let after = c.add.new.self.feeds.ok.0 in
    record {
      can_next = tt;
      is_finite = tt;
      taking = takes_more c.args.roles.items at.yielded here rest
          (into_iter_len at.role-iterator) (into_iter_len c.next.new.self) role at.invariant.taking step.0 step.1;
      left = left_more at.yielded role c.args.self.now at.self c.add.new.self at.invariant.left left;
      room = omega (arith, room, feeds, split, grown, joined, capacity, before, after);
    }

pub returns : goal.returns
returns g c =
    let at = c.loop-role in
    let all = takes_all c.args.roles.items at.yielded (into_iter_items at.role-iterator)
    (into_iter_len at.role-iterator) at.invariant.taking c.in-None.ensures.steps.0 in
    record {
      left = subst (λ (roles : List (Role g.row.I.Denot g.row.N.Denot)). HaveLeft roles c.args.self.now at.self) all
          at.invariant.left;
    }
