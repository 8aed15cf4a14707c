use Rattle.std.proofs.Common.{◌≤◌, sym, ◌∙◌, ap, subst, vec_capacity}
use Rattle.onvm_session.proofs.rooms.Beginning.start.Goals as goal

pub returns : goal.returns
returns g c =
    let is = c.requires.beginning in
    let start = c.start-roles.ensures in
    record {
      layout_is = is.layout_is;
      layout_of = is.layout_of;
      ranges = is.ranges;
      registry = is.registry;
      first = is.first;
      roles = start.roles c.args.self.board is.layout_of is.ranges is.rooms;
      feeds = ap (λ list. list.items) start.feeds ∙ is.rooms.feeds;
      feed_room = subst (λ list. c.args.plan.now.ports ≤ vec_capacity list) (sym start.feeds) is.rooms.feed_room;
    }
