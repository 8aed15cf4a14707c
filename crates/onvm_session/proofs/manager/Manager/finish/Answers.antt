-- The run is that of the closing turn, the closed board and what the roles left.
use Rattle.std.proofs.Common.{◌∙◌, ◌++◌, Vec, Global, ap, sym}
use Rattle.rx_feed.specs.declared.feed.Feed.{Feed}
use Rattle.onvm_session.proofs.Finishing.{closed_run, when_ok}
use Rattle.onvm_session.proofs.PutTogether.{feeds_left}
use Rattle.onvm_session.specs.Closings.{AreLeftOf, IsBoardOf}
use Rattle.onvm_session.proofs.manager.Manager.finish.Given.{Over}
use Rattle.onvm_session.proofs.manager.Manager.finish.Goals as goal

pub close-closed-requires-clause-joined : goal.close-closed-requires-clause-joined
close-closed-requires-clause-joined g c =
    (when_ok c.closing_turn.result (sym c.is_err.ensures.value ∙ c.if-is_err.false) c.closing_turn.ensures.turn).joined

pub returns-clause-feeds : goal.returns-clause-feeds
returns-clause-feeds g c =
    c.end.ensures.feeds
    ∙ feeds_left c.closing_turn.new.self.roles.items c.make-leavings.result c.add_all.new.self c.add_all.ensures.left
    ∙ (λ i.
    ap (λ (feeds : Vec (Feed g.row.I.Denot) Global). feeds.items)
    (c.make-leavings.ensures.feeds ∙ c.closing_turn.ensures.feeds.1) i
    ++ c.closing_turn.ensures.feeds.0 i)

board_of : (g : Over) (c : goal.After-drop-self-4 g) → IsBoardOf c.closing_turn.new.self c.close-closed.result
board_of g c = record {
  layout = c.close-closed.ensures.layout;
  log = c.close-closed.ensures.log;
  logs = c.close-closed.ensures.logs;
  counts = c.close-closed.ensures.counts;
  history = c.close-closed.ensures.history;
}

left_of : (g : Over) (c : goal.After-drop-self-4 g)
    → AreLeftOf c.closing_turn.new.self.roles.items c.make-leavings.result c.add_all.new.self
left_of g c = record {
  records = c.make-leavings.ensures.records;
  sent = c.make-leavings.ensures.sent;
  posts = c.make-leavings.ensures.posts;
  yields = c.make-leavings.ensures.yields.0;
  lost = c.make-leavings.ensures.yields.1;
  left_are = c.add_all.ensures.left;
}

pub returns-clause-done : goal.returns-clause-done
returns-clause-done g c =
    closed_run c.args.plan.now c.args.now c.args.self c.closing_turn.new.self c.make-leavings.result c.add_all.new.self
    c.close-closed.result
    (when_ok c.closing_turn.result (sym c.is_err.ensures.value ∙ c.if-is_err.false) c.closing_turn.ensures.turn)
    (board_of g c) (left_of g c) c.end.result.outcome c.end.ensures.run
