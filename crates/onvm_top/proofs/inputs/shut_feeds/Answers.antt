use Rattle.std.proofs.Common.{◌∙◌, ap, List, ◌++◌}
use Rattle.std.specs.Vec.Iter.{into_iter_items, into_iter_len}
use Rattle.rx_feed.specs.declared.feed.Feed.{Feed}
use Rattle.onvm_session.proofs.Draining.{takes_all, takes_more}
use Rattle.onvm_top.proofs.Opening.{names_later, shut_live, shut_made}
use Rattle.onvm_top.specs.Inputs.{shuts_of}
use Rattle.onvm_top.proofs.inputs.shut_feeds.Goals as goal

pub loop-feed-preserved : goal.loop-feed-preserved
loop-feed-preserved g c =
    let at = c.loop-feed in
    let was = at.invariant in
    let step = c.in-Some.ensures.steps in
    let source = g.H.Input.Source in
    record {
      can_next = tt;
      is_finite = tt;
      taking = takes_more c.args.feeds at.yielded (into_iter_items at.feed-iterator) (into_iter_items c.next.new.self)
          (into_iter_len at.feed-iterator) (into_iter_len c.next.new.self) c.in-Some.feed was.taking step.0 step.1;
      shut = shut_made source.name source.left source.takes (g.H.Host.deeds c.args.host.now) (g.H.Host.deeds at.host)
          at.yielded c.in-Some.feed c.in-Made._generator c.in-Made.is was.shut;
      files = was.files;
      said = was.said;
      names = was.names;
    }

pub loop-feed-preserved-in-Live : goal.loop-feed-preserved-in-Live
loop-feed-preserved-in-Live g c =
    let at = c.loop-feed in
    let was = at.invariant in
    let step = c.in-Some.ensures.steps in
    let source = g.H.Input.Source in
    let call = c.shut.ensures in
    record {
      can_next = tt;
      is_finite = tt;
      taking = takes_more c.args.feeds at.yielded (into_iter_items at.feed-iterator) (into_iter_items c.next.new.self)
          (into_iter_len at.feed-iterator) (into_iter_len c.next.new.self) c.in-Some.feed was.taking step.0 step.1;
      shut = shut_live source.name source.left source.takes (g.H.Host.deeds c.args.host.now) (g.H.Host.deeds at.host)
          (g.H.Host.deeds c.shut.new.self) at.yielded c.in-Some.feed c.in-Live.input c.in-Live.is was.shut call.told;
      files = call.files ∙ was.files;
      said = call.said ∙ was.said;
      names = names_later _ _ _ _ _ _ was.names call.names;
    }

pub returns-clause-shut : goal.returns-clause-shut
returns-clause-shut g c =
    let at = c.loop-feed in
    let source = g.H.Input.Source in
    let all = takes_all c.args.feeds at.yielded (into_iter_items at.feed-iterator)
    (into_iter_len at.feed-iterator) at.invariant.taking c.in-None.ensures.steps.0 in
    at.invariant.shut
    ∙ ap (λ (feeds : List (Feed g.row.H-Input.Denot)). g.H.Host.deeds c.args.host.now
    ++ shuts_of source.name source.left source.takes feeds) all
