use Rattle.std.proofs.Common.{◌≡◌, ◌++◌}
use Rattle.std.specs.Vec.Iter.{into_iter_items, into_iter_len}
use Rattle.onvm_host.specs.Names.{SameNames}
use Rattle.onvm_session.proofs.Draining.{IsTaking}
use Rattle.onvm_top.specs.Inputs.{shuts_of}
use Rattle.onvm_top.proofs.inputs.shut_feeds.Given as goal

-- the feeds that were taken are shut
abbrev pub invariant-loop-feed : goal.invariant-loop-feed
invariant-loop-feed g l = record {
  can_next : (goal.iterator-loop-feed g).can_next l.feed-iterator;
  is_finite : (goal.iterator-loop-feed g).is_finite l.feed-iterator;
  taking : IsTaking l.fn.feeds l.yielded (into_iter_items l.feed-iterator) (into_iter_len l.feed-iterator);
  shut : g.H.Host.deeds l.host
      ≡ g.H.Host.deeds l.initial.host
      ++ shuts_of g.H.Input.Source.name g.H.Input.Source.left g.H.Input.Source.takes l.yielded;
  files : g.H.Host.files l.host ≡ g.H.Host.files l.initial.host;
  said : g.H.Host.said l.host ≡ g.H.Host.said l.initial.host;
  names : SameNames (g.H.Host.may_open l.initial.host) (g.H.Host.may_create l.initial.host)
      (g.H.Host.may_open l.host) (g.H.Host.may_create l.host);
}
