use Rattle.std.proofs.Common.{◌≡◌, ◌≤◌, ◌++◌, length, map, take, vec_capacity, vec_len}
use Rattle.onvm_host.specs.Deeds.{Opened}
use Rattle.onvm_host.specs.Names.{SameNames}
use Rattle.onvm_top.proofs.Opening.{ArePairs}
use Rattle.onvm_top.specs.Calls.{names_in}
use Rattle.onvm_top.proofs.inputs.open_feeds.Given as goal

-- the captures so far are opened, each with its feed
abbrev pub invariant-loop-capture : goal.invariant-loop-capture
invariant-loop-capture g l = record {
  many : vec_len l.feeds ≡ l.capture-index;
  room : length l.captures ≤ vec_capacity l.feeds;
  pairs : ArePairs g.H.Input.Source.name g.H.Input.Source.left g.H.Input.Source.takes (g.H.Host.files l.initial.host)
      (take l.capture-index l.captures) l.feeds.items;
  opened : g.H.Host.deeds l.host ≡ g.H.Host.deeds l.initial.host ++ map Opened (names_in (take l.capture-index l.captures));
  files : g.H.Host.files l.host ≡ g.H.Host.files l.initial.host;
  said : g.H.Host.said l.host ≡ g.H.Host.said l.initial.host;
  names : SameNames (g.H.Host.may_open l.initial.host) (g.H.Host.may_create l.initial.host)
      (g.H.Host.may_open l.host) (g.H.Host.may_create l.host);
}
