use Rattle.std.proofs.Common.{sym, subst}
use Rattle.onvm_session.specs.RoleStates.{acts_by, start_by}
use Rattle.onvm_session.specs.Runs.{IsDone, IsStop}
use Rattle.onvm_top.proofs.Opening.{names_later}
use Rattle.onvm_top.proofs.Replayed.{err_is, ok_is, replay_done, replay_stopped}
use Rattle.onvm_top.proofs.Replaying.{fresh_feeds}
use Rattle.onvm_top.specs.Calls.{Adds}
use Rattle.onvm_top.specs.Stops.{StopsAtCaptures}
use Rattle.onvm_top.specs.declared.fault.Fault.{Fault}
use Rattle.onvm_top.proofs.replay.replay_captures.Goals as goal

pub session-outcome-requires-clause-fresh : goal.session-outcome-requires-clause-fresh
session-outcome-requires-clause-fresh g c κs within =
    let source = g.H.Input.Source in
    fresh_feeds source.name source.left source.takes (g.H.Host.files c.args.host.now) c.args.captures.now
    c.in_ok-feeds.feeds c.in_ok-feeds.ensures.feeds c.requires.captures

pub returns-in-Ok-clause-done : goal.returns-in-Ok-clause-done
returns-in-Ok-clause-done g c =
    let source = g.H.Input.Source in
    let session = c.session-outcome in
    let function = g.N.NetFunction in
    let serial = c.args.serial in
    let may_tell = g.C.Clock.may_be_now c.args.clock.now in
    let cost_may_take = g.C.Clock.may_span c.args.clock.now in
    let plan = c.args.plan.now in
    let feeds = c.in_ok-feeds.feeds in
    let back = session.result.feeds in
    let acts = acts_by function.acts function.state c.args.units in
    let start = start_by function.acts function.state c.args.units in
    replay_done source.name source.left source.takes (g.H.Host.files c.args.host.now) plan c.args.captures.now feeds back
    c.in_ok-feeds.ensures.feeds session.ensures.handed_back c.requires.ports (g.H.Host.deeds c.args.host.now)
    (g.H.Host.deeds c.open_feeds.new.host) (g.H.Host.deeds c.shut_feeds.new.host) c.in_ok-feeds.ensures.opened
    c.shut_feeds.ensures.shut serial may_tell cost_may_take acts start c.in-Ok.run'
    (ok_is (λ run. IsDone source.name source.left source.takes serial may_tell cost_may_take acts start plan feeds back run)
    session.result.outcome c.in-Ok.run' c.in-Ok.is session.ensures.done)

pub returns-in-Ok-clause-names : goal.returns-in-Ok-clause-names
returns-in-Ok-clause-names g c =
    names_later _ _ _ _ _ _ c.open_feeds.ensures.names c.shut_feeds.ensures.names

pub returns-in-Err-clause-err : goal.returns-in-Err-clause-err
returns-in-Err-clause-err g c =
    let source = g.H.Input.Source in
    let session = c.session-outcome in
    let plan = c.args.plan.now in
    let told = g.H.Host.files c.args.host.now in
    let captures = c.args.captures.now in
    let feeds = c.in_ok-feeds.feeds in
    let back = session.result.feeds in
    let before = g.H.Host.deeds c.args.host.now in
    let now = g.H.Host.deeds c.shut_feeds.new.host in
    subst (λ (fault : Fault). Adds before now (λ deeds. StopsAtCaptures captures told deeds fault)) (sym c.of_stop.ensures)
    (replay_stopped source.name source.left source.takes told plan captures feeds back c.in_ok-feeds.ensures.feeds
    session.ensures.handed_back c.requires.ports before (g.H.Host.deeds c.open_feeds.new.host) now
    c.in_ok-feeds.ensures.opened c.shut_feeds.ensures.shut c.in-Err.stop session.ensures.stands
    (err_is (λ why. IsStop source.name source.left source.takes plan feeds back why) session.result.outcome c.in-Err.stop
    c.in-Err.is session.ensures.stopped))
