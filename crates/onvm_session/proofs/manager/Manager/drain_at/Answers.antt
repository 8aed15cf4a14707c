use Rattle.std.proofs.Common.{length, refl}
use Rattle.std.proofs.lemmas.Option.{slice_get_read}
use Rattle.onvm_session.proofs.PortEnds.{drained_at, set_back}
use Rattle.onvm_session.proofs.ManagerRuns.{grow_set}
use Rattle.onvm_session.proofs.manager.Manager.drain_at.Goals as goal

pub returns-in_err-drain-clause-stopped : goal.returns-in_err-drain-clause-stopped
returns-in_err-drain-clause-stopped g c role found stopped =
    set_back c.args.self.now.roles.items c.args.at c.index_mut.result.now role c.drain.new.self c.requires
    c.index_mut.ensures.value found stopped c.drain.ensures.stopped

pub returns-in_err-drain-clause-grow : goal.returns-in_err-drain-clause-grow
returns-in_err-drain-clause-grow g c =
    grow_set _ _ _ c.args.self.now _ c.args.at c.index_mut.result.now c.drain.new.self
    (slice_get_read c.args.self.now.roles.items (length c.args.self.now.roles.items) c.args.at
    c.index_mut.result.now refl c.requires c.index_mut.ensures.value)
    refl refl refl c.drain.ensures.grows c.drain.ensures.fed

pub returns-clause-told : goal.returns-clause-told
returns-clause-told g c =
    drained_at c.args.self.now _ c.args.at c.drain.new.self c.index.result.now c.fault.result c.requires refl
    c.index.ensures c.in_ok-drain.ensures.ok c.fault.ensures

pub returns-clause-stopped : goal.returns-clause-stopped
returns-clause-stopped g c role found stopped =
    set_back c.args.self.now.roles.items c.args.at c.index_mut.result.now role c.drain.new.self c.requires
    c.index_mut.ensures.value found stopped c.drain.ensures.stopped

pub returns-clause-grow : goal.returns-clause-grow
returns-clause-grow g c =
    grow_set _ _ _ c.args.self.now _ c.args.at c.index_mut.result.now c.drain.new.self
    (slice_get_read c.args.self.now.roles.items (length c.args.self.now.roles.items) c.args.at
    c.index_mut.result.now refl c.requires c.index_mut.ensures.value)
    refl refl refl c.drain.ensures.grows c.drain.ensures.fed
