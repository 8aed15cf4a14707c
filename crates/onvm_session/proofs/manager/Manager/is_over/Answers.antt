use Rattle.std.proofs.Common.{refl}
use Rattle.onvm_session.proofs.ManagerOver.{over_is}
use Rattle.onvm_session.proofs.manager.Manager.is_over.Goals as goal

pub returns : goal.returns
returns g c =
    over_is c.args.self.now c.pulled.result c.recorded.result _ c.requires.layout
    (c.are_done.ensures.0 c.if-not-are_done.false) c.pulled.ensures.sum c.recorded.ensures c.pulled.ensures.few refl
