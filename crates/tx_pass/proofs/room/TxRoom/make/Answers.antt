use Rattle.std.proofs.Common.{◌≡◌, subst, refl}
use Rattle.onvm_core.specs.Layouts.{IsLayout}
use Rattle.tx_pass.proofs.Starts.{new_role, one_layout}
use Rattle.tx_pass.proofs.room.TxRoom.make.Goals as goal

pub returns : goal.returns
returns c =
    let site = c.args.board.now in
    let plan = c.args.plan.now in
    let same : c.of-layout.result ≡ site.layout =
    one_layout plan c.of-layout.result site.layout c.of-layout.ensures.of c.requires.plan in
    new_role site plan c.args.number _ c.requires.plan (subst IsLayout same c.of-layout.ensures.ranges)
    c.requires.transmit refl c.in_ok-heads.ensures c.in_ok-lanes.ensures c.in_ok-feeder.ensures
    c.make-2.ensures.records c.make-2.ensures.sent
