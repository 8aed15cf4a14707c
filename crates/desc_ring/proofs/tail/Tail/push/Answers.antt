use Rattle.std.proofs.Common.{◌<◌, sym, arith}
use Rattle.onvm_core.specs.Layouts.{ring_size}
use Rattle.onvm_core.specs.declared.step.Item.TheVariants.{Buffer}
use Rattle.onvm_board.specs.Tokens.{parcel_in}
use Rattle.onvm_board.proofs.Room.{never_full}
use Rattle.desc_ring.proofs.Moved.{tail_pushes}
use Rattle.desc_ring.proofs.tail.Tail.push.Goals as goal

pub returns-in_err-push-clause-roomy : goal.returns-in_err-push-clause-roomy
returns-in_err-push-clause-roomy c room =
    let site = c.args.board.now in
    let spot = c.args.self.now.spot in
    let inside : spot.cell < ring_size site.layout spot.ring = c.requires.tail.end.stands.inside in
    absurd (never_full site spot.ring c.args.token.now c.push.new.token (sym c.requires.tail.end.mine)
    (omega (arith, inside)) room c.in_err-push.ensures.full)

pub returns-clause-tail : goal.returns-clause-tail
returns-clause-tail c =
    tail_pushes c.args.board.now c.args.self.now c.next-self.result
    (Buffer c.args.buf (parcel_in c.args.token.now)) c.args.token.now c.push.new.token c.requires.tail
    c.next-self.ensures c.in_ok-push.ensures.pushed
