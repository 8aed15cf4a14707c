use Rattle.onvm_core.specs.declared.step.Item.TheVariants.{Buffer}
use Rattle.onvm_board.specs.Tokens.{parcel_in}
use Rattle.onvm_board.proofs.RingEnds.{head_next}
use Rattle.onvm_board.proofs.tests.frames.leave.Goals as goal

pub returns-in-Some-clause-head : goal.returns-in-Some-clause-head
returns-in-Some-clause-head c =
    c.give.ensures.heads c.next.result
    (head_next c.args.board.now c.args.from.now c.next.result c.args.size
    (Buffer c.in-Some.buf (parcel_in c.pop.new.token)) c.args.token.now c.pop.new.token c.requires.head c.requires.size
    c.next.ensures c.in-Some.ensures.popped)
