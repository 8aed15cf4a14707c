use Rattle.onvm_core.specs.declared.step.Item.TheVariants.{Buffer}
use Rattle.onvm_board.specs.Tokens.{parcel_in}
use Rattle.desc_ring.proofs.Moved.{head_pops}
use Rattle.desc_ring.proofs.head.Head.pop.Goals as goal

pub returns-clause-head : goal.returns-clause-head
returns-clause-head c =
    head_pops c.args.board.now c.args.self.now c.next-self.result (Buffer c.in_ok-buf.buf (parcel_in c.pop.new.token))
    c.args.token.now c.pop.new.token c.requires.head c.next-self.ensures c.in_ok-buf.ensures.popped
