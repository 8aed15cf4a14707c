use Rattle.desc_ring.proofs.Shown.{fewer_by_end, back_by_end}
use Rattle.desc_ring.proofs.tail.Tail.at_least.Goals as goal

pub returns-then-self-k-clause-finds : goal.returns-then-self-k-clause-finds
returns-then-self-k-clause-finds c =
    fewer_by_end c.args.board.now c.args.self.now c.args.k c.args.token.now c.requires.tail c.requires.k.1
    c.if-self-k.true

pub returns-clause-finds : goal.returns-clause-finds
returns-clause-finds c =
    back_by_end c.args.board.now c.args.self.now c.args.k c.back.result c.look.result c.args.token.now
    c.look.new.token c.requires.tail c.requires.k.0 c.requires.k.1 c.if-self-k.false c.back.ensures.stands
    c.look.ensures.looked
