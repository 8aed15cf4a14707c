use Rattle.std.proofs.Common.{◌≡◌, ap, refl}
use Rattle.onvm_core.specs.declared.step.Act.TheVariants.{Full}
use Rattle.onvm_core.specs.Potential.{pushed_in}
use Rattle.onvm_board.specs.Tokens.{TokenView, IsTail}
use Rattle.onvm_board.proofs.Stretches.{tail_stays, tail_kept}
use Rattle.onvm_board.proofs.tests.frames.enter.Goals as goal

pub returns-in-Err-clause-tail : goal.returns-in-Err-clause-tail
returns-in-Err-clause-tail c =
    let site = c.args.board.now in
    let lane = c.args.lane.now in
    let taken : IsTail site lane c.take.new.token = c.take.ensures.ends lane c.requires.tail in
    let lent : IsTail site lane c.lend.new.token =
    tail_stays site lane c.take.new.token c.lend.new.token (ap (λ (t : TokenView). t.board) c.lend.ensures.new)
    (ap (λ (t : TokenView). t.role) c.lend.ensures.new)
    (ap (λ (t : TokenView). pushed_in lane.ring t.log) c.lend.ensures.new) taken in
    c.give.ensures.tails lane
    (tail_kept site lane (Full lane.ring) c.lend.new.token c.push.new.token refl lent c.in-Err.ensures.full)
