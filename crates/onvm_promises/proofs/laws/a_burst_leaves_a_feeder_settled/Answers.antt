use Rattle.std.proofs.Common.{◌≡◌, ◌<◌, ◌≤◌, ◌++◌, sym, ◌∙◌, ap, subst, arith, append_assoc}
use Rattle.onvm_core.specs.Logs.{Log}
use Rattle.onvm_core.specs.Receiving.{ReceivePhase, done_count}
use Rattle.onvm_core.specs.Receiving.ReceivePhase.{Between}
use Rattle.onvm_promises.specs.Follows.{ReceivesFrom, receive_phase_from}
use Rattle.onvm_promises.specs.Rests.{IsSettledFeeder}
use Rattle.onvm_promises.proofs.BlockPacing.{begun_from, begun_is, fresh_blocks, open_block, settled_blocks}
use Rattle.onvm_promises.proofs.Pacing.{fresh_start, settled_moves}
use Rattle.onvm_promises.proofs.laws.a_burst_leaves_a_feeder_settled.Goals as goal

pub returns-clause-moves : goal.returns-clause-moves
returns-clause-moves c setting feeder aged before marks moves sends pass steps follows few =
    subst (IsSettledFeeder setting feeder aged) (sym (append_assoc moves marks before))
    (settled_moves setting feeder aged (λ f. f.0 < setting.layout.functions) moves (marks ++ before)
    (λ receives. omega (arith, receives, sends)) steps follows few (fresh_start setting feeder aged before marks pass)
    pass.settled)

pub returns-clause-blocks : goal.returns-clause-blocks
returns-clause-blocks c setting port done aged before marks blocks known pass at steps follows few ends =
    let log : Log = marks ++ before in
    let counted = begun_is setting (Between done) blocks steps in
    let closed : open_block (receive_phase_from setting (Between done) blocks) ≡ 0 = ap open_block ends in
    subst (IsSettledFeeder setting port aged) (sym (append_assoc blocks marks before))
    (settled_blocks setting port aged blocks log steps
    (subst (λ (p : ReceivePhase). ReceivesFrom setting port p blocks) (sym at) follows)
    (subst (λ (p : ReceivePhase). begun_from setting p blocks ≤ setting.plan.burst) (sym at)
    (omega (arith, counted, closed, few)))
    (fresh_blocks setting port aged before marks known pass
    (at ∙ ap (λ (p : ReceivePhase). Between (done_count p)) (sym at)))
    pass.settled)
