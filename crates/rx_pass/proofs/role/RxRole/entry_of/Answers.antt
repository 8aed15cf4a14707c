use Rattle.std.proofs.Common.{sym, subst}
use Rattle.onvm_base.specs.declared.ids.ChainId.{ChainId}
use Rattle.rx_pass.specs.Chains.{IsChainOfPlan}
use Rattle.rx_pass.proofs.Entering.{chain_known}
use Rattle.rx_pass.proofs.role.RxRole.entry_of.Goals as goal

pub returns-clause-chain : goal.returns-clause-chain
returns-clause-chain g c =
    let Known : ChainId → Type 0 = λ chain. IsChainOfPlan c.args.plan.now chain in
    subst Known (sym c.chain-chain.ensures.chain)
    (chain_known c.args.plan.now c.args.self.now.flows.port c.parse-heads.result)
