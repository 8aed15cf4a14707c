use Rattle.rule_match.proofs.Picked.{first_chain-first, first_holds}
use Rattle.rule_match.proofs.laws.the_first_that_holds_is_picked.Goals as goal

pub returns : goal.returns
returns c = λ rules port heads chain. (first_holds port heads rules chain, first_chain-first port heads rules chain)
