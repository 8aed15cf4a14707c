use Rattle.rule_match.proofs.Picked.{first_chain-same}
use Rattle.rule_match.proofs.laws.one_key_has_one_chain.Goals as goal

pub returns : goal.returns
returns c = λ rules port other heads others same. first_chain-same port other heads others same rules
