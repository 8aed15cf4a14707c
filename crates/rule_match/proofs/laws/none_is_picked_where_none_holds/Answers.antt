use Rattle.rule_match.proofs.Picked.{first_chain-none, none_holds}
use Rattle.rule_match.proofs.laws.none_is_picked_where_none_holds.Goals as goal

pub returns : goal.returns
returns c = λ rules port heads. (none_holds port heads rules, first_chain-none port heads rules)
