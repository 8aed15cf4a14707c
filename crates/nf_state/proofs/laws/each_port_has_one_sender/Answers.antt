use Rattle.nf_state.proofs.Fair.{none_fair}
use Rattle.nf_state.proofs.Staying.{stays_fair}
use Rattle.nf_state.proofs.laws.each_port_has_one_sender.Goals as goal

pub returns-clause-none : goal.returns-clause-none
returns-clause-none c = (none_fair, none_fair)

pub returns-clause-translated : goal.returns-clause-translated
returns-clause-translated c parameters before after bytes left verdict =
    stays_fair parameters bytes left verdict before after
