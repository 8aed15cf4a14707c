use Rattle.chain_file.proofs.HandedIn.{guests_are_handed_in}
use Rattle.chain_file.proofs.laws.a_plans_guests_are_handed_in.Goals as goal

pub returns : goal.returns
returns c = λ bytes captures guests plan is. guests_are_handed_in bytes captures guests plan is
