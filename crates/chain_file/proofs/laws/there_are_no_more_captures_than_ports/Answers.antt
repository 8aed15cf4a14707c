use Rattle.chain_file.proofs.HandedIn.{captures_have_ports}
use Rattle.chain_file.proofs.laws.there_are_no_more_captures_than_ports.Goals as goal

pub returns : goal.returns
returns c = λ bytes captures guests plan is. captures_have_ports bytes captures guests plan is
