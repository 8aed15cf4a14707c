use Rattle.chain_file.proofs.Reading.{not_refused}
use Rattle.chain_file.proofs.laws.a_read_file_is_not_refused.Goals as goal

pub returns : goal.returns
returns c = λ bytes captures guests plan fault is refused. not_refused bytes captures guests plan fault is refused
