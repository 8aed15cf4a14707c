use Rattle.chain_file.proofs.Reading.{same_plan}
use Rattle.chain_file.proofs.laws.one_plan.Goals as goal

pub returns : goal.returns
returns c = λ bytes captures guests plan other is also. same_plan bytes captures guests plan other is also
