use Rattle.chain_file.proofs.Told.{only_memory}
use Rattle.chain_file.proofs.laws.a_plan_has_no_fault.Goals as goal

pub returns : goal.returns
returns c = λ captures guests tree plan fault p f. only_memory captures guests tree plan fault p f
