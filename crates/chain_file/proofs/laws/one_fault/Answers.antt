use Rattle.chain_file.proofs.Told.{same_fault}
use Rattle.chain_file.proofs.laws.one_fault.Goals as goal

pub returns : goal.returns
returns c = λ captures guests tree f g x y nf ng. same_fault captures guests tree f g nf ng x y
