use Rattle.onvm_core.proofs.Counted.{samples_complete, samples_count}
use Rattle.onvm_core.proofs.laws.t3_7.Goals as goal

pub returns-clause-counted : goal.returns-clause-counted
returns-clause-counted c = samples_count

pub returns-clause-complete : goal.returns-clause-complete
returns-clause-complete c = samples_complete
