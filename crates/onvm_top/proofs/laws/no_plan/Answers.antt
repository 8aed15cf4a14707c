use Rattle.onvm_top.proofs.Told.{no_plan}
use Rattle.onvm_top.proofs.laws.no_plan.Goals as goal

pub returns : goal.returns
returns c = no_plan
