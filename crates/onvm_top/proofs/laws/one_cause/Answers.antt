use Rattle.std.specs.Prelude.{length}
use Rattle.onvm_top.proofs.Causes.{faulty_or_large, one_fault, one_lowest, one_plan_fault}
use Rattle.onvm_top.proofs.laws.one_cause.Goals as goal

pub returns-clause-plan : goal.returns-clause-plan
returns-clause-plan c = λ command guests files cause other here there.
    one_plan_fault command.chain.now (length command.captures.items) guests files cause other here there

pub returns-clause-fault : goal.returns-clause-fault
returns-clause-fault c = one_fault

pub returns-clause-large : goal.returns-clause-large
returns-clause-large c = faulty_or_large

pub returns-clause-port : goal.returns-clause-port
returns-clause-port c = one_lowest
