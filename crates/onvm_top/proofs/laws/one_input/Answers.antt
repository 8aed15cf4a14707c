use Rattle.std.specs.Prelude.{length, slice_get}
use Rattle.onvm_top.proofs.Causes.{good_or_lowest, one_frames, one_plan, plan_or_fault}
use Rattle.onvm_top.proofs.laws.one_input.Goals as goal

pub returns-clause-frames : goal.returns-clause-frames
returns-clause-frames c = λ files captures frames others good also port.
    one_frames files (slice_get captures port) (frames port) (others port) (good port) (also port)

pub returns-clause-plan : goal.returns-clause-plan
returns-clause-plan c = λ command guests files plan cause read refused.
    plan_or_fault command.chain.now (length command.captures.items) guests files plan cause read refused

pub returns-clause-same : goal.returns-clause-same
returns-clause-same c = λ command guests files plan other here there.
    one_plan command.chain.now (length command.captures.items) guests files plan other here there

pub returns-clause-captures : goal.returns-clause-captures
returns-clause-captures c = good_or_lowest
