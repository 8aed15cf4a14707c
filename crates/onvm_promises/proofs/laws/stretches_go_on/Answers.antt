use Rattle.onvm_promises.proofs.Following.{handles_follow, receives_follow, sends_follow, ticks_follow}
use Rattle.onvm_promises.proofs.laws.stretches_go_on.Goals as goal

pub returns-clause-receives : goal.returns-clause-receives
returns-clause-receives c = receives_follow

pub returns-clause-sends : goal.returns-clause-sends
returns-clause-sends c = sends_follow

pub returns-clause-handles : goal.returns-clause-handles
returns-clause-handles c = handles_follow

pub returns-clause-ticks : goal.returns-clause-ticks
returns-clause-ticks c = ticks_follow
