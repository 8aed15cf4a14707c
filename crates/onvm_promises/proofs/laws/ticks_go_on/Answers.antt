use Rattle.onvm_promises.proofs.Ticking.{ticks_closed, ticks_next}
use Rattle.onvm_promises.proofs.laws.ticks_go_on.Goals as goal

pub returns-clause-next : goal.returns-clause-next
returns-clause-next c = ticks_next

pub returns-clause-closed : goal.returns-clause-closed
returns-clause-closed c = ticks_closed
