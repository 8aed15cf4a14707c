use Rattle.onvm_promises.proofs.Aging.{aged_at_once, aged_stays, marked_stays}
use Rattle.onvm_promises.proofs.laws.answers_stay.Goals as goal

pub returns-clause-aged : goal.returns-clause-aged
returns-clause-aged c = aged_stays

pub returns-clause-marked : goal.returns-clause-marked
returns-clause-marked c = marked_stays

pub returns-clause-at_once : goal.returns-clause-at_once
returns-clause-at_once c = aged_at_once
