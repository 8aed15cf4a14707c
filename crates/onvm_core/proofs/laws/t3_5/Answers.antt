use Rattle.onvm_core.proofs.Earning.{earned_empty, earned_full, is_sent, may_record}
use Rattle.onvm_core.proofs.Dropping.{is_dropped}
use Rattle.onvm_core.proofs.Throttling.{earned_throttle, marks_cleared, marks_cleared_at_once, word_posted}
use Rattle.onvm_core.proofs.laws.t3_5.Goals as goal

pub returns-clause-throttled : goal.returns-clause-throttled
returns-clause-throttled c = earned_throttle

pub returns-clause-shown : goal.returns-clause-shown
returns-clause-shown c = word_posted

pub returns-clause-cleared : goal.returns-clause-cleared
returns-clause-cleared c = marks_cleared

pub returns-clause-at_once : goal.returns-clause-at_once
returns-clause-at_once c = marks_cleared_at_once

pub returns-clause-ring_full : goal.returns-clause-ring_full
returns-clause-ring_full c = earned_full

pub returns-clause-pool_empty : goal.returns-clause-pool_empty
returns-clause-pool_empty c = earned_empty

pub returns-clause-dropped : goal.returns-clause-dropped
returns-clause-dropped c = is_dropped

pub returns-clause-sent : goal.returns-clause-sent
returns-clause-sent c = is_sent

pub returns-clause-kinds : goal.returns-clause-kinds
returns-clause-kinds c = may_record
