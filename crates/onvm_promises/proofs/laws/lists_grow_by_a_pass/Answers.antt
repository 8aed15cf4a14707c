use Rattle.onvm_promises.specs.Kept.{posts_by, records_by, samples_by, sent_by}
use Rattle.onvm_promises.proofs.Keeping.{kept_then}
use Rattle.onvm_promises.proofs.laws.lists_grow_by_a_pass.Goals as goal

pub returns-clause-records : goal.returns-clause-records
returns-clause-records c = kept_then records_by

pub returns-clause-sent : goal.returns-clause-sent
returns-clause-sent c = kept_then sent_by

pub returns-clause-posts : goal.returns-clause-posts
returns-clause-posts c = kept_then posts_by

pub returns-clause-samples : goal.returns-clause-samples
returns-clause-samples c = kept_then samples_by
