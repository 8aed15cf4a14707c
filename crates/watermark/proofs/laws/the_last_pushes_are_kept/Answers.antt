use Rattle.watermark.proofs.Moments.{after_pushes_are, age_after_pushes}
use Rattle.watermark.proofs.laws.the_last_pushes_are_kept.Goals as goal

pub returns-clause-kept : goal.returns-clause-kept
returns-clause-kept c = after_pushes_are

pub returns-clause-age : goal.returns-clause-age
returns-clause-age c = age_after_pushes
