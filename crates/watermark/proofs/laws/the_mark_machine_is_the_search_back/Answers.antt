use Rattle.watermark.proofs.Marks.{throttle_is, throttled_is}
use Rattle.watermark.proofs.laws.the_mark_machine_is_the_search_back.Goals as goal

pub returns-clause-readings : goal.returns-clause-readings
returns-clause-readings c = throttle_is

pub returns-clause-passes : goal.returns-clause-passes
returns-clause-passes c = throttled_is
