use Rattle.command_words.proofs.Steps.{records, serial, shares, throttle_log}
use Rattle.command_words.proofs.Taken.{found_others, has_flag, taken_iff}
use Rattle.command_words.proofs.laws.found.Goals as goal

pub returns-clause-others : goal.returns-clause-others
returns-clause-others c words utf8 few is = found_others words few ((taken_iff words utf8 few).0 is)

pub returns-clause-serial : goal.returns-clause-serial
returns-clause-serial c words utf8 few is = has_flag serial words few ((taken_iff words utf8 few).0 is)

pub returns-clause-records : goal.returns-clause-records
returns-clause-records c words utf8 few is = has_flag records words few ((taken_iff words utf8 few).0 is)

pub returns-clause-throttle_log : goal.returns-clause-throttle_log
returns-clause-throttle_log c words utf8 few is = has_flag throttle_log words few ((taken_iff words utf8 few).0 is)

pub returns-clause-shares : goal.returns-clause-shares
returns-clause-shares c words utf8 few is = has_flag shares words few ((taken_iff words utf8 few).0 is)
