use Rattle.onvm_session.proofs.Answered.{serial_done}
use Rattle.onvm_session.proofs.Unread.{all_fresh}
use Rattle.onvm_session.proofs.run.session.Goals as goal

pub returns-in_default-clause-stands : goal.returns-in_default-clause-stands
returns-in_default-clause-stands g c = all_fresh _ _ _ c.args.plan.now c.args.feeds c.requires.fresh

pub returns-then-serial-clause-done : goal.returns-then-serial-clause-done
returns-then-serial-clause-done g c =
    serial_done _ _ _ _ _ c.args.plan.now c.args.feeds c.session_in_rounds.result.feeds c.args.serial _ _
    c.session_in_rounds.result.outcome c.if-serial.true c.session_in_rounds.ensures.done
