use Rattle.onvm_session.proofs.Boarding.{closed_is}
use Rattle.onvm_session.proofs.laws.a_closed_board_is_closed.Goals as goal

pub returns : goal.returns
returns c = closed_is
