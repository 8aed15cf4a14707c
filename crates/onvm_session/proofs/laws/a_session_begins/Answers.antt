use Rattle.onvm_session.proofs.Starting.{session_starts}
use Rattle.onvm_session.proofs.laws.a_session_begins.Goals as goal

pub returns : goal.returns
returns c c' serial start setting moments first at =
    session_starts serial _ _ start _ setting moments first at
