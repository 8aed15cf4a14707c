use Rattle.onvm_session.proofs.KeptByTurns.{turn_keeps}
use Rattle.onvm_session.proofs.laws.a_turn_keeps_a_session.Goals as goal

pub returns : goal.returns
returns c c' start state now setting moments first latest final keeps role seen after kept answer ranges session
    at pass complete others =
    turn_keeps _ _ start state now _ setting moments first latest final keeps role seen after kept answer ranges
    session at pass complete others
