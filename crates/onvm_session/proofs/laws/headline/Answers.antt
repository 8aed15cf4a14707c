use Rattle.onvm_session.proofs.Done.{done}
use Rattle.onvm_session.proofs.laws.headline.Goals as goal

pub returns : goal.returns
returns c c' serial start state setting moments first latest final keeps seen at after kept run ranges
    is_setting session closes closed lists recorded =
    done serial _ _ start state _ setting moments first latest final keeps seen at after kept run ranges
    is_setting session closes closed lists recorded
