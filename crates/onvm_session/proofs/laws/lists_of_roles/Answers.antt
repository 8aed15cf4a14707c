use Rattle.onvm_session.proofs.SessionLists.{session_lists}
use Rattle.onvm_session.proofs.laws.lists_of_roles.Goals as goal

pub returns : goal.returns
returns c c' serial start state setting moments first latest final keeps seen at after kept run ranges
    is_setting session closes closed lists =
    session_lists serial _ _ start state _ setting moments first latest final keeps session seen at after kept run
    ranges is_setting closes closed lists
