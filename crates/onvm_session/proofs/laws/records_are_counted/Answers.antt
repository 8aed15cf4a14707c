use Rattle.onvm_session.proofs.SessionLists.{closing_counted, frames_pulled, session_counted}
use Rattle.onvm_session.proofs.laws.records_are_counted.Goals as goal

pub returns-clause-kept : goal.returns-clause-kept
returns-clause-kept c c' serial start state setting moments first latest final keeps session =
    session_counted serial _ _ start state _ setting moments first latest final keeps session

pub returns-clause-closed : goal.returns-clause-closed
returns-clause-closed c c' serial start state setting moments first latest final keeps seen at after kept run ranges
    is_setting session closes closed =
    closing_counted serial _ _ start state _ setting moments first latest final keeps session seen at after kept run
    ranges is_setting closes closed

pub returns-clause-pulled : goal.returns-clause-pulled
returns-clause-pulled c c' = frames_pulled
