use Rattle.nf_state.proofs.Fair.{back}
use Rattle.nf_state.proofs.laws.an_assigned_port_leads_back.Goals as goal

pub returns : goal.returns
returns c = back
