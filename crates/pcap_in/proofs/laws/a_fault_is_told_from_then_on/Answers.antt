use Rattle.pcap_in.proofs.Told.{told_again}
use Rattle.pcap_in.proofs.laws.a_fault_is_told_from_then_on.Goals as goal

pub returns : goal.returns
returns c = told_again
