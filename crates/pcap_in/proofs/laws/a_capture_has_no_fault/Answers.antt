use Rattle.pcap_in.proofs.Faults.{no_fault}
use Rattle.pcap_in.proofs.laws.a_capture_has_no_fault.Goals as goal

pub returns : goal.returns
returns c = no_fault
