use Rattle.pcap_in.proofs.Faults.{fault_once}
use Rattle.pcap_in.proofs.laws.one_fault.Goals as goal

pub returns : goal.returns
returns c = fault_once
