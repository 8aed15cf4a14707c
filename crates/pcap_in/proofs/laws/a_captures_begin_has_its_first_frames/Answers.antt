use Rattle.pcap_in.proofs.Faults.{capture_first}
use Rattle.pcap_in.proofs.laws.a_captures_begin_has_its_first_frames.Goals as goal

pub returns : goal.returns
returns c = capture_first
