use Rattle.pcap_in.proofs.Read.{was_first}
use Rattle.pcap_in.proofs.laws.a_pulled_frame_was_left.Goals as goal

pub returns : goal.returns
returns c = was_first
