use Rattle.pcap_in.proofs.Read.{answer_first}
use Rattle.pcap_in.proofs.laws.the_first_frame_is_pulled.Goals as goal

pub returns : goal.returns
returns c = answer_first
