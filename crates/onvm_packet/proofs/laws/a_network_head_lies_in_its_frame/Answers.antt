use Rattle.onvm_packet.proofs.Within.{net_within}
use Rattle.onvm_packet.proofs.laws.a_network_head_lies_in_its_frame.Goals as goal

pub returns : goal.returns
returns c = net_within
