use Rattle.onvm_packet.proofs.Macs.{heads-with_macs}
use Rattle.onvm_packet.proofs.laws.new_addresses_change_no_head.Goals as goal

pub returns : goal.returns
returns c = heads-with_macs
