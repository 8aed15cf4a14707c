use Rattle.pcap_in.proofs.Calls.{led_same}
use Rattle.pcap_in.proofs.laws.pieces_do_not_matter.Goals as goal

pub returns : goal.returns
returns c = led_same
