use Rattle.pcap_in.proofs.Emitting.{IsCapture-emit}
use Rattle.pcap_in.proofs.laws.what_is_emitted_is_read_again.Goals as goal

pub returns : goal.returns
returns c = IsCapture-emit
