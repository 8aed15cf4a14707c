use Rattle.pcap_in.proofs.Read.{bytes_kept}
use Rattle.pcap_in.proofs.laws.no_byte_is_lost.Goals as goal

pub returns : goal.returns
returns c = bytes_kept
