use Rattle.pcap_in.proofs.Every.{reads_every}
use Rattle.pcap_in.proofs.laws.every_text_has_a_reading.Goals as goal

pub returns : goal.returns
returns c = reads_every
