use Rattle.pcap_in.proofs.Grammar.{capture_once}
use Rattle.pcap_in.proofs.laws.one_reading.Goals as goal

pub returns : goal.returns
returns c = capture_once
