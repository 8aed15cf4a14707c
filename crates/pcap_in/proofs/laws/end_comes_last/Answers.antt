use Rattle.pcap_in.proofs.Read.{answer_last}
use Rattle.pcap_in.proofs.laws.end_comes_last.Goals as goal

pub returns : goal.returns
returns c = answer_last
