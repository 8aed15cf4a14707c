use Rattle.pcap_in.proofs.OneAnswer.{pulls_once}
use Rattle.pcap_in.proofs.laws.one_answer.Goals as goal

pub returns : goal.returns
returns c = pulls_once
