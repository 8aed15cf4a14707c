use Rattle.pcap_in.proofs.Keeping.{kept_little}
use Rattle.pcap_in.proofs.laws.little_is_kept_after_more.Goals as goal

pub returns : goal.returns
returns c = kept_little
