use Rattle.onvm_packet.proofs.TtlHeads.{heads-with_ttl}
use Rattle.onvm_packet.proofs.laws.another_ttl_changes_no_other_head.Goals as goal

pub returns : goal.returns
returns c = heads-with_ttl
