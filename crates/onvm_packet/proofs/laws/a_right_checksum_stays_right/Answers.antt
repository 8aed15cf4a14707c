use Rattle.onvm_packet.proofs.TtlChecksum.{right-with_ttl}
use Rattle.onvm_packet.proofs.laws.a_right_checksum_stays_right.Goals as goal

pub returns : goal.returns
returns c = right-with_ttl
