use Rattle.onvm_packet.proofs.Ones.{updated_checksum-right}
use Rattle.onvm_packet.proofs.laws.a_swapped_word_keeps_the_sum.Goals as goal

pub returns : goal.returns
returns c = updated_checksum-right
