use Rattle.onvm_packet.proofs.SameKeys.{same_key}
use Rattle.onvm_packet.proofs.laws.equal_keys_are_the_same.Goals as goal

pub returns : goal.returns
returns c = same_key
