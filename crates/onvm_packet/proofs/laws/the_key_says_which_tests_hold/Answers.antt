use Rattle.onvm_packet.proofs.Keys.{do_hold-same}
use Rattle.onvm_packet.proofs.laws.the_key_says_which_tests_hold.Goals as goal

pub returns : goal.returns
returns c = do_hold-same
