use Rattle.rx_feed.proofs.Sound.{only_torn, passes_none}
use Rattle.rx_feed.proofs.laws.sound_so_far.Goals as goal

pub returns-clause-fault : goal.returns-clause-fault
returns-clause-fault c = only_torn

pub returns-clause-limit : goal.returns-clause-limit
returns-clause-limit c = passes_none
