use Rattle.onvm_top.proofs.Told.{complete}
use Rattle.onvm_top.proofs.laws.complete.Goals as goal

pub returns : goal.returns
returns c = complete
