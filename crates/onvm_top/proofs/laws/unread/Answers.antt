use Rattle.onvm_top.proofs.Told.{unread}
use Rattle.onvm_top.proofs.laws.unread.Goals as goal

pub returns : goal.returns
returns c = unread
