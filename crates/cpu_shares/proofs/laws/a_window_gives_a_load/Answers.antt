use Rattle.cpu_shares.proofs.Windows.{IsLoad-window_of}
use Rattle.cpu_shares.proofs.laws.a_window_gives_a_load.Goals as goal

pub returns : goal.returns
returns c = IsLoad-window_of
