use Rattle.load_estimate.proofs.Calls.{length-window_of}
use Rattle.load_estimate.proofs.laws.a_window_is_bounded.Goals as goal

pub returns : goal.returns
returns c = length-window_of
