use Rattle.load_estimate.proofs.Calls.{window_after_all-empty}
use Rattle.load_estimate.proofs.laws.a_window_is_its_last_young_samples.Goals as goal

pub returns : goal.returns
returns c = window_after_all-empty
