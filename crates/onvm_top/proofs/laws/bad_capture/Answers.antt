use Rattle.onvm_top.proofs.Told.{bad_capture}
use Rattle.onvm_top.proofs.laws.bad_capture.Goals as goal

pub returns : goal.returns
returns c = bad_capture
