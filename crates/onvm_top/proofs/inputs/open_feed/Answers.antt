use Rattle.std.proofs.Common.{ap, Some}
use Rattle.onvm_top.proofs.inputs.open_feed.Goals as goal

pub open_input-requires : goal.open_input-requires
open_input-requires g c = c.requires.name 0 c.in-File.name (ap Some c.in-File.is)
