use Rattle.command_words.proofs.Taken.{taken_iff}
use Rattle.command_words.proofs.laws.taken.Goals as goal

pub returns : goal.returns
returns c = taken_iff
