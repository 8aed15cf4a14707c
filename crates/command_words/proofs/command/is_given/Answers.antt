use Rattle.std.proofs.Common.{rules}
use Rattle.clap.specs.Matches.{found_of}
use Rattle.clap.proofs.WalkLemmas.{first_value-rows}
use Rattle.command_words.proofs.command.is_given.Goals as goal

pub returns : goal.returns
returns c = rw (← first_value-rows (found_of c.args.matches.now) c.args.flag.now) (search rules)
