use Rattle.std.proofs.Common.{[]}
use Rattle.command_words.proofs.Texts.{none_at}
use Rattle.command_words.proofs.command.captures_of.Goals as goal

pub returns-in_default-clause-none : goal.returns-in_default-clause-none
returns-in_default-clause-none c captures all same =
    none_at captures c.args.words.now c.loop-word.word-index (record { ref_ptr = (0, 0); now = [] }) c.loop-word-test.true c.in_default.ensures.none all same
