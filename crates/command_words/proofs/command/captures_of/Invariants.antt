use Rattle.std.proofs.Common.{◌≡◌, All, map, take}
use Rattle.command_words.specs.Commands.{IsCapture, word_of}
use Rattle.command_words.proofs.command.captures_of.Given as goal

abbrev pub invariant-loop-word : goal.invariant-loop-word
invariant-loop-word l = (map word_of l.captures.items ≡ map (λ text. text.now) (take l.word-index l.words)) × All IsCapture l.captures.items
