-- The names that a run of a command opens and creates.
use Rattle.std.specs.Borrow.{Bor}
use Rattle.std.specs.Prelude.{◌≡◌, ℕ, List, Some, slice_get}
use Rattle.command_words.specs.Commands.{IsCommand}
use Rattle.command_words.specs.declared.capture.CaptureWord.TheVariants as word
use Rattle.command_words.specs.declared.command.Command.{Command}

-- the words are no command
abbrev pub IsNoCommand : List (List ℕ) → Type 0
IsNoCommand words = (command : Command) → ¬ (IsCommand words command)

-- the files of a command may be opened and created
pub record MayReplay (may_open may_create : List ℕ → Type 0) (words : List (List ℕ)) : Type 0 where
  pub opens_chain : (command : Command) → IsCommand words command → may_open command.chain.now
  pub creates_output : (command : Command) → IsCommand words command → may_create command.output.now
  pub opens_captures : (command : Command) → IsCommand words command → (port : ℕ) (name : Bor (List ℕ))
      → slice_get command.captures.items port ≡ Some (word.File name) → may_open name.now
