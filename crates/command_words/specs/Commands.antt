-- The command that words are.
use Rattle.std.specs.Prelude.{◌≡◌, ◌≤◌, ◌<◌, ◌^◌, ◌++◌, ◌↔◌, IsTrue, ℕ, Bool, true, false, List, [], ◌∷◌, length, map, codes, decimal, nat_eq, All}
use Rattle.std.specs.List.{starts_with}
use Rattle.onvm_base.specs.declared.limits.TheConstants.{MAX_PORT_FRAMES, MAX_PORTS}
use Rattle.clap.specs.Walk.{Row}
use Rattle.command_words.specs.Asked.{HasFlag, others_in}
use Rattle.command_words.specs.Flags.{are_new, flags_of, is_given, others_of}
use Rattle.command_words.specs.declared.capture.CaptureWord.{CaptureWord}
use Rattle.command_words.specs.declared.capture.CaptureWord.TheVariants as word
use Rattle.command_words.specs.declared.command.Command.{Command}

-- `gen:`, with or without something behind it
abbrev pub is_generated : List ℕ → Bool
is_generated text = starts_with nat_eq text (codes "gen:")

-- the word that a capture is given by
abbrev pub word_of : CaptureWord → List ℕ
word_of (word.File name) = name.now
word_of (word.Generated seed count) = codes "gen:" ++ decimal seed ++ codes ":" ++ decimal count

-- a word that begins with `gen:` names no file
abbrev pub IsCapture : CaptureWord → Type 0
IsCapture (word.File name) = is_generated name.now ≡ false
IsCapture (word.Generated seed count) = (seed < 2 ^ 64) × (count ≤ MAX_PORT_FRAMES)

-- the words are a command
pub record IsCommand (words : List (List ℕ)) (command : Command) : Type 0 where
  pub flags : are_new [] (flags_of words) ≡ true
  pub serial : command.options.serial ≡ is_given (codes "--serial") (flags_of words)
  pub records : command.options.records ≡ is_given (codes "--records") (flags_of words)
  pub throttle_log : command.options.throttle_log ≡ is_given (codes "--throttle-log") (flags_of words)
  pub shares : command.options.shares ≡ is_given (codes "--shares") (flags_of words)
  pub others : others_of words ≡ command.chain.now ∷ command.output.now ∷ map word_of command.captures.items
  pub captures : All IsCapture command.captures.items
  pub some : 1 ≤ length command.captures.items
  pub few : length command.captures.items ≤ MAX_PORTS

-- the rows that `clap` found are those of a command
pub record IsFound (rows : List Row) (command : Command) : Type 0 where
  pub serial : IsTrue command.options.serial ↔ HasFlag (codes "serial") rows
  pub records : IsTrue command.options.records ↔ HasFlag (codes "records") rows
  pub throttle_log : IsTrue command.options.throttle_log ↔ HasFlag (codes "throttle-log") rows
  pub shares : IsTrue command.options.shares ↔ HasFlag (codes "shares") rows
  pub others : others_in rows ≡ command.chain.now ∷ command.output.now ∷ map word_of command.captures.items
  pub captures : All IsCapture command.captures.items
  pub some : 1 ≤ length command.captures.items
  pub few : length command.captures.items ≤ MAX_PORTS
