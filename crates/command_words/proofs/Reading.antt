-- Rows that are a command's, and words that are one.
use Rattle.std.proofs.Common.{◌≡◌, ◌∙◌, ◌≤◌, ℕ, Bool, true, false, refl, sym, ap, List, [], length, true≢false}
use Rattle.std.specs.Prelude.{◌↔◌, IfNone, IfOk, IfSome, IsTrue, IsUtf8, Option, Some, None, Result, Ok, Err}
use Rattle.std.specs.List.{All}
use Rattle.clap.specs.Lexer.{usize_max}
use Rattle.clap.specs.Walk.{Row}
use Rattle.command_words.specs.Asked.{HasFlag, IsTaken, matched, others_in}
use Rattle.command_words.specs.Commands.{IsCommand, IsFound}
use Rattle.command_words.specs.Flags.{are_new, flags_of, is_given}
use Rattle.command_words.specs.declared.command.Command.{Command}
use Rattle.command_words.proofs.Steps.{Flag, name_of, records, serial, shares, text_of, throttle_log}
use Rattle.command_words.proofs.Taken.{found_others, has_flag, taken_iff}

same_answer : (a b : Bool) → (a ≡ true → b ≡ true) → (b ≡ true → a ≡ true) → a ≡ b
same_answer true true f g = refl
same_answer true false f g = sym (f refl)
same_answer false true f g = g refl
same_answer false false f g = refl

module _ (words : List (List ℕ)) (rows : List Row) (utf8 : All IsUtf8 words) (few : length words ≤ usize_max) (is : rows ≡ matched words) where
  given : (flag : Flag) → are_new [] (flags_of words) ≡ true → HasFlag (name_of flag) rows ↔ (is_given (text_of flag) (flags_of words) ≡ true)
  given flag new = rw is (has_flag flag words few new)

  option : (flag : Flag) (b : Bool) → are_new [] (flags_of words) ≡ true → IsTrue b ↔ HasFlag (name_of flag) rows → b ≡ is_given (text_of flag) (flags_of words)
  option flag true new h = sym ((given flag new).0 (h.0 refl))
  option flag false new h = same_answer false (is_given (text_of flag) (flags_of words)) (λ e. absurd (true≢false (sym e)))
      (λ e. absurd (true≢false (sym (h.1 ((given flag new).1 e)))))

  asked_for : (flag : Flag) (b : Bool) → are_new [] (flags_of words) ≡ true → b ≡ is_given (text_of flag) (flags_of words) → IsTrue b ↔ HasFlag (name_of flag) rows
  asked_for flag true new h = (λ t. (given flag new).1 (sym h), λ has. refl)
  asked_for flag false new h = (λ t. absurd (true≢false (sym t)), λ has. absurd (true≢false (sym (h ∙ (given flag new).0 has))))

  pub is_command : (command : Command) → IsTaken words → IsFound rows command → IsCommand words command
  is_command command taken found =
      let new = (taken_iff words utf8 few).0 taken in
      record {
        flags = new;
        serial = option serial command.options.serial new found.serial;
        records = option records command.options.records new found.records;
        throttle_log = option throttle_log command.options.throttle_log new found.throttle_log;
        shares = option shares command.options.shares new found.shares;
        others = sym (found_others words few new) ∙ ap others_in (sym is) ∙ found.others;
        captures = found.captures;
        some = found.some;
        few = found.few;
      }

  pub is_found : (command : Command) → IsCommand words command → IsFound rows command
  is_found command h = record {
    serial = asked_for serial command.options.serial h.flags h.serial;
    records = asked_for records command.options.records h.flags h.records;
    throttle_log = asked_for throttle_log command.options.throttle_log h.flags h.throttle_log;
    shares = asked_for shares command.options.shares h.flags h.shares;
    others = ap others_in is ∙ found_others words few h.flags ∙ h.others;
    captures = h.captures;
    some = h.some;
    few = h.few;
  }

pub is_taken : (words : List (List ℕ)) (command : Command) → All IsUtf8 words → length words ≤ usize_max → IsCommand words command → IsTaken words
is_taken words command utf8 few h = (taken_iff words utf8 few).1 h.flags

module _ {E : Type 0} (words : List (List ℕ)) (rows : List Row) (utf8 : All IsUtf8 words) (few : length words ≤ usize_max) (is : rows ≡ matched words) where
  pub read_command : (r : Result (Option Command) E) → IsTaken words → IfOk r (λ read. IfSome read (λ command. IsFound rows command))
      → IfOk r (λ read. IfSome read (λ command. IsCommand words command))
  read_command (Ok (Some command)) taken found = is_command words rows utf8 few is command taken found
  read_command (Ok None) taken found = tt
  read_command (Err e) taken found = tt

  pub read_none : (r : Result (Option Command) E) → IfOk r (λ read. IfNone read ((command : Command) → ¬ (IsFound rows command)))
      → IfOk r (λ read. IfNone read ((command : Command) → ¬ (IsCommand words command)))
  read_none (Ok (Some command)) none = tt
  read_none (Ok None) none = λ command h. none command (is_found words rows utf8 few is command h)
  read_none (Err e) none = tt
