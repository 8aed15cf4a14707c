-- What `clap` is asked: four flags, and other words mixed with them.
use Rattle.std.specs.Prelude.{◌≡◌, ℕ, List, [], Some, true, codes, unwrap_or}
use Rattle.clap.specs.Lexer.{usize_max}
use Rattle.clap.specs.Walk.{Row, Rule, all_of, first_of}
use Rattle.clap.specs.Simple.{App, new_rule, matches_of, new_app, with_rule, on_top}
use Rattle.clap.specs.Faults.{fault_of}
use Rattle.clap.specs.declared.builder.action.ArgAction.TheVariants.{SetTrue, Append}

-- a flag, given at most once and without a value
abbrev pub flag_rule : List ℕ → Rule
flag_rule name = record (new_rule name) { long = Some name; action = Some SetTrue }

-- the words that are no flags
abbrev pub other_words : Rule
other_words = record (new_rule (codes "word")) {
  action = Some Append;
  range = Some (record { start_inclusive = 1; end_inclusive = usize_max });
}

abbrev pub bare_app : App
bare_app = on_top (λ s. record s { no_binary_name = true; disable_help_flag = true; disable_version_flag = true }) (new_app (codes "onvm"))

abbrev pub asked : App
asked = with_rule (with_rule (with_rule (with_rule (with_rule bare_app (flag_rule (codes "serial")))
    (flag_rule (codes "records"))) (flag_rule (codes "throttle-log"))) (flag_rule (codes "shares"))) other_words

-- the words are flags and other words
unfoldable pub IsTaken : List (List ℕ) → Type 0
IsTaken words = fault_of asked words ≡ []

-- what the words give each argument
unfoldable pub matched : List (List ℕ) → List Row
matched words = matches_of asked words

-- the words that are no flags, in order
abbrev pub others_in : List Row → List (List ℕ)
others_in rows = unwrap_or (all_of (codes "word") rows) []

-- a flag was given
abbrev pub HasFlag : List ℕ → List Row → Type 0
HasFlag name rows = first_of name rows ≡ Some (codes "true")
