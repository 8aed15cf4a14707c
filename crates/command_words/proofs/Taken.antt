-- What `clap` takes, and what it finds.
use Rattle.std.proofs.Common.{◌≡◌, ◌∙◌, ◌≤◌, ◌&&◌, ◌||◌, Bool, cond, true, false, suc, refl, sym, ap, subst, arith, List, [], ◌∷◌, ◌++◌, length, Some, true≢false, codes}
use Rattle.std.specs.Prelude.{◌↔◌, slice_get, option_and_then}
use Rattle.std.specs.List.{All, fold}
use Rattle.std.specs.Option.{is_some, unwrap_or}
use Rattle.std.specs.Str.{bytes_eq, IsUtf8}
use Rattle.clap.specs.Lexer.{usize_max}
use Rattle.clap.specs.Walk.{Row, Rule, Text, Walk, all_of, finished, first_of, has_row, reading_by, settled, settled_rows, walked, with_default, with_values}
use Rattle.clap.specs.Simple.{built, entered, filled, with_index}
use Rattle.clap.specs.Kinds.{Kinds, or_else}
use Rattle.clap.specs.Faults.{check_fault, default_fault, defaults_fault, entered_fault, fault_of, settle_fault, walk_fault}
use Rattle.clap.specs.declared.parser.matches.ValueSource.TheVariants.{DefaultValue}
use Rattle.command_words.specs.Asked.{HasFlag, IsTaken, asked, matched, other_words, others_in}
use Rattle.command_words.specs.Flags.{are_new, flags_of, is_given, others_of}
use Rattle.command_words.proofs.Lookups.{all_of-other, all_of-with_values, first_of-all_of, has_row-all_of}
use Rattle.command_words.proofs.Refusals.{settles}
use Rattle.command_words.proofs.Steps.{Flag, at, held_at, name_of, passes, passes-or_else, pend, records, rule_for, rules, serial, shape, shares, text_of, throttle_log}
use Rattle.command_words.proofs.Unknown.{refused_first}
use Rattle.command_words.proofs.Walks.{EachUtf8, Ended, Holds, ends, given_row, refuses, settled_holds}

-- ---- what comes after the walk

no_fault : (b : Bool) → ◌≡◌ {A = Kinds} (cond b [] []) []
no_fault true = refl
no_fault false = refl

flag_default : (flag : Flag) (rows : List Row) → default_fault rows (rule_for flag) ≡ []
flag_default serial rows = no_fault (has_row (codes "serial") rows || false)
flag_default records rows = no_fault (has_row (codes "records") rows || false)
flag_default throttle_log rows = no_fault (has_row (codes "throttle-log") rows || false)
flag_default shares rows = no_fault (has_row (codes "shares") rows || false)

abbrev word_rule : Rule
word_rule = with_index 1 (filled other_words)

word_default : (rows : List Row) → default_fault rows word_rule ≡ []
word_default rows = go (has_row (codes "word") rows)
  where
    go : (b : Bool) → ◌≡◌ {A = Kinds} (cond (b || true) [] []) []
    go true = refl
    go false = refl

defaults_pass : (rows : List Row) → defaults_fault rows rules ≡ []
unfolding defaults_fault
defaults_pass rows =
    let one = with_default rows (rule_for serial) in
    let two = with_default one (rule_for records) in
    let three = with_default two (rule_for throttle_log) in
    let four = with_default three (rule_for shares) in
    ap (λ k. or_else k (or_else (default_fault one (rule_for records)) (or_else (default_fault two (rule_for throttle_log)) (or_else (default_fault three (rule_for shares)) (or_else (default_fault four word_rule) []))))) (flag_default serial rows)
    ∙ ap (λ k. or_else k (or_else (default_fault two (rule_for throttle_log)) (or_else (default_fault three (rule_for shares)) (or_else (default_fault four word_rule) [])))) (flag_default records one)
    ∙ ap (λ k. or_else k (or_else (default_fault three (rule_for shares)) (or_else (default_fault four word_rule) []))) (flag_default throttle_log two)
    ∙ ap (λ k. or_else k (or_else (default_fault four word_rule) [])) (flag_default shares three)
    ∙ ap (λ k. or_else k []) (word_default four)

-- ---- the whole

abbrev start : Walk
start = at [] [] false false

nothing : Holds [] [] []
nothing = record { flags = λ flag. refl; words = refl }

end_of : (words : List Text) → length words ≤ usize_max → are_new [] (flags_of words) ≡ true
    → Ended (fold (walked rules []) start words) (λ flag. is_given (text_of flag) (flags_of words)) (others_of words)
end_of words few new = ends words [] [] [] [] false (λ flag. is_given (text_of flag) (flags_of words)) (others_of words) nothing (omega arith) new (λ flag. refl) refl

-- what is refused after the walk
abbrev rest_fault : Walk → Kinds
rest_fault w =
    or_else (entered_fault (built asked) w.stopped) (or_else (settle_fault rules false w.held)
    (or_else (defaults_fault (settled rules w.held).rows rules) (check_fault shape (finished rules w.held) (is_some (entered (built asked) w.stopped)))))

nothing_left : (rows : List Row) (last : List Text) (waiting trailing : Bool) → length last ≤ usize_max → rest_fault (at rows last waiting trailing) ≡ []
nothing_left rows last waiting trailing few =
    ap (λ k. or_else k (or_else (defaults_fault (settled rules (held_at rows last)).rows rules) [])) (settles rows last few)
    ∙ ap (λ k. or_else k []) (defaults_pass (settled rules (held_at rows last)).rows)

fault_parts : (words : List Text) → fault_of asked words ≡ or_else (walk_fault shape [] start words) (rest_fault (fold (walked rules []) start words))
fault_parts words = refl

both_passed : (a b : Kinds) → b ≡ [] → passes (or_else a b) ≡ passes a
both_passed a b e = ap (λ k. passes (or_else a k)) e ∙ passes-or_else a [] ∙ go (passes a)
  where
    go : (x : Bool) → (x && true) ≡ x
    go true = refl
    go false = refl

-- the words are taken exactly where each flag is known, and none of those before it
pub taken : (words : List Text) → EachUtf8 words → length words ≤ usize_max → passes (fault_of asked words) ≡ are_new [] (flags_of words)
taken words utf8 few = ap passes (fault_parts words) ∙ go (are_new [] (flags_of words)) refl
  where
    walk_passes : passes (walk_fault shape [] start words) ≡ are_new [] (flags_of words)
    walk_passes = refuses words [] [] [] [] false nothing utf8 (omega arith)

    go : (b : Bool) → are_new [] (flags_of words) ≡ b
        → passes (or_else (walk_fault shape [] start words) (rest_fault (fold (walked rules []) start words))) ≡ are_new [] (flags_of words)
    go false e = refused_first (walk_fault shape [] start words) (rest_fault (fold (walked rules []) start words)) (walk_passes ∙ e) ∙ sym e
    go true e =
        let end = end_of words few e in
        both_passed (walk_fault shape [] start words) (rest_fault (fold (walked rules []) start words))
        (ap rest_fault end.is ∙ nothing_left end.rows end.last end.waiting end.trailing end.few) ∙ walk_passes

-- ---- what is found

default_keeps : (flag : Flag) (id : Text) (rows : List Row) → bytes_eq (name_of flag) id ≡ false → all_of id (with_default rows (rule_for flag)) ≡ all_of id rows
default_keeps flag id rows differ = go (has_row (name_of flag) rows)
  where
    go : (b : Bool) → all_of id (cond b rows (with_values (name_of flag) (reading_by (rule_for flag)) DefaultValue (codes "false" ∷ []) rows)) ≡ all_of id rows
    go true = refl
    go false = all_of-other (name_of flag) id (reading_by (rule_for flag)) DefaultValue (codes "false" ∷ []) rows differ

word_stays : (rows : List Row) → with_default rows word_rule ≡ rows
word_stays rows = go (has_row (codes "word") rows)
  where
    go : (b : Bool) → cond b rows rows ≡ rows
    go true = refl
    go false = refl

abbrev flag_text : Bool → Text
flag_text true = codes "true"
flag_text false = codes "false"

default_sets : (flag : Flag) (rows : List Row) (given : Bool) → all_of (name_of flag) rows ≡ given_row given
    → all_of (name_of flag) (with_default rows (rule_for flag)) ≡ Some (flag_text given ∷ [])
default_sets flag rows true is =
    let has : has_row (name_of flag) rows ≡ true = has_row-all_of (name_of flag) rows ∙ ap is_some is in
    ap (λ b. all_of (name_of flag) (cond b rows (with_values (name_of flag) (reading_by (rule_for flag)) DefaultValue (codes "false" ∷ []) rows))) has ∙ is
default_sets flag rows false is =
    let has : has_row (name_of flag) rows ≡ false = has_row-all_of (name_of flag) rows ∙ ap is_some is in
    ap (λ b. all_of (name_of flag) (cond b rows (with_values (name_of flag) (reading_by (rule_for flag)) DefaultValue (codes "false" ∷ []) rows))) has
    ∙ all_of-with_values (name_of flag) (reading_by (rule_for flag)) DefaultValue (codes "false" ∷ []) rows
    ∙ ap (λ o. Some (unwrap_or o [] ++ codes "false" ∷ [])) is

-- the rows with the defaults
abbrev with_defaults : List Row → List Row
with_defaults rows = with_default (with_default (with_default (with_default (with_default rows (rule_for serial)) (rule_for records)) (rule_for throttle_log)) (rule_for shares)) word_rule

finished_flag : (flag : Flag) (rows : List Row) (given : Bool) → all_of (name_of flag) rows ≡ given_row given
    → all_of (name_of flag) (with_defaults rows) ≡ Some (flag_text given ∷ [])
finished_flag serial rows given is =
    let one = with_default rows (rule_for serial) in
    let two = with_default one (rule_for records) in
    let three = with_default two (rule_for throttle_log) in
    ap (all_of (codes "serial")) (word_stays (with_default three (rule_for shares)))
    ∙ default_keeps shares (codes "serial") three refl ∙ default_keeps throttle_log (codes "serial") two refl
    ∙ default_keeps records (codes "serial") one refl ∙ default_sets serial rows given is
finished_flag records rows given is =
    let one = with_default rows (rule_for serial) in
    let two = with_default one (rule_for records) in
    let three = with_default two (rule_for throttle_log) in
    ap (all_of (codes "records")) (word_stays (with_default three (rule_for shares)))
    ∙ default_keeps shares (codes "records") three refl ∙ default_keeps throttle_log (codes "records") two refl
    ∙ default_sets records one given (default_keeps serial (codes "records") rows refl ∙ is)
finished_flag throttle_log rows given is =
    let one = with_default rows (rule_for serial) in
    let two = with_default one (rule_for records) in
    let three = with_default two (rule_for throttle_log) in
    ap (all_of (codes "throttle-log")) (word_stays (with_default three (rule_for shares)))
    ∙ default_keeps shares (codes "throttle-log") three refl
    ∙ default_sets throttle_log two given (default_keeps records (codes "throttle-log") one refl ∙ default_keeps serial (codes "throttle-log") rows refl ∙ is)
finished_flag shares rows given is =
    let one = with_default rows (rule_for serial) in
    let two = with_default one (rule_for records) in
    let three = with_default two (rule_for throttle_log) in
    ap (all_of (codes "shares")) (word_stays (with_default three (rule_for shares)))
    ∙ default_sets shares three given (default_keeps throttle_log (codes "shares") two refl ∙ default_keeps records (codes "shares") one refl
    ∙ default_keeps serial (codes "shares") rows refl ∙ is)

finished_words : (rows : List Row) → all_of (codes "word") (with_defaults rows) ≡ all_of (codes "word") rows
finished_words rows =
    let one = with_default rows (rule_for serial) in
    let two = with_default one (rule_for records) in
    let three = with_default two (rule_for throttle_log) in
    ap (all_of (codes "word")) (word_stays (with_default three (rule_for shares)))
    ∙ default_keeps shares (codes "word") three refl ∙ default_keeps throttle_log (codes "word") two refl
    ∙ default_keeps records (codes "word") one refl ∙ default_keeps serial (codes "word") rows refl

-- the rows before the defaults
settled_end : (words : List Text) (end : Ended (fold (walked rules []) start words) (λ flag. is_given (text_of flag) (flags_of words)) (others_of words))
    → Holds (settled_rows rules (pend end.last) end.rows) (flags_of words) (others_of words)
settled_end words end =
    subst (Holds (settled_rows rules (pend end.last) end.rows) (flags_of words)) end.words
    (settled_holds end.rows (flags_of words) (unwrap_or (all_of (codes "word") end.rows) []) end.last (record { flags = end.given; words = refl }))

matched_end : (words : List Text) (end : Ended (fold (walked rules []) start words) (λ flag. is_given (text_of flag) (flags_of words)) (others_of words))
    → matched words ≡ with_defaults (settled_rows rules (pend end.last) end.rows)
unfolding matched
matched_end words end = ap (λ (w : Walk). with_defaults (settled_rows rules w.held.pending w.held.rows)) end.is

pub found_others : (words : List Text) → length words ≤ usize_max → are_new [] (flags_of words) ≡ true → others_in (matched words) ≡ others_of words
found_others words few new =
    let end = end_of words few new in
    ap (λ r. unwrap_or (all_of (codes "word") r) []) (matched_end words end)
    ∙ ap (λ o. unwrap_or o []) (finished_words (settled_rows rules (pend end.last) end.rows)) ∙ (settled_end words end).words

pub found_flag : (flag : Flag) (words : List Text) → length words ≤ usize_max → are_new [] (flags_of words) ≡ true
    → first_of (name_of flag) (matched words) ≡ Some (flag_text (is_given (text_of flag) (flags_of words)))
found_flag flag words few new =
    let end = end_of words few new in
    first_of-all_of (name_of flag) (matched words) ∙ ap (λ r. option_and_then (λ (values : List Text). slice_get values 0) (all_of (name_of flag) r)) (matched_end words end)
    ∙ ap (option_and_then (λ (values : List Text). slice_get values 0))
    (finished_flag flag (settled_rows rules (pend end.last) end.rows) (is_given (text_of flag) (flags_of words)) ((settled_end words end).flags flag))

is_given_text : (given : Bool) → Some (flag_text given) ≡ Some (codes "true") → given ≡ true
is_given_text true e = refl
is_given_text false e = ap (λ o. bytes_eq (unwrap_or o []) (codes "true")) e

pub has_flag : (flag : Flag) (words : List Text) → length words ≤ usize_max → are_new [] (flags_of words) ≡ true
    → HasFlag (name_of flag) (matched words) ↔ (is_given (text_of flag) (flags_of words) ≡ true)
has_flag flag words few new = (
  λ has. is_given_text (is_given (text_of flag) (flags_of words)) (sym (found_flag flag words few new) ∙ has),
  λ given. found_flag flag words few new ∙ ap (λ b. Some (flag_text b)) given,
)

-- ---- in the words of the law

pub each_utf8 : (words : List Text) → All IsUtf8 words → EachUtf8 words
each_utf8 [] h = tt
each_utf8 (text ∷ words) h = (h 0 text (omega arith), each_utf8 words (λ k d less. h (suc k) d (omega arith)))

passes_none : (kinds : Kinds) → passes kinds ≡ true → kinds ≡ []
passes_none [] e = refl
passes_none (k ∷ ks) e = absurd (true≢false (sym e))

pub taken_iff : (words : List Text) → All IsUtf8 words → length words ≤ usize_max → IsTaken words ↔ (are_new [] (flags_of words) ≡ true)
unfolding IsTaken
taken_iff words utf8 few =
    let same : passes (fault_of asked words) ≡ are_new [] (flags_of words) = taken words (each_utf8 words utf8) few in
    (λ none. sym same ∙ ap passes none, λ new. passes_none (fault_of asked words) (same ∙ new))
