-- The walk over all words.
use Rattle.std.proofs.Common.{◌≡◌, ◌∙◌, ◌≤◌, ◌+◌, ◌&&◌, ◌||◌, Bool, cond, true, false, not, suc, refl, sym, ap, subst, arith, List, [], ◌∷◌, ◌++◌, length, Option, Some, None, true≢false, codes, append-nil, append_assoc, length-append}
use Rattle.std.specs.Prelude.{⊤}
use Rattle.std.specs.List.{fold}
use Rattle.std.specs.Option.{is_some, unwrap_or}
use Rattle.std.specs.Str.{bytes_eq, IsUtf8}
use Rattle.std.proofs.lemmas.Slice.Eq.{bytes_eq-Decides}
use Rattle.clap.specs.Lexer.{usize_max}
use Rattle.clap.specs.Walk.{Row, Text, Walk, all_of, has_row, reading_by, settled_rows, used, walked, without}
use Rattle.clap.specs.Simple.{filled, with_index}
use Rattle.clap.specs.Faults.{turn_fault, walk_fault}
use Rattle.clap.specs.declared.parser.matches.ValueSource.TheVariants.{CommandLine}
use Rattle.command_words.specs.Asked.{other_words}
use Rattle.command_words.specs.Flags.{are_new, ends_flags, flags_of, is_flag, is_given, is_known, others_of}
use Rattle.command_words.proofs.Lookups.{all_of-other, all_of-with_values, has_row-all_of, without-missing}
use Rattle.command_words.proofs.Refusals.{dashes_turn, flag_turn, is_known-flag, known_flag, plain_turn, trailing_turn}
use Rattle.command_words.proofs.Steps.{Flag, at, name_of, passes, passes-or_else, pend, plain, records, rule_for, rules, serial, shape, shares, text_of, throttle_log, walked-dashes, walked-flag, walked-plain, walked-trailing}
use Rattle.command_words.proofs.Unknown.{unknown_turn}

-- what stands at a flag
abbrev pub given_row : Bool → Option (List Text)
given_row true = Some (codes "true" ∷ [])
given_row false = None

-- the rows are those of these flags and words
pub record Holds (rows : List Row) (seen texts : List Text) : Type 0 where
  pub flags : (flag : Flag) → all_of (name_of flag) rows ≡ given_row (is_given (text_of flag) seen)
  pub words : unwrap_or (all_of (codes "word") rows) [] ≡ texts

no_word : (flag : Flag) → bytes_eq (codes "word") (name_of flag) ≡ false
no_word serial = refl
no_word records = refl
no_word throttle_log = refl
no_word shares = refl

no_flag : (flag : Flag) → bytes_eq (name_of flag) (codes "word") ≡ false
no_flag serial = refl
no_flag records = refl
no_flag throttle_log = refl
no_flag shares = refl

pub settled_holds : (rows : List Row) (seen texts more : List Text) → Holds rows seen texts → Holds (settled_rows rules (pend more) rows) seen (texts ++ more)
settled_holds rows seen texts [] h = record { flags = h.flags; words = h.words ∙ sym (append-nil texts) }
settled_holds rows seen texts (t ∷ ts) h = record {
  flags = λ flag. all_of-other (codes "word") (name_of flag) (reading_by (with_index 1 (filled other_words))) CommandLine (t ∷ ts) rows (no_word flag) ∙ h.flags flag;
  words = ap (λ o. unwrap_or o []) (all_of-with_values (codes "word") (reading_by (with_index 1 (filled other_words))) CommandLine (t ∷ ts) rows)
      ∙ ap (λ x. x ++ (t ∷ ts)) h.words;
}

pub not_given : (rows : List Row) (seen texts : List Text) (flag : Flag) → Holds rows seen texts → has_row (name_of flag) rows ≡ is_given (text_of flag) seen
not_given rows seen texts flag h = has_row-all_of (name_of flag) rows ∙ ap is_some (h.flags flag) ∙ go (is_given (text_of flag) seen)
  where
    go : (b : Bool) → is_some (given_row b) ≡ b
    go true = refl
    go false = refl

pub used_holds : (rows : List Row) (seen texts : List Text) (flag : Flag) → Holds rows seen texts → is_given (text_of flag) seen ≡ false
    → Holds (used (rule_for flag) [] rows) (text_of flag ∷ seen) texts
used_holds rows seen texts flag h new = record { flags = flags; words = words }
  where
    same : without (name_of flag) rows ≡ rows
    same = without-missing (name_of flag) rows (not_given rows seen texts flag h ∙ new)

    empty : all_of (name_of flag) rows ≡ None
    empty = h.flags flag ∙ ap given_row new

    words : unwrap_or (all_of (codes "word") (used (rule_for flag) [] rows)) [] ≡ texts
    words = ap (λ o. unwrap_or o []) (all_of-other (name_of flag) (codes "word") (reading_by (rule_for flag)) CommandLine (codes "true" ∷ []) (without (name_of flag) rows) (no_flag flag))
        ∙ ap (λ r. unwrap_or (all_of (codes "word") r) []) same ∙ h.words

    here : all_of (name_of flag) (used (rule_for flag) [] rows) ≡ Some (codes "true" ∷ [])
    here = all_of-with_values (name_of flag) (reading_by (rule_for flag)) CommandLine (codes "true" ∷ []) (without (name_of flag) rows)
        ∙ ap (λ r. Some (unwrap_or (all_of (name_of flag) r) [] ++ codes "true" ∷ [])) same
        ∙ ap (λ o. Some (unwrap_or o [] ++ codes "true" ∷ [])) empty

    go : (other : Flag) (b : Bool) → bytes_eq (name_of flag) (name_of other) ≡ b
        → all_of (name_of other) (used (rule_for flag) [] rows) ≡ given_row (b || is_given (text_of other) seen)
    go other true e = ap (λ n. all_of n (used (rule_for flag) [] rows)) (sym ((bytes_eq-Decides (name_of flag) (name_of other)).0 e)) ∙ here
    go other false e = all_of-other (name_of flag) (name_of other) (reading_by (rule_for flag)) CommandLine (codes "true" ∷ []) (without (name_of flag) rows) e
        ∙ ap (all_of (name_of other)) same ∙ h.flags other

    flags : (other : Flag) → all_of (name_of other) (used (rule_for flag) [] rows) ≡ given_row (is_given (text_of other) (text_of flag ∷ seen))
    flags other = go other (bytes_eq (name_of flag) (name_of other)) refl

-- ---- all words

abbrev pub flags_in : Bool → List Text → List Text
flags_in true words = []
flags_in false words = flags_of words

abbrev pub others_in_walk : Bool → List Text → List Text
others_in_walk true words = words
others_in_walk false words = others_of words

abbrev pub EachUtf8 : List Text → Type 0
EachUtf8 [] = ⊤
EachUtf8 (text ∷ texts) = IsUtf8 text × EachUtf8 texts

trailing_walk : (words : List Text) (rows : List Row) (texts : List Text) (waiting : Bool) → walk_fault shape [] (at rows texts waiting true) words ≡ []
unfolding walk_fault
trailing_walk [] rows texts waiting = refl
trailing_walk (text ∷ words) rows texts waiting =
    rw (trailing_turn rows texts waiting text, walked-trailing rows texts waiting text) (trailing_walk words rows (texts ++ text ∷ []) true)

-- the words are refused exactly where a flag isn't known, or was given before
abbrev Refuses : List Text → Type 0
Refuses words = (rows : List Row) (seen given texts : List Text) (waiting : Bool) → Holds rows seen given → EachUtf8 words → length texts + length words ≤ usize_max
    → passes (walk_fault shape [] (at rows texts waiting false) words) ≡ are_new seen (flags_of words)

refuses-flag : (flag : Flag) (words : List Text) → Refuses words → (rows : List Row) (seen given texts : List Text) (waiting : Bool) → Holds rows seen given
    → EachUtf8 words → length texts + suc (length words) ≤ usize_max
    → (passes (turn_fault shape [] (at rows texts waiting false) (text_of flag)) && passes (walk_fault shape [] (walked rules [] (at rows texts waiting false) (text_of flag)) words))
    ≡ are_new seen (text_of flag ∷ flags_of words)
refuses-flag flag words ih rows seen given texts waiting h utf8 few = go (is_given (text_of flag) seen) refl
  where
    after : List Row
    after = settled_rows rules (pend texts) rows

    held : Holds after seen (given ++ texts)
    held = settled_holds rows seen given texts h

    turn : passes (turn_fault shape [] (at rows texts waiting false) (text_of flag)) ≡ not (is_given (text_of flag) seen)
    turn = flag_turn flag rows texts waiting (omega (arith, few)) ∙ ap not (not_given after seen (given ++ texts) flag held)

    go : (b : Bool) → is_given (text_of flag) seen ≡ b
        → (passes (turn_fault shape [] (at rows texts waiting false) (text_of flag)) && passes (walk_fault shape [] (walked rules [] (at rows texts waiting false) (text_of flag)) words))
        ≡ (is_known (text_of flag) && (not (is_given (text_of flag) seen) && are_new (text_of flag ∷ seen) (flags_of words)))
    go true e = rw (turn, is_known-flag flag, e) refl
    go false e = rw (turn, is_known-flag flag, e, walked-flag flag rows texts waiting)
        (ih (used (rule_for flag) [] after) (text_of flag ∷ seen) (given ++ texts) [] false (used_holds after seen (given ++ texts) flag held e) utf8 (omega (arith, few)))

refuses-word : (text : Text) (words : List Text) → Refuses words → (e f k : Bool) → ends_flags text ≡ e → is_flag text ≡ f → is_known text ≡ k
    → (rows : List Row) (seen given texts : List Text) (waiting : Bool) → Holds rows seen given
    → IsUtf8 text → EachUtf8 words → length texts + suc (length words) ≤ usize_max
    → (passes (turn_fault shape [] (at rows texts waiting false) text) && passes (walk_fault shape [] (walked rules [] (at rows texts waiting false) text) words))
    ≡ are_new seen (cond e [] (cond f (text ∷ flags_of words) (flags_of words)))
refuses-word text words ih true f k ee ef ek rows seen given texts waiting h utf8 each few =
    rw (dashes_turn rows texts waiting text ee, walked-dashes rows texts waiting text ee, trailing_walk words rows texts waiting) refl
refuses-word text words ih false false k ee ef ek rows seen given texts waiting h utf8 each few =
    rw (plain_turn rows texts waiting text (plain text ef), walked-plain rows texts waiting text (plain text ef))
    (ih rows seen given (texts ++ text ∷ []) true h each (simp length-append (omega (arith, few))))
refuses-word text words ih false true true ee ef ek rows seen given texts waiting h utf8 each few =
    let known = known_flag text ek in
    subst (λ t. (passes (turn_fault shape [] (at rows texts waiting false) t) && passes (walk_fault shape [] (walked rules [] (at rows texts waiting false) t) words))
    ≡ are_new seen (t ∷ flags_of words)) (sym known.1) (refuses-flag known.0 words ih rows seen given texts waiting h each few)
refuses-word text words ih false true false ee ef ek rows seen given texts waiting h utf8 each few =
    rw (unknown_turn rows texts waiting text utf8 ef ee ek, ek) refl

pub refuses : (words : List Text) → Refuses words
unfolding walk_fault
refuses [] rows seen given texts waiting h each few = refl
refuses (text ∷ words) rows seen given texts waiting h each few =
    passes-or_else (turn_fault shape [] (at rows texts waiting false) text) (walk_fault shape [] (walked rules [] (at rows texts waiting false) text) words)
    ∙ refuses-word text words (refuses words) (ends_flags text) (is_flag text) (is_known text) refl refl refl rows seen given texts waiting h each.0 each.1 few

-- ---- where the walk ends

pub record Ended (w : Walk) (flags : Flag → Bool) (texts : List Text) : Type 0 where
  pub rows : List Row
  pub last : List Text
  pub waiting : Bool
  pub trailing : Bool
  pub is : w ≡ at rows last waiting trailing
  pub few : length last ≤ usize_max
  pub given : (flag : Flag) → all_of (name_of flag) rows ≡ given_row (flags flag)
  pub words : unwrap_or (all_of (codes "word") rows) [] ++ last ≡ texts

ended_trailing : (words : List Text) (rows : List Row) (seen given texts : List Text) (waiting : Bool) (flags : Flag → Bool) (all : List Text)
    → Holds rows seen given → length texts + length words ≤ usize_max
    → ((flag : Flag) → flags flag ≡ is_given (text_of flag) seen) → all ≡ given ++ (texts ++ words)
    → Ended (fold (walked rules []) (at rows texts waiting true) words) flags all
ended_trailing [] rows seen given texts waiting flags all h few same is = record {
  rows = rows;
  last = texts;
  waiting = waiting;
  trailing = true;
  is = refl;
  few = omega (arith, few);
  given = λ flag. h.flags flag ∙ ap given_row (sym (same flag));
  words = ap (λ x. x ++ texts) h.words ∙ ap (λ x. given ++ x) (sym (append-nil texts)) ∙ sym is;
}
ended_trailing (text ∷ words) rows seen given texts waiting flags all h few same is =
    rw (walked-trailing rows texts waiting text)
    (ended_trailing words rows seen given (texts ++ text ∷ []) true flags all h (simp length-append (omega (arith, few))) same
    (is ∙ ap (λ x. given ++ x) (sym (append_assoc texts (text ∷ []) words))))

abbrev Ends : List Text → Type 0
Ends words = (rows : List Row) (seen given texts : List Text) (waiting : Bool) (flags : Flag → Bool) (all : List Text)
    → Holds rows seen given → length texts + length words ≤ usize_max → are_new seen (flags_of words) ≡ true
    → ((flag : Flag) → flags flag ≡ (is_given (text_of flag) seen || is_given (text_of flag) (flags_of words))) → all ≡ given ++ (texts ++ others_of words)
    → Ended (fold (walked rules []) (at rows texts waiting false) words) flags all

both : (a b : Bool) → (a && b) ≡ true → (a ≡ true) × (b ≡ true)
both true b e = (refl, e)
both false b e = absurd (true≢false (sym e))

not_true : (a : Bool) → not a ≡ true → a ≡ false
not_true true e = absurd (true≢false (sym e))
not_true false e = refl

or_swap : (a b c : Bool) → (a || (b || c)) ≡ ((b || a) || c)
or_swap true true c = refl
or_swap true false c = refl
or_swap false true c = refl
or_swap false false c = refl

or_false : (a : Bool) → (a || false) ≡ a
or_false true = refl
or_false false = refl

ends-flag : (flag : Flag) (words : List Text) → Ends words → (rows : List Row) (seen given texts : List Text) (waiting : Bool) (flags : Flag → Bool) (all : List Text)
    → Holds rows seen given → length texts + suc (length words) ≤ usize_max → are_new seen (text_of flag ∷ flags_of words) ≡ true
    → ((other : Flag) → flags other ≡ (is_given (text_of other) seen || is_given (text_of other) (text_of flag ∷ flags_of words)))
    → all ≡ given ++ (texts ++ others_of words)
    → Ended (fold (walked rules []) (walked rules [] (at rows texts waiting false) (text_of flag)) words) flags all
ends-flag flag words ih rows seen given texts waiting flags all h few new same is =
    let after : List Row = settled_rows rules (pend texts) rows in
    let held : Holds after seen (given ++ texts) = settled_holds rows seen given texts h in
    let parts = both (not (is_given (text_of flag) seen)) (are_new (text_of flag ∷ seen) (flags_of words)) (both (is_known (text_of flag)) _ new).1 in
    let fresh : is_given (text_of flag) seen ≡ false = not_true (is_given (text_of flag) seen) parts.0 in
    rw (walked-flag flag rows texts waiting)
    (ih (used (rule_for flag) [] after) (text_of flag ∷ seen) (given ++ texts) [] false flags all (used_holds after seen (given ++ texts) flag held fresh)
    (omega (arith, few)) parts.1
    (λ other. same other ∙ or_swap (is_given (text_of other) seen) (bytes_eq (text_of flag) (text_of other)) (is_given (text_of other) (flags_of words)))
    (is ∙ sym (append_assoc given texts (others_of words))))

ends-word : (text : Text) (words : List Text) → Ends words → (e f k : Bool) → ends_flags text ≡ e → is_flag text ≡ f → is_known text ≡ k
    → (rows : List Row) (seen given texts : List Text) (waiting : Bool) (flags : Flag → Bool) (all : List Text)
    → Holds rows seen given → length texts + suc (length words) ≤ usize_max
    → are_new seen (cond e [] (cond f (text ∷ flags_of words) (flags_of words))) ≡ true
    → ((other : Flag) → flags other ≡ (is_given (text_of other) seen || is_given (text_of other) (cond e [] (cond f (text ∷ flags_of words) (flags_of words)))))
    → all ≡ given ++ (texts ++ cond e words (cond f (others_of words) (text ∷ others_of words)))
    → Ended (fold (walked rules []) (walked rules [] (at rows texts waiting false) text) words) flags all
ends-word text words ih true f k ee ef ek rows seen given texts waiting flags all h few new same is =
    rw (walked-dashes rows texts waiting text ee)
    (ended_trailing words rows seen given texts waiting flags all h (omega (arith, few)) (λ flag. same flag ∙ or_false (is_given (text_of flag) seen)) is)
ends-word text words ih false false k ee ef ek rows seen given texts waiting flags all h few new same is =
    rw (walked-plain rows texts waiting text (plain text ef))
    (ih rows seen given (texts ++ text ∷ []) true flags all h (simp length-append (omega (arith, few))) new same
    (is ∙ ap (λ x. given ++ x) (sym (append_assoc texts (text ∷ []) (others_of words)))))
ends-word text words ih false true true ee ef ek rows seen given texts waiting flags all h few new same is =
    let known = known_flag text ek in
    subst (λ t. Ended (fold (walked rules []) (walked rules [] (at rows texts waiting false) t) words) flags all) (sym known.1)
    (ends-flag known.0 words ih rows seen given texts waiting flags all h few (subst (λ t. are_new seen (t ∷ flags_of words) ≡ true) known.1 new)
    (λ other. same other ∙ ap (λ t. is_given (text_of other) seen || is_given (text_of other) (t ∷ flags_of words)) known.1) is)
ends-word text words ih false true false ee ef ek rows seen given texts waiting flags all h few new same is =
    absurd (true≢false (sym (both (is_known text) _ new).0 ∙ ek))

pub ends : (words : List Text) → Ends words
ends [] rows seen given texts waiting flags all h few new same is = record {
  rows = rows;
  last = texts;
  waiting = waiting;
  trailing = false;
  is = refl;
  few = omega (arith, few);
  given = λ flag. h.flags flag ∙ ap given_row (sym (same flag ∙ or_false (is_given (text_of flag) seen)));
  words = ap (λ x. x ++ texts) h.words ∙ ap (λ x. given ++ x) (sym (append-nil texts)) ∙ sym is;
}
ends (text ∷ words) rows seen given texts waiting flags all h few new same is =
    ends-word text words (ends words) (ends_flags text) (is_flag text) (is_known text) refl refl refl rows seen given texts waiting flags all h few new same is
