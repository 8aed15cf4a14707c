-- Where one word is refused.
use Rattle.std.proofs.Common.{◌≡◌, ◌∙◌, ◌≤◌, ◌+◌, ◌==◌, ◌||◌, ℕ, Bool, cond, true, false, not, suc, refl, sym, ap, arith, List, [], ◌∷◌, length, take, true≢false, nat_lt}
use Rattle.std.specs.Str.{bytes_eq}
use Rattle.std.specs.List.{before_first, position_or_len}
use Rattle.std.proofs.Math.Numerals.{one-add}
use Rattle.std.proofs.lemmas.Slice.Eq.{bytes_eq-Decides}
use Rattle.clap.specs.Lexer.{usize_max, has_byte}
use Rattle.clap.specs.Walk.{Row, Text, has_row, settled_rows}
use Rattle.clap.specs.Kinds.{or_else, range_kinds, values_kinds}
use Rattle.clap.specs.Faults.{settle_fault, turn_fault}
use Rattle.clap.specs.declared.builder.value_parser.ValueParser.TheVariants as vp
use Rattle.command_words.specs.Flags.{is_known}
use Rattle.command_words.proofs.Steps.{Flag, IsPlain, at, held_at, name_of, passes, pend, records, rules, serial, shape, shares, text_of, throttle_log}

-- a text is taken as it is
any_text : (ignore_case : Bool) (texts : List Text) → values_kinds ignore_case vp.String texts ≡ []
any_text ignore_case [] = refl
any_text ignore_case (text ∷ texts) = any_text ignore_case texts

between : (n : ℕ) → 1 ≤ n → n ≤ usize_max → range_kinds 1 usize_max n ≡ []
between n low high =
    let some : (n == 0) ≡ false = grind arith in
    let least : nat_lt n 1 ≡ false = grind arith in
    let most : nat_lt usize_max n ≡ false = grind arith in
    rw (some, least, most) refl

pub settles : (rows : List Row) (texts : List Text) → length texts ≤ usize_max → settle_fault rules false (held_at rows texts) ≡ []
settles rows [] h = refl
settles rows (text ∷ texts) h =
    ap (λ k. or_else k (values_kinds false vp.String (text ∷ texts))) (between (suc (length texts)) (omega arith) h) ∙ any_text false texts

pub trailing_turn : (rows : List Row) (texts : List Text) (waiting : Bool) (text : Text) → turn_fault shape [] (at rows texts waiting true) text ≡ []
trailing_turn rows [] waiting text = refl
trailing_turn rows (t ∷ ts) waiting text = refl

pub plain_turn : (rows : List Row) (texts : List Text) (waiting : Bool) (text : Text) → IsPlain text
    → turn_fault shape [] (at rows texts waiting false) text ≡ []
plain_turn rows [] true text h = rw (h.dashes, h.long, h.short) refl
plain_turn rows [] false text h = rw (h.dashes, h.long, h.short) refl
plain_turn rows (t ∷ ts) true text h = rw (h.dashes, h.long, h.short) refl
plain_turn rows (t ∷ ts) false text h = rw (h.dashes, h.long, h.short) refl

pub dashes_turn : (rows : List Row) (texts : List Text) (waiting : Bool) (text : Text) → bytes_eq text (45 ∷ 45 ∷ []) ≡ true
    → turn_fault shape [] (at rows texts waiting false) text ≡ []
dashes_turn rows texts true text h = rw h refl
dashes_turn rows texts false text h = rw h refl

-- a flag is refused where it was given before
flag_turn_at : (flag : Flag) (rows : List Row) (texts : List Text) (waiting given : Bool) → settle_fault rules false (held_at rows texts) ≡ []
    → has_row (name_of flag) (settled_rows rules (pend texts) rows) ≡ given
    → passes (turn_fault shape [] (at rows texts waiting false) (text_of flag)) ≡ not given
flag_turn_at serial rows texts true true s h = rw (s, h) refl
flag_turn_at serial rows texts true false s h = rw (s, h) refl
flag_turn_at serial rows texts false true s h = rw (s, h) refl
flag_turn_at serial rows texts false false s h = rw (s, h) refl
flag_turn_at records rows texts true true s h = rw (s, h) refl
flag_turn_at records rows texts true false s h = rw (s, h) refl
flag_turn_at records rows texts false true s h = rw (s, h) refl
flag_turn_at records rows texts false false s h = rw (s, h) refl
flag_turn_at throttle_log rows texts true true s h = rw (s, h) refl
flag_turn_at throttle_log rows texts true false s h = rw (s, h) refl
flag_turn_at throttle_log rows texts false true s h = rw (s, h) refl
flag_turn_at throttle_log rows texts false false s h = rw (s, h) refl
flag_turn_at shares rows texts true true s h = rw (s, h) refl
flag_turn_at shares rows texts true false s h = rw (s, h) refl
flag_turn_at shares rows texts false true s h = rw (s, h) refl
flag_turn_at shares rows texts false false s h = rw (s, h) refl

pub flag_turn : (flag : Flag) (rows : List Row) (texts : List Text) (waiting : Bool) → length texts ≤ usize_max
    → passes (turn_fault shape [] (at rows texts waiting false) (text_of flag)) ≡ not (has_row (name_of flag) (settled_rows rules (pend texts) rows))
flag_turn flag rows texts waiting h =
    flag_turn_at flag rows texts waiting (has_row (name_of flag) (settled_rows rules (pend texts) rows)) (settles rows texts h) refl

-- ---- a flag that isn't known

-- without a `=` the name is all of it
pub whole_name : (text : Text) → has_byte 61 text ≡ false → before_first (λ x. x == 61) text ≡ text
whole_name [] e = refl
whole_name (b ∷ bs) e = go (b == 61) e (whole_name bs)
  where
    go : (x : Bool) → (x || has_byte 61 bs) ≡ false → (has_byte 61 bs ≡ false → before_first (λ y. y == 61) bs ≡ bs)
        → take (cond (not x) (1 + position_or_len (λ y. y == 61) bs) 0) (b ∷ bs) ≡ b ∷ bs
    go true h ih = absurd (true≢false h)
    go false h ih = rw (one-add (position_or_len (λ y. y == 61) bs)) (ap (λ t. b ∷ t) (ih h))

-- the text of a flag that is known
pub known_flag : (text : Text) → is_known text ≡ true → (flag : Flag) × (text ≡ text_of flag)
known_flag text e = go (bytes_eq text (text_of serial)) (bytes_eq text (text_of records)) (bytes_eq text (text_of throttle_log)) (bytes_eq text (text_of shares)) refl refl refl refl e
  where
    go : (a b c d : Bool) → bytes_eq text (text_of serial) ≡ a → bytes_eq text (text_of records) ≡ b → bytes_eq text (text_of throttle_log) ≡ c
        → bytes_eq text (text_of shares) ≡ d → (a || (b || (c || (d || false)))) ≡ true → (flag : Flag) × (text ≡ text_of flag)
    go true b c d ea eb ec ed e = (serial, (bytes_eq-Decides text (text_of serial)).0 ea)
    go false true c d ea eb ec ed e = (records, (bytes_eq-Decides text (text_of records)).0 eb)
    go false false true d ea eb ec ed e = (throttle_log, (bytes_eq-Decides text (text_of throttle_log)).0 ec)
    go false false false true ea eb ec ed e = (shares, (bytes_eq-Decides text (text_of shares)).0 ed)
    go false false false false ea eb ec ed e = absurd (true≢false (sym e))

pub is_known-flag : (flag : Flag) → is_known (text_of flag) ≡ true
is_known-flag serial = refl
is_known-flag records = refl
is_known-flag throttle_log = refl
is_known-flag shares = refl
