-- A flag that isn't known is refused.
use Rattle.std.proofs.Common.{◌≡◌, ◌∙◌, ◌==◌, ◌&&◌, ℕ, Bool, true, false, suc, refl, sym, ap, subst, arith, List, [], ◌∷◌, length, Some, None, true≢false, codes}
use Rattle.std.specs.Str.{bytes_eq, chars, IsUtf8, encode_utf8_all}
use Rattle.std.specs.Char.{encode_utf8}
use Rattle.std.specs.List.{after_first, before_first}
use Rattle.std.proofs.lemmas.Slice.Eq.{bytes_eq-Decides}
use Rattle.std.proofs.lemmas.Str.{encodes-chars}
use Rattle.clap.specs.Lexer.{has_byte, long_of, name_and_value, short_of}
use Rattle.clap.specs.Walk.{Held, Row, Text, arg_by_long}
use Rattle.clap.specs.Kinds.{Kinds, or_else}
use Rattle.std.proofs.lemmas.Bool.Decides.{Decides-eqb}
use Rattle.clap.specs.Faults.{bundle_fault, flags_fault, flag_word_fault, long_fault, turn_fault}
use Rattle.command_words.specs.Flags.{is_flag, is_known}
use Rattle.command_words.proofs.Refusals.{is_known-flag, whole_name}
use Rattle.command_words.proofs.Steps.{Flag, at, held_at, name_of, passes, passes-or_else, records, rules, serial, shape, shares, throttle_log}

-- `--name=value`
with_value : (name value : Text) (h : Held) → passes (long_fault rules false (arg_by_long rules name) (Some value) h) ≡ false
with_value name value h = go (bytes_eq (codes "serial") name) (bytes_eq (codes "records") name) (bytes_eq (codes "throttle-log") name) (bytes_eq (codes "shares") name) refl refl refl refl
  where
    go : (a b c d : Bool) → bytes_eq (codes "serial") name ≡ a → bytes_eq (codes "records") name ≡ b → bytes_eq (codes "throttle-log") name ≡ c
        → bytes_eq (codes "shares") name ≡ d → passes (long_fault rules false (arg_by_long rules name) (Some value) h) ≡ false
    go true b c d ea eb ec ed = rw ea refl
    go false true c d ea eb ec ed = rw (ea, eb) refl
    go false false true d ea eb ec ed = rw (ea, eb, ec) refl
    go false false false true ea eb ec ed = rw (ea, eb, ec, ed) refl
    go false false false false ea eb ec ed = rw (ea, eb, ec, ed) refl

-- `--name`, and no such flag
no_such : (name : Text) (h : Held) → is_known (45 ∷ 45 ∷ name) ≡ false → passes (long_fault rules false (arg_by_long rules name) None h) ≡ false
no_such name h unknown = go (bytes_eq (codes "serial") name) (bytes_eq (codes "records") name) (bytes_eq (codes "throttle-log") name) (bytes_eq (codes "shares") name) refl refl refl refl
  where
    known : (flag : Flag) → bytes_eq (name_of flag) name ≡ true → ⊥
    known flag e = true≢false (sym (is_known-flag flag) ∙ ap (λ text. is_known (45 ∷ 45 ∷ text)) ((bytes_eq-Decides (name_of flag) name).0 e) ∙ unknown)

    go : (a b c d : Bool) → bytes_eq (codes "serial") name ≡ a → bytes_eq (codes "records") name ≡ b → bytes_eq (codes "throttle-log") name ≡ c
        → bytes_eq (codes "shares") name ≡ d → passes (long_fault rules false (arg_by_long rules name) None h) ≡ false
    go true b c d ea eb ec ed = absurd (known serial ea)
    go false true c d ea eb ec ed = absurd (known records eb)
    go false false true d ea eb ec ed = absurd (known throttle_log ec)
    go false false false true ea eb ec ed = absurd (known shares ed)
    go false false false false ea eb ec ed = rw (ea, eb, ec, ed) refl

-- `--name` or `--name=value`
long_refused : (b : ℕ) (bs : Text) (h : Held) → is_known (45 ∷ 45 ∷ b ∷ bs) ≡ false
    → passes (flag_word_fault rules false (Some (name_and_value (b ∷ bs))) (45 ∷ 45 ∷ b ∷ bs) h) ≡ false
long_refused b bs h unknown = go (has_byte 61 (b ∷ bs)) refl
  where
    go : (x : Bool) → has_byte 61 (b ∷ bs) ≡ x → passes (flag_word_fault rules false (Some (name_and_value (b ∷ bs))) (45 ∷ 45 ∷ b ∷ bs) h) ≡ false
    go true e = rw e (with_value (before_first (λ x. x == 61) (b ∷ bs)) (after_first (λ x. x == 61) (b ∷ bs)) h)
    go false e = rw e (rw (whole_name (b ∷ bs) e) (no_such (b ∷ bs) h unknown))

-- a text with a byte has a character
no_chars : (b : ℕ) (bs : Text) → IsUtf8 (45 ∷ b ∷ bs) → chars (b ∷ bs) ≡ [] → ⊥
unfolding chars encode_utf8
no_chars b bs utf8 e =
    let same : encode_utf8_all (45 ∷ []) ≡ 45 ∷ b ∷ bs = ap (λ cs. encode_utf8_all (45 ∷ cs)) (sym e) ∙ encodes-chars (45 ∷ b ∷ bs) utf8 in
    let short : 1 ≡ suc (suc (length bs)) = ap length same in
    omega arith

-- `-name`
short_refused : (b : ℕ) (bs : Text) (rows : List Row) (texts : List Text) → IsUtf8 (45 ∷ b ∷ bs)
    → passes (bundle_fault rules false (b ∷ bs) (held_at rows texts)) ≡ false
unfolding flags_fault
short_refused b bs rows texts utf8 = go (chars (b ∷ bs)) refl
  where
    go : (cs : Text) → chars (b ∷ bs) ≡ cs → passes (bundle_fault rules false (b ∷ bs) (held_at rows texts)) ≡ false
    go [] e = absurd (no_chars b bs utf8 e)
    go (c ∷ cs) e = rw e refl

pub refused_first : (a b : Kinds) → passes a ≡ false → passes (or_else a b) ≡ false
refused_first a b h = passes-or_else a b ∙ ap (λ x. x && passes b) h

long_turn : (rows : List Row) (texts : List Text) (waiting : Bool) (b : ℕ) (bs : Text) → is_known (45 ∷ 45 ∷ b ∷ bs) ≡ false
    → passes (turn_fault shape [] (at rows texts waiting false) (45 ∷ 45 ∷ b ∷ bs)) ≡ false
long_turn rows texts true b bs unknown = refused_first _ _ (long_refused b bs (held_at rows texts) unknown)
long_turn rows texts false b bs unknown = refused_first _ _ (long_refused b bs (held_at rows texts) unknown)

short_word_turn : (rows : List Row) (texts : List Text) (waiting : Bool) (text flags : Text) → bytes_eq text (45 ∷ 45 ∷ []) ≡ false
    → long_of text ≡ None → short_of text ≡ Some flags → passes (bundle_fault rules false flags (held_at rows texts)) ≡ false
    → passes (turn_fault shape [] (at rows texts waiting false) text) ≡ false
short_word_turn rows texts true text flags dashes long short h = rw (dashes, long, short) (refused_first _ _ h)
short_word_turn rows texts false text flags dashes long short h = rw (dashes, long, short) (refused_first _ _ h)

short_turn : (rows : List Row) (texts : List Text) (waiting : Bool) (b : ℕ) (bs : Text) → IsUtf8 (45 ∷ b ∷ bs) → (b == 45) ≡ false
    → passes (turn_fault shape [] (at rows texts waiting false) (45 ∷ b ∷ bs)) ≡ false
short_turn rows texts waiting b bs utf8 e =
    let dashes : bytes_eq (45 ∷ b ∷ bs) (45 ∷ 45 ∷ []) ≡ false = rw e refl in
    let long : long_of (45 ∷ b ∷ bs) ≡ None = rw e refl in
    let short : short_of (45 ∷ b ∷ bs) ≡ Some (b ∷ bs) = rw e refl in
    short_word_turn rows texts waiting (45 ∷ b ∷ bs) (b ∷ bs) dashes long short (short_refused b bs rows texts utf8)

double_turn : (rows : List Row) (texts : List Text) (waiting : Bool) (bs : Text)
    → bytes_eq (45 ∷ 45 ∷ bs) (45 ∷ 45 ∷ []) ≡ false → is_known (45 ∷ 45 ∷ bs) ≡ false → passes (turn_fault shape [] (at rows texts waiting false) (45 ∷ 45 ∷ bs)) ≡ false
double_turn rows texts waiting [] dashes unknown = absurd (true≢false dashes)
double_turn rows texts waiting (b ∷ bs) dashes unknown = long_turn rows texts waiting b bs unknown

-- the text begins with a hyphen, and has a next byte
hyphen_turn : (rows : List Row) (texts : List Text) (waiting : Bool) (b : ℕ) (bs : Text) → IsUtf8 (45 ∷ b ∷ bs)
    → bytes_eq (45 ∷ b ∷ bs) (45 ∷ 45 ∷ []) ≡ false → is_known (45 ∷ b ∷ bs) ≡ false → passes (turn_fault shape [] (at rows texts waiting false) (45 ∷ b ∷ bs)) ≡ false
hyphen_turn rows texts waiting b bs utf8 dashes unknown = go (b == 45) refl
  where
    go : (x : Bool) → (b == 45) ≡ x → passes (turn_fault shape [] (at rows texts waiting false) (45 ∷ b ∷ bs)) ≡ false
    go true e =
        let is : b ≡ 45 = (Decides-eqb b 45).0 e in
        subst (λ n. passes (turn_fault shape [] (at rows texts waiting false) (45 ∷ n ∷ bs)) ≡ false) (sym is)
        (double_turn rows texts waiting bs (subst (λ n. bytes_eq (45 ∷ n ∷ bs) (45 ∷ 45 ∷ []) ≡ false) is dashes) (subst (λ n. is_known (45 ∷ n ∷ bs) ≡ false) is unknown))
    go false e = short_turn rows texts waiting b bs utf8 e

pub unknown_turn : (rows : List Row) (texts : List Text) (waiting : Bool) (text : Text) → IsUtf8 text → is_flag text ≡ true
    → bytes_eq text (45 ∷ 45 ∷ []) ≡ false → is_known text ≡ false → passes (turn_fault shape [] (at rows texts waiting false) text) ≡ false
unknown_turn rows texts waiting [] utf8 flag dashes unknown = absurd (true≢false (sym flag))
unknown_turn rows texts waiting (a ∷ []) utf8 flag dashes unknown = absurd (true≢false (sym flag))
unknown_turn rows texts waiting (a ∷ b ∷ bs) utf8 flag dashes unknown =
    let is : a ≡ 45 = (Decides-eqb a 45).0 flag in
    subst (λ n. passes (turn_fault shape [] (at rows texts waiting false) (n ∷ b ∷ bs)) ≡ false) (sym is)
    (hyphen_turn rows texts waiting b bs (subst (λ n. IsUtf8 (n ∷ b ∷ bs)) is utf8)
    (subst (λ n. bytes_eq (n ∷ b ∷ bs) (45 ∷ 45 ∷ []) ≡ false) is dashes) (subst (λ n. is_known (n ∷ b ∷ bs) ≡ false) is unknown))
