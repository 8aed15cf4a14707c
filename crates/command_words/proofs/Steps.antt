-- What one word does to the walk, and whether it is refused.
use Rattle.std.proofs.Common.{◌≡◌, ◌==◌, ◌&&◌, Bool, true, false, refl, List, [], ◌∷◌, ◌++◌, Option, Some, None, codes}
use Rattle.std.specs.Str.{bytes_eq}
use Rattle.clap.specs.Lexer.{long_of, short_of}
use Rattle.clap.specs.Walk.{Held, Row, Rule, Text, Waiting, idle, positional, Walk, settled_rows, used, walked}
use Rattle.clap.specs.Simple.{Shape, built, filled, with_index}
use Rattle.clap.specs.Kinds.{Kinds, or_else}
use Rattle.command_words.specs.Asked.{asked, flag_rule}
use Rattle.command_words.specs.Flags.{is_flag}

abbrev pub shape : Shape
shape = (built asked).top

abbrev pub rules : List Rule
rules = shape.rules

pub data Flag : Type 0 where
  serial : Flag
  records : Flag
  throttle_log : Flag
  shares : Flag

abbrev pub name_of : Flag → Text
name_of serial = codes "serial"
name_of records = codes "records"
name_of throttle_log = codes "throttle-log"
name_of shares = codes "shares"

-- the flag as a word
abbrev pub text_of : Flag → Text
text_of flag = 45 ∷ 45 ∷ name_of flag

abbrev pub rule_for : Flag → Rule
rule_for flag = with_index 1 (filled (flag_rule (name_of flag)))

-- the words since the last flag
abbrev pub pend : List Text → Option (Text × List Text)
pend [] = None
pend (text ∷ texts) = Some (codes "word", text ∷ texts)

abbrev pub waits : Bool → Waiting
waits true = positional
waits false = idle

-- the walk between two words
abbrev pub at : List Row → List Text → Bool → Bool → Walk
at rows texts waiting trailing = record {
  held = record { rows = rows; pending = pend texts; skip = 0 };
  waiting = waits waiting;
  position = 1;
  is_trailing = trailing;
  stopped = None;
}

abbrev pub held_at : List Row → List Text → Held
held_at rows texts = record { rows = rows; pending = pend texts; skip = 0 }

abbrev pub passes : Kinds → Bool
passes [] = true
passes (kind ∷ kinds) = false

pub passes-or_else : (a b : Kinds) → passes (or_else a b) ≡ (passes a && passes b)
passes-or_else [] b = refl
passes-or_else (k ∷ ks) b = refl

-- ---- a word that is no flag

pub record IsPlain (text : Text) : Type 0 where
  pub dashes : bytes_eq text (45 ∷ 45 ∷ []) ≡ false
  pub long : long_of text ≡ None
  pub short : short_of text ≡ None

pub plain : (text : Text) → is_flag text ≡ false → IsPlain text
plain [] e = record { dashes = refl; long = refl; short = refl }
plain (b ∷ []) e = go (b == 45) refl
  where
    go : (x : Bool) → (b == 45) ≡ x → IsPlain (b ∷ [])
    go true is = record { dashes = rw is refl; long = rw is refl; short = rw is refl }
    go false is = record { dashes = rw is refl; long = rw is refl; short = rw is refl }
plain (b ∷ n ∷ bs) e = record { dashes = rw e refl; long = rw e refl; short = rw e refl }

pub walked-trailing : (rows : List Row) (texts : List Text) (waiting : Bool) (text : Text)
    → walked rules [] (at rows texts waiting true) text ≡ at rows (texts ++ text ∷ []) true true
unfolding walked
walked-trailing rows [] true text = refl
walked-trailing rows [] false text = refl
walked-trailing rows (t ∷ ts) true text = refl
walked-trailing rows (t ∷ ts) false text = refl

pub walked-plain : (rows : List Row) (texts : List Text) (waiting : Bool) (text : Text) → IsPlain text
    → walked rules [] (at rows texts waiting false) text ≡ at rows (texts ++ text ∷ []) true false
unfolding walked
walked-plain rows [] true text h = rw (h.dashes, h.long, h.short) refl
walked-plain rows [] false text h = rw (h.dashes, h.long, h.short) refl
walked-plain rows (t ∷ ts) true text h = rw (h.dashes, h.long, h.short) refl
walked-plain rows (t ∷ ts) false text h = rw (h.dashes, h.long, h.short) refl

pub walked-dashes : (rows : List Row) (texts : List Text) (waiting : Bool) (text : Text) → bytes_eq text (45 ∷ 45 ∷ []) ≡ true
    → walked rules [] (at rows texts waiting false) text ≡ at rows texts waiting true
unfolding walked
walked-dashes rows texts true text h = rw h refl
walked-dashes rows texts false text h = rw h refl

pub walked-flag : (flag : Flag) (rows : List Row) (texts : List Text) (waiting : Bool)
    → walked rules [] (at rows texts waiting false) (text_of flag) ≡ at (used (rule_for flag) [] (settled_rows rules (pend texts) rows)) [] false false
unfolding walked
walked-flag serial rows texts true = refl
walked-flag serial rows texts false = refl
walked-flag records rows texts true = refl
walked-flag records rows texts false = refl
walked-flag throttle_log rows texts true = refl
walked-flag throttle_log rows texts false = refl
walked-flag shares rows texts true = refl
walked-flag shares rows texts false = refl
