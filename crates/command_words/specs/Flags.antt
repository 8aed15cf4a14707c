-- Flags and other words, mixed.
use Rattle.std.specs.Prelude.{◌==◌, ◌&&◌, ℕ, Bool, true, false, not, if◌then◌else◌, List, [], ◌∷◌, codes}
use Rattle.std.specs.List.{list_any}
use Rattle.std.specs.Str.{bytes_eq}

-- begins with `-`, and is longer than one character
abbrev pub is_flag : List ℕ → Bool
is_flag [] = false
is_flag (byte ∷ []) = false
is_flag (byte ∷ next ∷ bytes) = byte == 45

-- the word `--`
abbrev pub ends_flags : List ℕ → Bool
ends_flags text = bytes_eq text (codes "--")

-- the flags, which stand before the first `--`
abbrev pub flags_of : List (List ℕ) → List (List ℕ)
flags_of [] = []
flags_of (text ∷ texts) =
    if ends_flags text then []
    else (if is_flag text then text ∷ flags_of texts else flags_of texts)

-- the words that are no flags, and all words behind the first `--`
abbrev pub others_of : List (List ℕ) → List (List ℕ)
others_of [] = []
others_of (text ∷ texts) =
    if ends_flags text then texts
    else (if is_flag text then others_of texts else text ∷ others_of texts)

abbrev pub is_known : List ℕ → Bool
is_known text = list_any (bytes_eq text)
    (codes "--serial" ∷ codes "--records" ∷ codes "--throttle-log" ∷ codes "--shares" ∷ [])

-- the flag is among the words
abbrev pub is_given : (flag : List ℕ) → List (List ℕ) → Bool
is_given flag texts = list_any (λ text. bytes_eq text flag) texts

-- each flag is known, and is none of those before it
abbrev pub are_new : (before flags : List (List ℕ)) → Bool
are_new before [] = true
are_new before (flag ∷ flags) = is_known flag && (not (is_given flag before) && are_new (flag ∷ before) flags)
