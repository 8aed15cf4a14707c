-- The Internet checksum (RFC 1071), and its update where a word changes (RFC 1624).
use Rattle.std.specs.Prelude.{◌≡◌, ℕ, ◌+◌, ◌-◌, ◌*◌, ◌/◌, ◌%◌, ◌<◌, List, [], ◌∷◌}
use Rattle.std.specs.List.{AllByRecursion}

-- the words of 16 bits, the first byte high. A last byte that is alone has a 0 behind it
abbrev pub words : List ℕ → List ℕ
words [] = []
words (high ∷ []) = (high * 256) ∷ []
words (high ∷ low ∷ bytes) = (high * 256 + low) ∷ words bytes

abbrev pub AreWords : List ℕ → Type 0
AreWords words = AllByRecursion (λ word. word < 65536) words

-- in one's complement a carry out of the highest bit comes in at the lowest
abbrev pub ones_plus : ℕ → ℕ → ℕ
ones_plus a b = (a + b) % 65536 + (a + b) / 65536

abbrev pub ones_sum : List ℕ → ℕ
ones_sum [] = 0
ones_sum (word ∷ rest) = ones_plus word (ones_sum rest)

abbrev pub complement : ℕ → ℕ
complement word = 65535 - word

-- RFC 1071, 1: the sum of a header, its checksum included, is all ones
abbrev pub IsRight : List ℕ → Type 0
IsRight header = ones_sum (words header) ≡ 0xffff

-- RFC 1624, 3: HC' = ~(~HC + ~m + m')
abbrev pub updated_checksum : ℕ → ℕ → ℕ → ℕ
updated_checksum sum old new = complement (ones_plus (ones_plus (complement sum) (complement old)) new)
