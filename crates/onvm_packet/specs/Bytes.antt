-- Bytes and numbers by their offset. Numbers stand high byte first, which is the network's order (RFC 791, appendix B).
use Rattle.std.specs.Prelude.{ℕ, ◌<◌, List, drop, slice_index}
use Rattle.byteorder.specs.Endian.{big_number}

abbrev pub byte : ℕ → List ℕ → ℕ
byte at bytes = slice_index bytes at

-- the number of so many bytes at an offset
abbrev pub number : ℕ → ℕ → List ℕ → ℕ
number count at bytes = big_number count (drop at bytes)

-- what a program sees as bytes
abbrev pub AreBytes : List ℕ → Type 0
AreBytes bytes = (at : ℕ) → byte at bytes < 256
