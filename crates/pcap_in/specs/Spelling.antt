-- The four spellings of the classic pcap format: which byte of a number stands first, and what a fraction counts.
use Rattle.std.specs.Prelude.{ℕ, ◌*◌, List, [], ◌∷◌, drop}
use Rattle.byteorder.specs.Endian.{little_number, big_number}
use Rattle.pcap_in.specs.declared.spelling.Endian.{Endian}
use Rattle.pcap_in.specs.declared.spelling.Endian.TheVariants.{Little, Big}
use Rattle.pcap_in.specs.declared.spelling.RecordHead.{RecordHead}
use Rattle.pcap_in.specs.declared.spelling.Unit.{Unit}
use Rattle.pcap_in.specs.declared.spelling.Unit.TheVariants.{Micros, Nanos}

-- how a capture begins: with the number a1b2c3d4 for microseconds and with a1b23c4d for nanoseconds
abbrev pub magic_of : Endian → Unit → List ℕ
magic_of Little Micros = 0xd4 ∷ 0xc3 ∷ 0xb2 ∷ 0xa1 ∷ []
magic_of Big Micros = 0xa1 ∷ 0xb2 ∷ 0xc3 ∷ 0xd4 ∷ []
magic_of Little Nanos = 0x4d ∷ 0x3c ∷ 0xb2 ∷ 0xa1 ∷ []
magic_of Big Nanos = 0xa1 ∷ 0xb2 ∷ 0x3c ∷ 0x4d ∷ []

-- the number of so many bytes at an offset
abbrev pub number : Endian → ℕ → ℕ → List ℕ → ℕ
number Little count at bytes = little_number count (drop at bytes)
number Big count at bytes = big_number count (drop at bytes)

-- the numbers that a record begins with
abbrev pub head_of : Endian → List ℕ → RecordHead
head_of endian bytes = record {
  seconds = number endian 4 0 bytes;
  fraction = number endian 4 4 bytes;
  included = number endian 4 8 bytes;
  original = number endian 4 12 bytes;
}

-- so many fractions make a second
abbrev pub per_second : Unit → ℕ
per_second Micros = 1000000
per_second Nanos = 1000000000

-- a fraction in nanoseconds
abbrev pub in_nanos : Unit → ℕ → ℕ
in_nanos Micros fraction = 1000 * fraction
in_nanos Nanos fraction = fraction
