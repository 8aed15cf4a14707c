-- Addresses and prefixes as a chain file spells them.
use Rattle.std.specs.Prelude.{ℕ, ◌+◌, ◌-◌, ◌*◌, ◌==◌, ◌&&◌, nat_le, if◌then◌else◌, Bool, Option, Some, None, option_map, option_and_then, List, [], ◌∷◌, length}
use Rattle.std.specs.Int.{w128, from_be_bytes}
use Rattle.onvm_base.specs.declared.limits.TheConstants.{IPV4_BITS, IPV6_BITS}
use Rattle.onvm_base.specs.declared.rules.Prefix.{Prefix}
use Rattle.onvm_base.specs.declared.rules.Prefix.TheVariants.{V4, V6}

-- the text before and behind the first of these marks
abbrev pub cut : ℕ → List ℕ → Option (List ℕ × List ℕ)
cut mark [] = None
cut mark (c ∷ cs) = if c == mark then Some ([], cs) else option_map (λ p. (c ∷ p.0, p.1)) (cut mark cs)

abbrev pub is_digit : ℕ → Bool
is_digit c = nat_le 48 c && nat_le c 57

-- a digit with which a number of several digits begins
abbrev pub is_leading : ℕ → Bool
is_leading c = nat_le 49 c && nat_le c 57

abbrev pub up_to : (limit : ℕ) → ℕ → Option ℕ
up_to limit n = if nat_le n limit then Some n else None

abbrev pub one_digit : (limit : ℕ) → ℕ → Option ℕ
one_digit limit a = if is_digit a then up_to limit (a - 48) else None

abbrev pub two_digits : (limit : ℕ) → (a b : ℕ) → Option ℕ
two_digits limit a b = if is_leading a && is_digit b then up_to limit (10 * (a - 48) + (b - 48)) else None

abbrev pub three_digits : (limit : ℕ) → (a b c : ℕ) → Option ℕ
three_digits limit a b c =
    if is_leading a && is_digit b && is_digit c then up_to limit (100 * (a - 48) + 10 * (b - 48) + (c - 48)) else None

-- a decimal number without leading zeros, up to a limit below 1,000
abbrev pub decimal_of : (limit : ℕ) → List ℕ → Option ℕ
decimal_of limit (a ∷ []) = one_digit limit a
decimal_of limit (a ∷ b ∷ []) = two_digits limit a b
decimal_of limit (a ∷ b ∷ c ∷ []) = three_digits limit a b c
decimal_of limit text = None

abbrev pub address_of : (a b c d : Option ℕ) → Option ℕ
address_of (Some a) (Some b) (Some c) (Some d) = Some (16777216 * a + 65536 * b + 256 * c + d)
address_of a b c d = None

abbrev pub last_two : (a b : List ℕ) → Option (List ℕ × List ℕ) → Option ℕ
last_two a b None = None
last_two a b (Some p) = address_of (decimal_of 255 a) (decimal_of 255 b) (decimal_of 255 p.0) (decimal_of 255 p.1)

abbrev pub last_three : (a : List ℕ) → Option (List ℕ × List ℕ) → Option ℕ
last_three a None = None
last_three a (Some p) = last_two a p.0 (cut 46 p.1)

-- four decimal numbers with points between
abbrev pub v4_of : List ℕ → Option ℕ
v4_of text = option_and_then (λ p. last_three p.0 (cut 46 p.1)) (cut 46 text)

abbrev pub v4_with : (address bits : Option ℕ) → Option Prefix
v4_with (Some address) (Some bits) = Some (V4 address bits)
v4_with address bits = None

-- an IPv4 address, a slash and a number of bits
abbrev pub short_prefix_of : List ℕ → Option Prefix
short_prefix_of text = option_and_then (λ p. v4_with (v4_of p.0) (decimal_of IPV4_BITS p.1)) (cut 47 text)

-- a lower-case hexadecimal digit
abbrev pub hex_digit : ℕ → Option ℕ
hex_digit c = if nat_le 48 c && nat_le c 57 then Some (c - 48) else (if nat_le 97 c && nat_le c 102 then Some (c - 87) else None)

abbrev pub joined : (high low : Option ℕ) → Option ℕ
joined (Some high) (Some low) = Some (16 * high + low)
joined high low = None

-- the byte that a pair of digits spells
abbrev pub byte_of : (high low : ℕ) → Option ℕ
byte_of high low = joined (hex_digit high) (hex_digit low)

abbrev pub behind : Option ℕ → Option (List ℕ) → Option (List ℕ)
behind (Some byte) (Some bytes) = Some (byte ∷ bytes)
behind byte bytes = None

-- the bytes that pairs of digits spell
abbrev pub bytes_of : List ℕ → Option (List ℕ)
bytes_of [] = Some []
bytes_of (high ∷ []) = None
bytes_of (high ∷ low ∷ text) = behind (byte_of high low) (bytes_of text)

-- so many digits
abbrev pub bytes_as : ℕ → List ℕ → Option (List ℕ)
bytes_as n text = if length text == n then bytes_of text else None

abbrev pub v6_of : List ℕ → Option ℕ
v6_of text = option_map (from_be_bytes w128) (bytes_as 32 text)

abbrev pub v6_with : (address bits : Option ℕ) → Option Prefix
v6_with (Some address) (Some bits) = Some (V6 address bits)
v6_with address bits = None

-- 32 hexadecimal digits, a slash and a number of bits
abbrev pub long_prefix_of : List ℕ → Option Prefix
long_prefix_of text = option_and_then (λ p. v6_with (v6_of p.0) (decimal_of IPV6_BITS p.1)) (cut 47 text)

abbrev pub else_short : List ℕ → Option Prefix → Option Prefix
else_short text (Some prefix) = Some prefix
else_short text None = short_prefix_of text

-- a prefix of either version
abbrev pub prefix_of : List ℕ → Option Prefix
prefix_of text = else_short text (long_prefix_of text)

-- twelve hexadecimal digits
abbrev pub mac_of : List ℕ → Option (List ℕ)
mac_of text = bytes_as 12 text
