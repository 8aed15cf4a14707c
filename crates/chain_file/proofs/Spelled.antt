-- What a plan's numbers and addresses are spelled as is read as them.
use Rattle.std.proofs.Common.{◌≡◌, ℕ, zero, suc, ◌+◌, ◌*◌, ◌/◌, ◌%◌, ◌^◌, ◌<◌, ◌≤◌, Bool, true, false, not, ◌&&◌, ◌||◌, nat_eq, nat_le, List, [], ◌∷◌, ◌++◌, length, Option, Some, None, option_map, option_and_then, decimal, if◌then◌else◌, All, inl, inr, refl, ap, ◌∙◌, arith, length-append}
use Rattle.std.specs.List.{list_any, list_all}
use Rattle.std.specs.Char.{digit_char}
use Rattle.std.specs.Int.{w128, to_be_bytes, from_be_bytes, byte_at, bytes_high_first}
use Rattle.std.specs.Fmt.{digits}
use Rattle.std.proofs.lemmas.Bool.{cases_eq, ne_eqb}
use Rattle.std.proofs.lemmas.List.Elements.{All-cons, All-nil}
use Rattle.std.proofs.Math.Nat as nat
use Rattle.onvm_base.specs.declared.limits.TheConstants.{IPV4_BITS, IPV6_BITS}
use Rattle.onvm_base.specs.declared.rules.Prefix.{Prefix}
use Rattle.onvm_base.specs.declared.rules.Prefix.TheVariants.{V4, V6}
use Rattle.onvm_base.specs.Plan.{IsPrefix, IsShortPrefix}
use Rattle.chain_file.specs.Widths.{PrefixFits}
use Rattle.chain_file.specs.Spelling.{cut, decimal_of, last_two, last_three, v4_of, v4_with, v6_with, short_prefix_of, byte_of, bytes_of, v6_of, long_prefix_of, else_short, prefix_of, mac_of}
use Rattle.chain_file.specs.Written.{number_to, v4_text, hex_digits, hex_text, prefix_text}
use Rattle.chain_file.proofs.KeptNames.{both_true, at_most}

-- ---- what is tried on each number below a bound

abbrev pub passes_below : (ℕ → Bool) → ℕ → Bool
passes_below test zero = true
passes_below test (suc n) = test n && passes_below test n

pub passes : (test : ℕ → Bool) (bound : ℕ) → passes_below test bound ≡ true → (n : ℕ) → n < bound → test n ≡ true
passes test zero e n less = absurd (omega arith)
passes test (suc bound) e n less =
    let two = both_true (test bound) (passes_below test bound) e in
    elim (cases_eq n bound) [ inl same ↦ rw same two.0 | inr other ↦ passes test bound two.1 n (omega arith) ]

abbrev is_number : Option ℕ → ℕ → Bool
is_number None n = false
is_number (Some m) n = nat_eq m n

same_number : (m n : ℕ) → nat_eq m n ≡ true → m ≡ n
same_number m n e = grind arith

is_number-Some : (o : Option ℕ) (n : ℕ) → is_number o n ≡ true → o ≡ Some n
is_number-Some None n e = absurd (grind arith)
is_number-Some (Some m) n e = ap Some (same_number m n e)

-- the characters of addresses and names
abbrev pub is_letter : ℕ → Bool
is_letter c = (nat_le 45 c && nat_le c 57) || nat_eq c 95 || (nat_le 97 c && nat_le c 122)

abbrev is_short : ℕ → Bool
is_short n = nat_le (length (decimal n)) 3 && list_all is_letter (decimal n)

abbrev is_without : ℕ → ℕ → Bool
is_without mark n = not (list_any (λ c. nat_eq c mark) (decimal n))

read_back_255 : passes_below (λ n. is_number (decimal_of 255 (decimal n)) n) 256 ≡ true
unfolding digits
read_back_255 = refl

read_back_32 : passes_below (λ n. is_number (decimal_of IPV4_BITS (decimal n)) n) 33 ≡ true
unfolding digits
read_back_32 = refl

read_back_128 : passes_below (λ n. is_number (decimal_of IPV6_BITS (decimal n)) n) 129 ≡ true
unfolding digits
read_back_128 = refl

all_short : passes_below is_short 256 ≡ true
unfolding digits
all_short = refl

no_points : passes_below (is_without 46) 256 ≡ true
unfolding digits
no_points = refl

no_slashes : passes_below (is_without 47) 256 ≡ true
unfolding digits
no_slashes = refl

pub decimal_of-decimal : (n : ℕ) → n < 256 → decimal_of 255 (decimal n) ≡ Some n
decimal_of-decimal n less = is_number-Some _ n (passes (λ n. is_number (decimal_of 255 (decimal n)) n) 256 read_back_255 n less)

pub decimal_of-short_bits : (n : ℕ) → n ≤ IPV4_BITS → decimal_of IPV4_BITS (decimal n) ≡ Some n
decimal_of-short_bits n less = is_number-Some _ n (passes (λ n. is_number (decimal_of IPV4_BITS (decimal n)) n) 33 read_back_32 n (omega arith))

pub decimal_of-long_bits : (n : ℕ) → n ≤ IPV6_BITS → decimal_of IPV6_BITS (decimal n) ≡ Some n
decimal_of-long_bits n less = is_number-Some _ n (passes (λ n. is_number (decimal_of IPV6_BITS (decimal n)) n) 129 read_back_128 n (omega arith))

-- ---- where a text is cut

has-append : (mark : ℕ) (xs ys : List ℕ) → list_any (λ c. nat_eq c mark) xs ≡ false → list_any (λ c. nat_eq c mark) ys ≡ false
    → list_any (λ c. nat_eq c mark) (xs ++ ys) ≡ false
has-append mark [] ys e h = h
has-append mark (x ∷ xs) ys e h = by (nat_eq x mark) refl (λ f. has-append mark xs ys f h)
  where
    by : (here : Bool) → nat_eq x mark ≡ here
        → (list_any (λ c. nat_eq c mark) xs ≡ false → list_any (λ c. nat_eq c mark) (xs ++ ys) ≡ false)
        → list_any (λ c. nat_eq c mark) ((x ∷ xs) ++ ys) ≡ false
    by true is rest = let off : true ≡ false = rw is at e in cc
    by false is rest = rw is (rest (rw is at e))

pub cut-append : (mark : ℕ) (xs rest : List ℕ) → list_any (λ c. nat_eq c mark) xs ≡ false → cut mark (xs ++ mark ∷ rest) ≡ Some (xs, rest)
cut-append mark [] rest e = let same : nat_eq mark mark ≡ true = grind arith in rw same refl
cut-append mark (x ∷ xs) rest e = by (nat_eq x mark) refl (cut-append mark xs rest)
  where
    by : (here : Bool) → nat_eq x mark ≡ here
        → (list_any (λ c. nat_eq c mark) xs ≡ false → cut mark (xs ++ mark ∷ rest) ≡ Some (xs, rest))
        → cut mark ((x ∷ xs) ++ mark ∷ rest) ≡ Some (x ∷ xs, rest)
    by true is later = let off : true ≡ false = rw is at e in cc
    by false is later = rw is (ap (option_map (λ p. (x ∷ p.0, p.1))) (later (rw is at e)))

not_not : (b : Bool) → not b ≡ true → b ≡ false
not_not true e = absurd (grind arith)
not_not false e = refl

without : (mark n : ℕ) → passes_below (is_without mark) 256 ≡ true → n < 256 → list_any (λ c. nat_eq c mark) (decimal n) ≡ false
without mark n e less = not_not _ (passes (is_without mark) 256 e n less)

cut-number_to : (n : ℕ) (rest : List ℕ) → n < 256 → cut 46 (number_to 46 n rest) ≡ Some (decimal n, rest)
cut-number_to n rest less = cut-append 46 (decimal n) rest (without 46 n no_points less)

-- ---- IPv4 addresses

record AreBytes (address : ℕ) : Type 0 where
  first : address / 16777216 < 256
  second : address / 65536 % 256 < 256
  third : address / 256 % 256 < 256
  fourth : address % 256 < 256

are_bytes : (address : ℕ) → address < 2 ^ 32 → AreBytes address
are_bytes address less = record { first = omega arith; second = omega arith; third = omega arith; fourth = omega arith }

by_bytes : (n p q r a b c d : ℕ) → n ≡ d + p * 256 → p ≡ c + q * 256 → q ≡ b + r * 256 → r ≡ a
    → 16777216 * a + 65536 * b + 256 * c + d ≡ n
by_bytes n p q r a b c d e f g h = omega arith

byte_and_rest : (n p : ℕ) → n / p ≡ n / p % 256 + n / (p * 256) * 256
byte_and_rest n p = omega (arith, nat.div-div-eq-div-mul n p 256)

pub v4_of-v4_text : (address : ℕ) → address < 2 ^ 32 → v4_of (v4_text address) ≡ Some address
v4_of-v4_text address less =
    let a = address / 16777216 in
    let b = address / 65536 % 256 in
    let c = address / 256 % 256 in
    let d = address % 256 in
    let h = are_bytes address less in
    ap (option_and_then (λ p. last_three p.0 (cut 46 p.1))) (cut-number_to a (number_to 46 b (number_to 46 c (decimal d))) h.first)
    ∙ ap (last_three (decimal a)) (cut-number_to b (number_to 46 c (decimal d)) h.second)
    ∙ ap (last_two (decimal a) (decimal b)) (cut-number_to c (decimal d) h.third)
    ∙ rw (decimal_of-decimal a h.first, decimal_of-decimal b h.second, decimal_of-decimal c h.third, decimal_of-decimal d h.fourth)
    (ap Some (by_bytes address _ _ _ a b c d (omega arith) (byte_and_rest address 256) (byte_and_rest address 65536) refl))

-- ---- IPv4 prefixes

slash_free : (n : ℕ) (rest : List ℕ) → n < 256 → list_any (λ c. nat_eq c 47) rest ≡ false → list_any (λ c. nat_eq c 47) (number_to 46 n rest) ≡ false
slash_free n rest less h = has-append 47 (decimal n) (46 ∷ rest) (without 47 n no_slashes less) h

v4_slash_free : (address : ℕ) → address < 2 ^ 32 → list_any (λ c. nat_eq c 47) (v4_text address) ≡ false
v4_slash_free address less =
    let h = are_bytes address less in
    slash_free _ _ h.first (slash_free _ _ h.second (slash_free _ _ h.third (without 47 _ no_slashes h.fourth)))

pub short_prefix_of-prefix_text : (address bits : ℕ) → address < 2 ^ 32 → bits ≤ IPV4_BITS
    → short_prefix_of (prefix_text (V4 address bits)) ≡ Some (V4 address bits)
short_prefix_of-prefix_text address bits less few =
    ap (option_and_then (λ p. v4_with (v4_of p.0) (decimal_of IPV4_BITS p.1))) (cut-append 47 (v4_text address) (decimal bits) (v4_slash_free address less))
    ∙ rw (v4_of-v4_text address less, decimal_of-short_bits bits few) refl

-- ---- letters

pub all_letters-append : (xs ys : List ℕ) → list_all is_letter xs ≡ true → list_all is_letter ys ≡ true → list_all is_letter (xs ++ ys) ≡ true
all_letters-append [] ys e h = h
all_letters-append (x ∷ xs) ys e h =
    let two = both_true (is_letter x) (list_all is_letter xs) e in
    rw two.0 (all_letters-append xs ys two.1 h)

short : (n : ℕ) → n < 256 → (length (decimal n) ≤ 3) × (list_all is_letter (decimal n) ≡ true)
short n less =
    let two = both_true (nat_le (length (decimal n)) 3) (list_all is_letter (decimal n)) (passes is_short 256 all_short n less) in
    (at_most (length (decimal n)) 3 two.0, two.1)

pub record IsSpelling (most : ℕ) (text : List ℕ) : Type 0 where
  pub few : length text ≤ most
  pub letters : list_all is_letter text ≡ true

pub decimal_spelled : (n : ℕ) → n < 256 → IsSpelling 3 (decimal n)
decimal_spelled n less = let h = short n less in record { few = h.0; letters = h.1 }

number_to_spelled : (mark n most : ℕ) (rest : List ℕ) → is_letter mark ≡ true → n < 256 → IsSpelling most rest → IsSpelling (4 + most) (number_to mark n rest)
number_to_spelled mark n most rest letter less h =
    let d = decimal_spelled n less in
    record {
      few = omega (arith, length-append (decimal n) (mark ∷ rest), d.few, h.few);
      letters = all_letters-append (decimal n) (mark ∷ rest) d.letters (rw letter h.letters);
    }

pub v4_spelled : (address : ℕ) → address < 2 ^ 32 → IsSpelling 15 (v4_text address)
v4_spelled address less =
    let h = are_bytes address less in
    number_to_spelled 46 _ 11 _ refl h.first (number_to_spelled 46 _ 7 _ refl h.second (number_to_spelled 46 _ 3 _ refl h.third (decimal_spelled _ h.fourth)))

-- ---- bytes as hexadecimal digits

abbrev is_pair : ℕ → Bool
is_pair byte = is_number (byte_of (digit_char (byte / 16)) (digit_char (byte % 16))) byte && list_all is_letter (hex_digits byte)
    && not (list_any (λ c. nat_eq c 47) (hex_digits byte))

all_pairs : passes_below is_pair 256 ≡ true
all_pairs = refl

record IsPair (byte : ℕ) : Type 0 where
  read : byte_of (digit_char (byte / 16)) (digit_char (byte % 16)) ≡ Some byte
  letters : list_all is_letter (hex_digits byte) ≡ true
  no_slash : list_any (λ c. nat_eq c 47) (hex_digits byte) ≡ false

pair : (byte : ℕ) → byte < 256 → IsPair byte
pair byte less =
    let reads = is_number (byte_of (digit_char (byte / 16)) (digit_char (byte % 16))) byte in
    let letters = list_all is_letter (hex_digits byte) in
    let slash = list_any (λ c. nat_eq c 47) (hex_digits byte) in
    let two = both_true (reads && letters) (not slash) (passes is_pair 256 all_pairs byte less) in
    let one = both_true reads letters two.0 in
    record { read = is_number-Some _ byte one.0; letters = one.1; no_slash = not_not slash two.1 }

abbrev pub AllBytes : List ℕ → Type 0
AllBytes bytes = All (λ byte. byte < 256) bytes

head_byte : (b : ℕ) (bs : List ℕ) → AllBytes (b ∷ bs) → b < 256
head_byte b bs h = h 0 0 (omega arith)

tail_bytes : (b : ℕ) (bs : List ℕ) → AllBytes (b ∷ bs) → AllBytes bs
tail_bytes b bs h = λ k d less. h (suc k) d (omega arith)

pub bytes_of-hex_text : (bytes : List ℕ) → AllBytes bytes → bytes_of (hex_text bytes) ≡ Some bytes
bytes_of-hex_text [] h = refl
bytes_of-hex_text (b ∷ bs) h =
    rw ((pair b (head_byte b bs h)).read, bytes_of-hex_text bs (tail_bytes b bs h)) refl

hex_length : (bytes : List ℕ) → length (hex_text bytes) ≡ 2 * length bytes
hex_length [] = refl
hex_length (b ∷ bs) = omega (arith, hex_length bs)

hex_letters : (bytes : List ℕ) → AllBytes bytes → list_all is_letter (hex_text bytes) ≡ true
hex_letters [] h = refl
hex_letters (b ∷ bs) h = all_letters-append (hex_digits b) (hex_text bs) (pair b (head_byte b bs h)).letters (hex_letters bs (tail_bytes b bs h))

hex_slash_free : (bytes : List ℕ) → AllBytes bytes → list_any (λ c. nat_eq c 47) (hex_text bytes) ≡ false
hex_slash_free [] h = refl
hex_slash_free (b ∷ bs) h = has-append 47 (hex_digits b) (hex_text bs) (pair b (head_byte b bs h)).no_slash (hex_slash_free bs (tail_bytes b bs h))

pub hex_spelled : (count : ℕ) (bytes : List ℕ) → length bytes ≡ count → AllBytes bytes → IsSpelling (2 * count) (hex_text bytes)
hex_spelled count bytes e h = record { few = omega (arith, hex_length bytes); letters = hex_letters bytes h }

by_length : (text : List ℕ) (n m : ℕ) → length text ≡ m → n ≡ m → (if nat_eq (length text) n then bytes_of text else None) ≡ bytes_of text
by_length text n m e f = let same : nat_eq (length text) n ≡ true = grind arith in rw same refl

pub mac_of-hex_text : (bytes : List ℕ) → length bytes ≡ 6 → AllBytes bytes → mac_of (hex_text bytes) ≡ Some bytes
mac_of-hex_text bytes six h = by_length (hex_text bytes) 12 12 (omega (arith, hex_length bytes)) refl ∙ bytes_of-hex_text bytes h

-- ---- IPv6 addresses

joined_16 : (b0 b1 b2 b3 b4 b5 b6 b7 b8 b9 b10 b11 b12 b13 b14 b15 n n1 n2 n3 n4 n5 n6 n7 n8 n9 n10 n11 n12 n13 n14 n15 : ℕ)
    → n ≡ b0 + n1 * 256 → n1 ≡ b1 + n2 * 256 → n2 ≡ b2 + n3 * 256 → n3 ≡ b3 + n4 * 256 → n4 ≡ b4 + n5 * 256 → n5 ≡ b5 + n6 * 256 → n6 ≡ b6 + n7 * 256 → n7 ≡ b7 + n8 * 256
    → n8 ≡ b8 + n9 * 256 → n9 ≡ b9 + n10 * 256 → n10 ≡ b10 + n11 * 256 → n11 ≡ b11 + n12 * 256 → n12 ≡ b12 + n13 * 256 → n13 ≡ b13 + n14 * 256 → n14 ≡ b14 + n15 * 256 → n15 ≡ b15
    → b15 * 256 ^ 15 + b14 * 256 ^ 14 + b13 * 256 ^ 13 + b12 * 256 ^ 12 + b11 * 256 ^ 11 + b10 * 256 ^ 10 + b9 * 256 ^ 9 + b8 * 256 ^ 8 + b7 * 256 ^ 7 + b6 * 256 ^ 6 + b5 * 256 ^ 5 + b4 * 256 ^ 4 + b3 * 256 ^ 3 + b2 * 256 ^ 2 + b1 * 256 ^ 1 + b0 ≡ n
joined_16 b0 b1 b2 b3 b4 b5 b6 b7 b8 b9 b10 b11 b12 b13 b14 b15 n n1 n2 n3 n4 n5 n6 n7 n8 n9 n10 n11 n12 n13 n14 n15 e0 e1 e2 e3 e4 e5 e6 e7 e8 e9 e10 e11 e12 e13 e14 e15 = omega arith

from_be_bytes-to_be_bytes : (n : ℕ) → n < 2 ^ 128 → from_be_bytes w128 (to_be_bytes w128 n) ≡ n
from_be_bytes-to_be_bytes n fits =
    let low : n ≡ n % 256 + n / 256 * 256 = omega arith in
    let high : n / 256 ^ 15 ≡ n / 256 ^ 15 % 256 = omega arith in
    joined_16 _ _ _ _ _ _ _ _ _ _ _ _ _ _ _ _ n _ _ _ _ _ _ _ _ _ _ _ _ _ _ _ low
    (byte_and_rest n (256 ^ 1)) (byte_and_rest n (256 ^ 2)) (byte_and_rest n (256 ^ 3)) (byte_and_rest n (256 ^ 4)) (byte_and_rest n (256 ^ 5)) (byte_and_rest n (256 ^ 6)) (byte_and_rest n (256 ^ 7))
    (byte_and_rest n (256 ^ 8)) (byte_and_rest n (256 ^ 9)) (byte_and_rest n (256 ^ 10)) (byte_and_rest n (256 ^ 11)) (byte_and_rest n (256 ^ 12)) (byte_and_rest n (256 ^ 13)) (byte_and_rest n (256 ^ 14)) high

byte_at-small : (i n : ℕ) → byte_at i n < 256
byte_at-small zero n = omega arith
byte_at-small (suc i) n = omega arith

high_first-small : (k n : ℕ) → AllBytes (bytes_high_first k n)
high_first-small zero n = All-nil (λ byte. byte < 256)
high_first-small (suc k) n = All-cons (λ byte. byte < 256) (byte_at k n) (bytes_high_first k n) (byte_at-small k n) (high_first-small k n)

v6_of-hex_text : (address : ℕ) → address < 2 ^ 128 → v6_of (hex_text (to_be_bytes w128 address)) ≡ Some address
v6_of-hex_text address less =
    let bytes = to_be_bytes w128 address in
    ap (option_map (from_be_bytes w128))
    (by_length (hex_text bytes) 32 32 (omega (arith, hex_length bytes)) refl ∙ bytes_of-hex_text bytes (high_first-small 16 address))
    ∙ ap Some (from_be_bytes-to_be_bytes address less)

-- ---- prefixes of either version

pub prefix_of-long : (address bits : ℕ) → address < 2 ^ 128 → bits ≤ IPV6_BITS
    → prefix_of (prefix_text (V6 address bits)) ≡ Some (V6 address bits)
prefix_of-long address bits less few =
    let bytes = to_be_bytes w128 address in
    let text = prefix_text (V6 address bits) in
    let parts = cut-append 47 (hex_text bytes) (decimal bits) (hex_slash_free bytes (high_first-small 16 address)) in
    let address_is = v6_of-hex_text address less in
    let bits_are = decimal_of-long_bits bits few in
    let long : long_prefix_of text ≡ Some (V6 address bits) =
    ap (option_and_then (λ p. v6_with (v6_of p.0) (decimal_of IPV6_BITS p.1))) parts
    ∙ ap (λ a. v6_with a (decimal_of IPV6_BITS (decimal bits))) address_is ∙ ap (v6_with (Some address)) bits_are in
    ap (else_short text) long

other_length : (text : List ℕ) → length text < 32 → v6_of text ≡ None
other_length text less = let other : nat_eq (length text) 32 ≡ false = ne_eqb (length text) 32 (λ e. omega arith) in rw other refl

pub prefix_of-short : (address bits : ℕ) → address < 2 ^ 32 → bits ≤ IPV4_BITS
    → prefix_of (prefix_text (V4 address bits)) ≡ Some (V4 address bits)
prefix_of-short address bits less few =
    let text = prefix_text (V4 address bits) in
    let parts = cut-append 47 (v4_text address) (decimal bits) (v4_slash_free address less) in
    let none = other_length (v4_text address) (omega (arith, (v4_spelled address less).few)) in
    ap (else_short text) (ap (option_and_then (λ p. v6_with (v6_of p.0) (decimal_of IPV6_BITS p.1))) parts
    ∙ ap (λ a. v6_with a (decimal_of IPV6_BITS (decimal bits))) none)
    ∙ short_prefix_of-prefix_text address bits less few

with_bits : (text : List ℕ) (bits most : ℕ) → IsSpelling most text → bits < 256 → IsSpelling (4 + most) (text ++ 47 ∷ decimal bits)
with_bits text bits most h less =
    let d = decimal_spelled bits less in
    record {
      few = omega (arith, length-append text (47 ∷ decimal bits), h.few, d.few);
      letters = all_letters-append text (47 ∷ decimal bits) h.letters d.letters;
    }

pub prefix_spelled : (p : Prefix) → IsPrefix p → PrefixFits p → IsSpelling 36 (prefix_text p)
prefix_spelled (V4 address bits) h fits =
    let s = with_bits (v4_text address) bits 15 (v4_spelled address fits) (omega (arith, h.short address bits refl)) in
    record { few = omega (arith, s.few); letters = s.letters }
prefix_spelled (V6 address bits) h fits =
    with_bits (hex_text (to_be_bytes w128 address)) bits 32 (hex_spelled 16 (to_be_bytes w128 address) refl (high_first-small 16 address)) (omega (arith, h.long address bits refl))

pub prefix_of-prefix_text : (p : Prefix) → IsPrefix p → PrefixFits p → prefix_of (prefix_text p) ≡ Some p
prefix_of-prefix_text (V4 address bits) h fits = prefix_of-short address bits fits (h.short address bits refl)
prefix_of-prefix_text (V6 address bits) h fits = prefix_of-long address bits fits (h.long address bits refl)

pub short_of-prefix_text : (p : Prefix) → IsShortPrefix p → PrefixFits p → short_prefix_of (prefix_text p) ≡ Some p
short_of-prefix_text (V4 address bits) h fits = short_prefix_of-prefix_text address bits fits (h.is_prefix.short address bits refl)
short_of-prefix_text (V6 address bits) h fits = absurd (h.is_short address bits refl)
