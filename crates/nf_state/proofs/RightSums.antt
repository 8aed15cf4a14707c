-- Right checksums stay right, word by word.
use Rattle.std.proofs.Common.{◌≡◌, ◌≢◌, ◌∙◌, sym, ap, subst, refl, ℕ, zero, suc, ◌+◌, ◌-◌, ◌%◌, ◌<◌, ◌≤◌, ◌==◌, if◌then◌else◌, false, List, length, drop, get_or, inl, inr, ◌⊎◌, arith}
use Rattle.std.proofs.lemmas.Bool.{cases_Bool, eq-eqb, eqb-true, true≢false}
use Rattle.std.proofs.lemmas.List.{get_or-drop}
use Rattle.byteorder.specs.Endian.{big_bytes}
use Rattle.onvm_packet.specs.Bytes.{AreBytes, byte, number}
use Rattle.onvm_packet.specs.Checksum.{updated_checksum, words}
use Rattle.onvm_packet.proofs.Kept.{byte-before, length-with_bytes_at, number-behind}
use Rattle.onvm_packet.proofs.Ones.{total, updated_checksum-fits, updated_checksum-keeps}
use Rattle.nf_state.specs.Checksums.{HasSum}
use Rattle.nf_state.specs.Rewriting.{address_word, all_ones_for_zero, port_word, sum_at, updated_segment_checksum, updated_udp_checksum, with_head_sum, with_segment_sum, with_word}
use Rattle.nf_state.specs.Segments.{needed}
use Rattle.nf_state.specs.declared.segment.Segment.{Segment}
use Rattle.nf_state.proofs.WordSums.{bytes-written, number-written, total-inside, twice, window, window-behind, window-front}

-- a total that is a multiple stays one where a word and the sum of all change
end_total : (t0 t1 t2 sum old new made : ℕ) → old + sum ≤ 131070 → t1 + old ≡ t0 + new → t2 + sum ≡ t1 + made
    → (t0 + (131070 - (old + sum)) + (new + made)) % 65535 ≡ 0 → t2 % 65535 ≡ 0
end_total t0 t1 t2 sum old new made room first second multiple = omega arith

start_total : (t0 sum old : ℕ) → old + sum ≤ 131070 → t0 % 65535 ≡ 0
    → (t0 + (131070 - (old + sum)) + (old + sum)) % 65535 ≡ 0
start_total t0 sum old room multiple = omega arith

pub swap_keeps : (t0 t1 t2 sum old new : ℕ) → sum < 65536 → old < 65536 → new < 65536 → t0 % 65535 ≡ 0
    → t1 + old ≡ t0 + new → t2 + sum ≡ t1 + updated_checksum sum old new → t2 % 65535 ≡ 0
swap_keeps t0 t1 t2 sum old new fs fo fn multiple first second =
    let room : old + sum ≤ 131070 = omega arith in
    end_total t0 t1 t2 sum old new (updated_checksum sum old new) room first second
    (updated_checksum-keeps (t0 + (131070 - (old + sum))) sum old new fs fo fn (start_total t0 sum old room multiple))

-- what a segment's checksum becomes, where there is one
record IsMade (protocol sum old new made : ℕ) : Type 0 where
  pub fits : made < 65536
  pub same : (made ≡ updated_checksum sum old new) ⊎ (made ≡ updated_checksum sum old new + 65535)
  pub told : protocol ≡ 17 → made ≢ 0

not_zero : (n : ℕ) → (n == 0) ≡ false → n ≢ 0
not_zero n is zero_is = true≢false (sym (eq-eqb n 0 zero_is) ∙ is)

made_udp : (protocol sum old new : ℕ) → sum ≢ 0
    → IsMade protocol sum old new (updated_udp_checksum sum old new)
made_udp protocol sum old new told = elim (cases_Bool (sum == 0)) [
  | inl none ↦ absurd (told (eqb-true sum 0 none))
  | inr some ↦
      let upd : ℕ = updated_checksum sum old new in
      let whole : updated_udp_checksum sum old new ≡ all_ones_for_zero upd =
      ap (λ b. if b then 0 else all_ones_for_zero upd) some in
      elim (cases_Bool (upd == 0)) [
        | inl nothing ↦
            let is : updated_udp_checksum sum old new ≡ 65535 = whole ∙ ap (λ b. if b then 65535 else upd) nothing in
            record {
              fits = subst (λ n. n < 65536) (sym is) (omega arith);
              same = inr (is ∙ ap (λ n. n + 65535) (sym (eqb-true upd 0 nothing)));
              told = λ udp none. absurd (omega (arith, sym is ∙ none));
            }
        | inr something ↦
            let is : updated_udp_checksum sum old new ≡ upd = whole ∙ ap (λ b. if b then 65535 else upd) something in
            record {
              fits = subst (λ n. n < 65536) (sym is) (updated_checksum-fits sum old new);
              same = inl is;
              told = λ udp none. not_zero upd something (sym is ∙ none);
            }
      ]
]

made_is : (protocol sum old new : ℕ) → (protocol ≡ 17 → sum ≢ 0)
    → IsMade protocol sum old new (updated_segment_checksum protocol sum old new)
made_is protocol sum old new told = elim (cases_Bool (protocol == 17)) [
  | inl udp ↦
      subst (IsMade protocol sum old new)
      (sym (ap (λ b. if b then updated_udp_checksum sum old new else updated_checksum sum old new) udp))
      (made_udp protocol sum old new (told (eqb-true protocol 17 udp)))
  | inr tcp ↦
      subst (IsMade protocol sum old new)
      (sym (ap (λ b. if b then updated_udp_checksum sum old new else updated_checksum sum old new) tcp))
      (record {
        fits = updated_checksum-fits sum old new;
        same = inl refl;
        told = λ udp. absurd (true≢false (sym (eq-eqb protocol 17 udp) ∙ tcp));
      })
]

-- 65535 more makes no difference
more_total : (rest new n : ℕ) → (rest + (new + (n + 65535))) % 65535 ≡ (rest + (new + n)) % 65535
more_total rest new n = omega arith

made_keeps : (protocol t0 t1 t2 sum old new made : ℕ) → IsMade protocol sum old new made → sum < 65536 → old < 65536
    → new < 65536 → t0 % 65535 ≡ 0 → t1 + old ≡ t0 + new → t2 + sum ≡ t1 + made → t2 % 65535 ≡ 0
made_keeps protocol t0 t1 t2 sum old new made is fs fo fn multiple first second =
    let room : old + sum ≤ 131070 = omega arith in
    let kept = updated_checksum-keeps (t0 + (131070 - (old + sum))) sum old new fs fo fn
    (start_total t0 sum old room multiple) in
    elim is.same [
      | inl same ↦
          end_total t0 t1 t2 sum old new made room first second
          (ap (λ n. (t0 + (131070 - (old + sum)) + (new + n)) % 65535) same ∙ kept)
      | inr more ↦
          end_total t0 t1 t2 sum old new made room first second
          (ap (λ n. (t0 + (131070 - (old + sum)) + (new + n)) % 65535) more
          ∙ more_total (t0 + (131070 - (old + sum))) new (updated_checksum sum old new) ∙ kept)
    ]

-- where things stand: the IPv4 header has five words at least, and the bytes that a segment's checksum covers are there
pub record ArePlaced (segment : Segment) (len size : ℕ) : Type 0 where
  pub head : segment.at + 20 ≤ segment.behind
  pub whole : needed segment.protocol ≤ len
  pub inside : segment.behind + len ≤ size

-- the checksum of TCP or UDP stands at an even offset of its head
record IsSumPlace (segment : Segment) (j : ℕ) : Type 0 where
  pub at : sum_at segment ≡ segment.behind + twice j
  pub end : needed segment.protocol ≡ twice j + 2
  pub past : 6 ≤ twice j

sum_place : (segment : Segment) → (j : ℕ) × IsSumPlace segment j
sum_place segment = elim (cases_Bool (segment.protocol == 6)) [
  | inl tcp ↦ (
    8,
    record {
      at = ap (λ b. segment.behind + (if b then 16 else 6)) tcp;
      end = ap (λ b. if b then 18 else 8) tcp;
      past = omega arith;
    },
  )
  | inr udp ↦ (
    3,
    record {
      at = ap (λ b. segment.behind + (if b then 16 else 6)) udp;
      end = ap (λ b. if b then 18 else 8) udp;
      past = omega arith;
    },
  )
]

number-fits : (p : ℕ) (bytes : List ℕ) → AreBytes bytes → number 2 p bytes < 65536
number-fits p bytes are =
    let high : get_or (drop p bytes) 0 0 ≡ byte (p + 0) bytes = get_or-drop p bytes 0 0 in
    let low : get_or (drop p bytes) 1 0 ≡ byte (p + 1) bytes = get_or-drop p bytes 1 0 in
    omega (arith, high, low, are (p + 0), are (p + 1))

abbrev pub head_total : Segment → List ℕ → ℕ
head_total segment bytes = total (words (window segment.at (segment.behind - segment.at) bytes))

abbrev pub covered_total : Segment → ℕ → List ℕ → ℕ
covered_total segment len bytes =
    total (words (window (segment.at + 12) 8 bytes))
    + (segment.protocol + (len + total (words (window segment.behind len bytes))))

-- the checksum of the header is right: its total is a multiple of 65535, and more than 0
pub record IsRightHead (segment : Segment) (size : ℕ) (bytes : List ℕ) : Type 0 where
  pub long : length bytes ≡ size
  pub are : AreBytes bytes
  pub above : 0 < byte segment.at bytes
  pub multiple : head_total segment bytes % 65535 ≡ 0

-- the checksum of TCP or UDP is there, and is right
pub record IsRightSum (segment : Segment) (len size : ℕ) (bytes : List ℕ) : Type 0 where
  pub long : length bytes ≡ size
  pub are : AreBytes bytes
  pub multiple : covered_total segment len bytes % 65535 ≡ 0
  pub told : HasSum segment bytes

covered_more : (a b c d protocol len sum made : ℕ) → a ≡ b → c + sum ≡ d + made
    → a + (protocol + (len + c)) + sum ≡ b + (protocol + (len + d)) + made
covered_more a b c d protocol len sum made same more = omega arith

covered_less : (a b c d e protocol len old new : ℕ) → a ≡ b → c ≡ d → b + old ≡ e + new
    → a + (protocol + (len + c)) + old ≡ e + (protocol + (len + d)) + new
covered_less a b c d e protocol len old new same rest more = omega arith

far_enough : (j : ℕ) → 6 ≤ j → 12 ≤ twice j
far_enough zero le = absurd (omega arith)
far_enough (suc zero) le = absurd (omega arith)
far_enough (suc (suc zero)) le = absurd (omega arith)
far_enough (suc (suc (suc zero))) le = absurd (omega arith)
far_enough (suc (suc (suc (suc zero)))) le = absurd (omega arith)
far_enough (suc (suc (suc (suc (suc zero))))) le = absurd (omega arith)
far_enough (suc (suc (suc (suc (suc (suc j)))))) le = omega arith

module _ (segment : Segment) (len size : ℕ) (placed : ArePlaced segment len size) where
  -- a word of the header behind its checksum, with the checksum
  head_swapped : (p j new : ℕ) (bytes : List ℕ) → p ≡ segment.at + twice j → 6 ≤ j → segment.at + twice j + 2 ≤ segment.behind
      → new < 65536 → IsRightHead segment size bytes
      → IsRightHead segment size (with_head_sum segment.at (number 2 p bytes) new (with_word p new bytes))
  head_swapped p j new bytes is from upto small right =
      let n : ℕ = segment.behind - segment.at in
      let far : 12 ≤ twice j = far_enough j from in
      let one : List ℕ = with_word p new bytes in
      let old : ℕ = number 2 p bytes in
      let sum : ℕ = number 2 (segment.at + 10) one in
      let made : ℕ = updated_checksum sum old new in
      let long_one : length one ≡ size =
      length-with_bytes_at p (big_bytes 2 new) bytes (omega (arith, right.long, placed.inside)) ∙ right.long in
      let are_one = bytes-written p new bytes (omega (arith, right.long, placed.inside)) right.are in
      let fits = updated_checksum-fits sum old new in
      let first = total-inside segment.at n p j new bytes is (omega (arith, placed.head)) (omega (arith, right.long, placed.head, placed.inside)) small in
      let second = total-inside segment.at n (segment.at + 10) 5 made one refl (omega (arith, placed.head)) (omega (arith, long_one, placed.head, placed.inside)) fits in
      record {
        long = length-with_bytes_at (segment.at + 10) (big_bytes 2 made) one (omega (arith, long_one, placed.head, placed.inside)) ∙ long_one;
        are = bytes-written (segment.at + 10) made one (omega (arith, long_one, placed.head, placed.inside)) are_one;
        above =
            let a = byte-before (segment.at + 10) (big_bytes 2 made) one (omega (arith, long_one, placed.head, placed.inside)) segment.at (omega arith) in
            let b = byte-before p (big_bytes 2 new) bytes (omega (arith, right.long, placed.inside)) segment.at (omega (arith, is)) in
            omega (arith, a, b, right.above);
        multiple =
            swap_keeps (head_total segment bytes) (head_total segment one)
            (head_total segment (with_head_sum segment.at old new one)) sum old new (number-fits (segment.at + 10) one are_one)
            (number-fits p bytes right.are) small right.multiple first second;
      }

  -- a word behind the header
  head_past : (q w : ℕ) (bytes : List ℕ) → segment.behind ≤ q → q + 2 ≤ size → IsRightHead segment size bytes
      → IsRightHead segment size (with_word q w bytes)
  head_past q w bytes from upto right =
      let n : ℕ = segment.behind - segment.at in
      record {
        long = length-with_bytes_at q (big_bytes 2 w) bytes (omega (arith, right.long)) ∙ right.long;
        are = bytes-written q w bytes (omega (arith, right.long)) right.are;
        above =
            let a = byte-before q (big_bytes 2 w) bytes (omega (arith, right.long)) segment.at (omega (arith, placed.head)) in
            omega (arith, a, right.above);
        multiple =
            ap (λ x. total (words x) % 65535) (window-front segment.at n q w bytes (omega (arith, placed.head)) (omega (arith, right.long)))
            ∙ right.multiple;
      }

  pub long_enough : 8 ≤ len
  long_enough =
      let place = sum_place segment in
      omega (arith, place.1.end, place.1.past, placed.whole)

  sum_within : (segment.behind ≤ sum_at segment) × (sum_at segment + 2 ≤ segment.behind + len)
  sum_within =
      let place = sum_place segment in
      (omega (arith, place.1.at), omega (arith, place.1.at, place.1.end, placed.whole))

  pub head_address : (p j new : ℕ) (bytes : List ℕ) → p ≡ segment.at + twice j → 6 ≤ j
      → segment.at + twice j + 2 ≤ segment.behind → new < 65536 → IsRightHead segment size bytes
      → IsRightHead segment size (address_word segment p new bytes)
  unfolding address_word
  head_address p j new bytes is from upto small right =
      let old : ℕ = number 2 p bytes in
      let two : List ℕ = with_head_sum segment.at old new (with_word p new bytes) in
      let changed : List ℕ = with_segment_sum segment old new two in
      elim (cases_Bool (old == new)) [
        | inl same ↦ subst (IsRightHead segment size) (sym (ap (λ b. if b then bytes else changed) same)) right
        | inr differ ↦
            subst (IsRightHead segment size) (sym (ap (λ b. if b then bytes else changed) differ))
            (head_past (sum_at segment)
            (updated_segment_checksum segment.protocol (number 2 (sum_at segment) two) old new) two sum_within.0
            (omega (arith, sum_within.1, placed.inside)) (head_swapped p j new bytes is from upto small right))
      ]

  pub head_port : (p new : ℕ) (bytes : List ℕ) → segment.behind ≤ p → p + 2 ≤ size → IsRightHead segment size bytes
      → IsRightHead segment size (port_word segment p new bytes)
  unfolding port_word
  head_port p new bytes from upto right =
      let old : ℕ = number 2 p bytes in
      let one : List ℕ = with_word p new bytes in
      let changed : List ℕ = with_segment_sum segment old new one in
      elim (cases_Bool (old == new)) [
        | inl same ↦ subst (IsRightHead segment size) (sym (ap (λ b. if b then bytes else changed) same)) right
        | inr differ ↦
            subst (IsRightHead segment size) (sym (ap (λ b. if b then bytes else changed) differ))
            (head_past (sum_at segment)
            (updated_segment_checksum segment.protocol (number 2 (sum_at segment) one) old new) one sum_within.0
            (omega (arith, sum_within.1, placed.inside)) (head_past p new bytes from upto right))
      ]

  -- the checksum of TCP or UDP, behind a word that it covers
  sum_swapped : (old new before : ℕ) (two : List ℕ) → length two ≡ size → AreBytes two → HasSum segment two
      → old < 65536 → new < 65536 → before % 65535 ≡ 0 → covered_total segment len two + old ≡ before + new
      → IsRightSum segment len size (with_segment_sum segment old new two)
  sum_swapped old new before two long are told fo fn multiple first =
      let place = sum_place segment in
      let q : ℕ = sum_at segment in
      let sum : ℕ = number 2 q two in
      let made : ℕ = updated_segment_checksum segment.protocol sum old new in
      let is = made_is segment.protocol sum old new told in
      let fits : q + 2 ≤ length two = omega (arith, long, sum_within.1, placed.inside) in
      let ends : twice place.0 + 2 ≤ len = omega (arith, place.1.end, placed.whole) in
      let front = window-front (segment.at + 12) 8 q made two (omega (arith, sum_within.0, placed.head)) fits in
      let addresses : total (words (window (segment.at + 12) 8 (with_word q made two))) ≡ total (words (window (segment.at + 12) 8 two)) =
      ap (λ x. total (words x)) front in
      let inside = total-inside segment.behind len q place.0 made two place.1.at ends (omega (arith, long, placed.inside)) is.fits in
      let read = number-written q made two fits is.fits in
      record {
        long = length-with_bytes_at q (big_bytes 2 made) two fits ∙ long;
        are = bytes-written q made two fits are;
        multiple =
            made_keeps segment.protocol before (covered_total segment len two)
            (covered_total segment len (with_word q made two)) sum old new made is (number-fits q two are) fo fn multiple
            first (covered_more _ _ _ _ segment.protocol len sum made addresses inside);
        told = λ udp none. is.told udp (sym read ∙ none);
      }

  pub sum_address : (p i new : ℕ) (bytes : List ℕ) → p ≡ segment.at + 12 + twice i → twice i + 2 ≤ 8 → new < 65536
      → IsRightSum segment len size bytes → IsRightSum segment len size (address_word segment p new bytes)
  unfolding address_word
  sum_address p i new bytes is within small right =
      let old : ℕ = number 2 p bytes in
      let one : List ℕ = with_word p new bytes in
      let made : ℕ = updated_checksum (number 2 (segment.at + 10) one) old new in
      let two : List ℕ = with_head_sum segment.at old new one in
      let changed : List ℕ = with_segment_sum segment old new two in
      let fits : p + 2 ≤ length bytes = omega (arith, right.long, placed.head, placed.inside) in
      let long_one : length one ≡ size = length-with_bytes_at p (big_bytes 2 new) bytes fits ∙ right.long in
      let are_one = bytes-written p new bytes fits right.are in
      let fits_one : segment.at + 10 + 2 ≤ length one = omega (arith, long_one, placed.head, placed.inside) in
      let long_two : length two ≡ size = length-with_bytes_at (segment.at + 10) (big_bytes 2 made) one fits_one ∙ long_one in
      let are_two = bytes-written (segment.at + 10) made one fits_one are_one in
      let inside = total-inside (segment.at + 12) 8 p i new bytes is within (omega (arith, right.long, placed.head, placed.inside)) small in
      let addresses : total (words (window (segment.at + 12) 8 two)) ≡ total (words (window (segment.at + 12) 8 one)) =
      ap (λ x. total (words x)) (window-behind (segment.at + 12) 8 (segment.at + 10) made one (omega arith) (omega (arith, long_one, placed.head, placed.inside))) in
      let rest : total (words (window segment.behind len two)) ≡ total (words (window segment.behind len bytes)) =
      ap (λ x. total (words x))
      (window-behind segment.behind len (segment.at + 10) made one (omega (arith, placed.head)) (omega (arith, long_one, placed.inside))
      ∙ window-behind segment.behind len p new bytes (omega (arith, is, placed.head)) (omega (arith, right.long, placed.inside))) in
      let read : number 2 (sum_at segment) two ≡ number 2 (sum_at segment) bytes =
      number-behind (segment.at + 10) (big_bytes 2 made) one fits_one 2 (sum_at segment) (omega (arith, placed.head, sum_within.0))
      ∙ number-behind p (big_bytes 2 new) bytes fits 2 (sum_at segment) (omega (arith, is, placed.head, sum_within.0)) in
      elim (cases_Bool (old == new)) [
        | inl same ↦ subst (IsRightSum segment len size) (sym (ap (λ b. if b then bytes else changed) same)) right
        | inr differ ↦
            subst (IsRightSum segment len size) (sym (ap (λ b. if b then bytes else changed) differ))
            (sum_swapped old new (covered_total segment len bytes) two long_two are_two
            (λ udp none. right.told udp (sym read ∙ none)) (number-fits p bytes right.are) small right.multiple
            (covered_less _ _ _ _ _ segment.protocol len old new addresses rest inside))
      ]

  pub sum_port : (p i new : ℕ) (bytes : List ℕ) → p ≡ segment.behind + twice i → twice i + 2 ≤ 4 → new < 65536
      → IsRightSum segment len size bytes → IsRightSum segment len size (port_word segment p new bytes)
  unfolding port_word
  sum_port p i new bytes is within small right =
      let place = sum_place segment in
      let old : ℕ = number 2 p bytes in
      let one : List ℕ = with_word p new bytes in
      let changed : List ℕ = with_segment_sum segment old new one in
      let fits : p + 2 ≤ length bytes = omega (arith, right.long, place.1.at, place.1.past, sum_within.1, placed.inside) in
      let inside = total-inside segment.behind len p i new bytes is (omega (arith, place.1.end, place.1.past, placed.whole)) (omega (arith, right.long, placed.inside)) small in
      let addresses : total (words (window (segment.at + 12) 8 one)) ≡ total (words (window (segment.at + 12) 8 bytes)) =
      ap (λ x. total (words x)) (window-front (segment.at + 12) 8 p new bytes (omega (arith, placed.head)) fits) in
      let read : number 2 (sum_at segment) one ≡ number 2 (sum_at segment) bytes =
      number-behind p (big_bytes 2 new) bytes fits 2 (sum_at segment) (omega (arith, is, place.1.at, place.1.past)) in
      elim (cases_Bool (old == new)) [
        | inl same ↦ subst (IsRightSum segment len size) (sym (ap (λ b. if b then bytes else changed) same)) right
        | inr differ ↦
            subst (IsRightSum segment len size) (sym (ap (λ b. if b then bytes else changed) differ))
            (sum_swapped old new (covered_total segment len bytes) one
            (length-with_bytes_at p (big_bytes 2 new) bytes fits ∙ right.long) (bytes-written p new bytes fits right.are)
            (λ udp none. right.told udp (sym read ∙ none)) (number-fits p bytes right.are) small right.multiple
            (covered_more _ _ _ _ segment.protocol len old new addresses inside))
      ]
