-- NAT leaves right checksums right.
use Rattle.std.proofs.Common.{◌≡◌, ◌∙◌, sym, ap, subst, refl, ℕ, zero, suc, ◌+◌, ◌-◌, ◌*◌, ◌/◌, ◌%◌, ◌^◌, ◌<◌, ◌≤◌, ◌==◌, ◌||◌, nat_le, if◌then◌else◌, true, Option, Some, None, List, [], ◌∷◌, ◌++◌, length, drop, inl, inr, ◌⊎◌, arith}
use Rattle.std.proofs.lemmas.Bool.{and_parts, cases_Bool, eqb-true, leb-true}
use Rattle.std.proofs.lemmas.List.{get_or-drop, get_or-take}
use Rattle.std.proofs.lemmas.Option.{none-some, same_Some}
use Rattle.onvm_packet.specs.Bytes.{AreBytes, byte, number}
use Rattle.onvm_packet.specs.Checksum.{AreWords, IsRight, ones_sum, words}
use Rattle.onvm_packet.specs.Heads.{has_ports, is_fragment, net_of, ports_at, ports_of, words_at}
use Rattle.onvm_packet.specs.Within.{IsWithin}
use Rattle.onvm_packet.specs.declared.heads.Net.{Net}
use Rattle.onvm_packet.specs.declared.heads.Net.TheVariants as net
use Rattle.onvm_packet.proofs.Header.{words-fit}
use Rattle.onvm_packet.proofs.Ones.{all_ones, folded-multiple, ones_sum-folded, total}
use Rattle.onvm_packet.proofs.TtlChecksum.{AreBytes-drop, AreBytes-take}
use Rattle.onvm_packet.proofs.Within.{net_within}
use Rattle.nf_state.specs.Checksums.{HasSum, IsRightSegment, covered_of, head_of}
use Rattle.nf_state.specs.Rewriting.{address_word, rewritten, with_source, with_target}
use Rattle.nf_state.specs.Segments.{is_whole, needed, segment_by, segment_of}
use Rattle.nf_state.specs.declared.segment.Segment.{Segment}
use Rattle.nf_state.proofs.RightSums.{ArePlaced, IsRightHead, IsRightSum, covered_total, head_address, head_port, long_enough, sum_address, sum_port}
use Rattle.nf_state.proofs.WordSums.{twice, window}

-- what a segment that was read says of itself
record IsRead (segment : Segment) (bytes : List ℕ) : Type 0 where
  pub head : segment.at + 20 ≤ segment.behind
  pub above : 0 < byte segment.at bytes
  pub protocol : (segment.protocol ≡ 6) ⊎ (segment.protocol ≡ 17)

with_ports : (protocol at : ℕ) (bytes : List ℕ) (ports : ℕ × ℕ) → ports_at protocol at bytes ≡ Some ports
    → (protocol ≡ 6) ⊎ (protocol ≡ 17)
with_ports protocol at bytes ports is = elim (cases_Bool (has_ports protocol at bytes)) [
  | inl has ↦
      let known = (and_parts ((protocol == 6) || (protocol == 17)) (nat_le (at + 4) (length bytes)) has).0 in
      elim (cases_Bool (protocol == 6)) [
        | inl tcp ↦ inl (eqb-true protocol 6 tcp)
        | inr other ↦ inr (eqb-true protocol 17 (sym (ap (λ b. b || (protocol == 17)) other) ∙ known))
      ]
  | inr none ↦ absurd (none-some ports (sym (ap (λ b. if b then Some (number 2 at bytes, number 2 (at + 2) bytes) else None) none) ∙ is))
]

read_by : (n : Net) (bytes : List ℕ) (segment : Segment) (o : Option (ℕ × ℕ)) → IsWithin n bytes → ports_of n bytes ≡ o
    → segment_by n o bytes ≡ Some segment → IsRead segment bytes
read_by net.None bytes segment o within ports is = absurd (none-some segment is)
read_by (net.V6 at source target next hops) bytes segment o within ports is = absurd (none-some segment is)
read_by (net.V4 at source target protocol ttl) bytes segment None within ports is = absurd (none-some segment is)
read_by (net.V4 at source target protocol ttl) bytes segment (Some pair) within ports is =
    let same = same_Some _ segment is in
    let begins = ap (λ (s : Segment). s.at) same in
    let ends = ap (λ (s : Segment). s.behind) same in
    let protocol_is = ap (λ (s : Segment). s.protocol) same in
    let first : byte at bytes ≡ byte segment.at bytes = ap (λ n. byte n bytes) begins in
    record {
      head = omega (arith, within.least, begins, ends);
      above = omega (arith, within.version, first);
      protocol = subst (λ n. (n ≡ 6) ⊎ (n ≡ 17)) protocol_is (elim (cases_Bool (is_fragment at bytes)) [
        | inl part ↦ absurd (none-some pair (sym (ap (λ b. if b then None else ports_at protocol (at + 4 * words_at at bytes) bytes) part) ∙ ports))
        | inr whole ↦
            with_ports protocol (at + 4 * words_at at bytes) bytes pair
            (sym (ap (λ b. if b then None else ports_at protocol (at + 4 * words_at at bytes) bytes) whole) ∙ ports)
      ]);
    }

is_read : (bytes : List ℕ) (segment : Segment) → segment_of bytes ≡ Some segment → IsRead segment bytes
is_read bytes segment is = read_by (net_of bytes) bytes segment (ports_of (net_of bytes) bytes) (net_within bytes) refl is

-- sums of words

AreWords-append : (xs ys : List ℕ) → AreWords xs → AreWords ys → AreWords (xs ++ ys)
AreWords-append [] ys first second = second
AreWords-append (x ∷ xs) ys first second = (first.0, AreWords-append xs ys first.1 second)

total-append : (xs ys : List ℕ) → total (xs ++ ys) ≡ total xs + total ys
total-append [] ys = omega arith
total-append (x ∷ xs) ys = omega (arith, total-append xs ys)

multiple_of : (ws : List ℕ) → AreWords ws → ones_sum ws ≡ 65535 → total ws % 65535 ≡ 0
multiple_of ws fit right = (all_ones (total ws) (sym (ones_sum-folded ws fit) ∙ right)).1

right_of : (ws : List ℕ) → AreWords ws → 0 < total ws → total ws % 65535 ≡ 0 → ones_sum ws ≡ 65535
right_of ws fit above multiple = ones_sum-folded ws fit ∙ folded-multiple (total ws) above multiple

window-fit : (from len : ℕ) (bytes : List ℕ) → AreBytes bytes → AreWords (words (window from len bytes))
window-fit from len bytes are = words-fit (window from len bytes) (AreBytes-take len (drop from bytes) (AreBytes-drop from bytes are))

above_first : (bytes : List ℕ) → 0 < byte 0 bytes → 0 < total (words bytes)
above_first [] above = absurd (omega arith)
above_first (h ∷ []) above = omega arith
above_first (h ∷ l ∷ rest) above = omega arith

above_protocol : (a protocol rest whole : ℕ) → 0 < protocol → whole ≡ a + (protocol + rest) → 0 < whole
above_protocol a protocol rest whole some is = omega arith

twice_is : (j : ℕ) → twice j ≡ 2 * j
twice_is zero = omega arith
twice_is (suc j) = omega (arith, twice_is j)

module _ (segment : Segment) (len size : ℕ) (placed : ArePlaced segment len size) (address port : ℕ)
    (small_address : address < 4294967296) (small_port : port < 65536) where
  high : address / 65536 < 65536
  high = omega arith

  low : address % 65536 < 65536
  low = omega arith

  head_rewritten : (j address_at port_at : ℕ) (bytes : List ℕ) → 6 ≤ j → j ≤ 8 → address_at ≡ segment.at + twice j
      → segment.behind ≤ port_at → port_at + 2 ≤ size → IsRightHead segment size bytes
      → IsRightHead segment size (rewritten segment address_at port_at address port bytes)
  head_rewritten j address_at port_at bytes from upto is behind within right =
      let first = head_address segment len size placed address_at j (address / 65536) bytes is from
      (omega (arith, placed.head, twice_is j)) high right in
      let second = head_address segment len size placed (address_at + 2) (suc j) (address % 65536)
      (address_word segment address_at (address / 65536) bytes) (omega (arith, is)) (omega arith)
      (omega (arith, placed.head, twice_is j)) low first in
      head_port segment len size placed port_at port
      (address_word segment (address_at + 2) (address % 65536) (address_word segment address_at (address / 65536) bytes))
      behind within second

  sum_rewritten : (i k address_at port_at : ℕ) (bytes : List ℕ) → i ≤ 2 → k ≤ 1
      → address_at ≡ segment.at + 12 + twice i → port_at ≡ segment.behind + twice k → IsRightSum segment len size bytes
      → IsRightSum segment len size (rewritten segment address_at port_at address port bytes)
  sum_rewritten i k address_at port_at bytes few one is at right =
      let first = sum_address segment len size placed address_at i (address / 65536) bytes is
      (omega (arith, twice_is i)) high right in
      let second = sum_address segment len size placed (address_at + 2) (suc i) (address % 65536)
      (address_word segment address_at (address / 65536) bytes) (omega (arith, is)) (omega (arith, twice_is i)) low first in
      sum_port segment len size placed port_at k port
      (address_word segment (address_at + 2) (address % 65536) (address_word segment address_at (address / 65536) bytes))
      at (omega (arith, twice_is k)) small_port second

  head_back : (bytes : List ℕ) → IsRightHead segment size bytes → IsRight (head_of segment bytes)
  head_back bytes right =
      let n : ℕ = segment.behind - segment.at in
      let first : byte 0 (head_of segment bytes) ≡ byte segment.at bytes =
      get_or-take n (drop segment.at bytes) 0 0 (omega (arith, placed.head)) ∙ get_or-drop segment.at bytes 0 0
      ∙ ap (λ k. byte k bytes) (omega arith) in
      right_of (words (head_of segment bytes)) (window-fit segment.at n bytes right.are)
      (above_first (head_of segment bytes) (omega (arith, first, right.above))) right.multiple

  pub heads_stay : (bytes : List ℕ) → IsRightHead segment size bytes
      → IsRight (head_of segment (with_source segment address port bytes))
      × IsRight (head_of segment (with_target segment address port bytes))
  heads_stay bytes right = (
    head_back (with_source segment address port bytes)
        (head_rewritten 6 (segment.at + 12) segment.behind bytes (omega arith) (omega arith) refl (omega arith)
        (omega (arith, long_enough segment len size placed, placed.inside)) right),
    head_back (with_target segment address port bytes)
        (head_rewritten 8 (segment.at + 16) (segment.behind + 2) bytes (omega arith) (omega arith) refl (omega arith)
        (omega (arith, long_enough segment len size placed, placed.inside)) right),
  )

  module _ (small_len : len < 65536) (some : 0 < segment.protocol) (small_protocol : segment.protocol < 65536) where
    covered-fit : (bytes : List ℕ) → AreBytes bytes → AreWords (covered_of segment len bytes)
    covered-fit bytes are =
        AreWords-append (words (window (segment.at + 12) 8 bytes))
        (segment.protocol ∷ len ∷ words (window segment.behind len bytes)) (window-fit (segment.at + 12) 8 bytes are)
        (small_protocol, (small_len, window-fit segment.behind len bytes are))

    covered-total : (bytes : List ℕ) → total (covered_of segment len bytes) ≡ covered_total segment len bytes
    covered-total bytes =
        total-append (words (window (segment.at + 12) 8 bytes))
        (segment.protocol ∷ len ∷ words (window segment.behind len bytes))

    sum_back : (bytes : List ℕ) → IsRightSum segment len size bytes → IsRightSegment segment len bytes
    sum_back bytes right =
        let same = covered-total bytes in
        right_of (covered_of segment len bytes) (covered-fit bytes right.are)
        (above_protocol (total (words (window (segment.at + 12) 8 bytes))) segment.protocol
        (len + total (words (window segment.behind len bytes))) (total (covered_of segment len bytes)) some same)
        (ap (λ n. n % 65535) same ∙ right.multiple)

    sum_there : (bytes : List ℕ) → length bytes ≡ size → AreBytes bytes → HasSum segment bytes
        → IsRightSegment segment len bytes → IsRightSum segment len size bytes
    sum_there bytes long are told right =
        record {
          long = long;
          are = are;
          multiple =
              ap (λ n. n % 65535) (sym (covered-total bytes))
              ∙ multiple_of (covered_of segment len bytes) (covered-fit bytes are) right;
          told = told;
        }

    pub sums_stay : (bytes : List ℕ) → length bytes ≡ size → AreBytes bytes → HasSum segment bytes
        → IsRightSegment segment len bytes
        → IsRightSegment segment len (with_source segment address port bytes)
        × IsRightSegment segment len (with_target segment address port bytes)
    sums_stay bytes long are told right =
        let there = sum_there bytes long are told right in (
          sum_back (with_source segment address port bytes)
              (sum_rewritten 0 0 (segment.at + 12) segment.behind bytes (omega arith) (omega arith) (omega arith)
              (omega arith) there),
          sum_back (with_target segment address port bytes)
              (sum_rewritten 2 1 (segment.at + 16) (segment.behind + 2) bytes (omega arith) (omega arith) (omega arith)
              (omega arith) there),
        )

protocol_fits : (protocol : ℕ) → (protocol ≡ 6) ⊎ (protocol ≡ 17) → (0 < protocol) × (protocol < 65536)
protocol_fits protocol (inl is) = (omega arith, omega arith)
protocol_fits protocol (inr is) = (omega arith, omega arith)

pub right_heads_stay : (bytes : List ℕ) (segment : Segment) (address port : ℕ) → segment_of bytes ≡ Some segment
    → is_whole segment bytes ≡ true → AreBytes bytes → address < 2 ^ 32 → port < 2 ^ 16
    → IsRight (head_of segment bytes)
    → IsRight (head_of segment (with_source segment address port bytes))
    × IsRight (head_of segment (with_target segment address port bytes))
right_heads_stay bytes segment address port is whole are fa fp right =
    let read = is_read bytes segment is in
    let placed : ArePlaced segment (needed segment.protocol) (length bytes) =
    record {
      head = read.head;
      whole = omega arith;
      inside = leb-true (segment.behind + needed segment.protocol) (length bytes) whole;
    } in
    heads_stay segment (needed segment.protocol) (length bytes) placed address port fa fp bytes
    (record {
      long = refl;
      are = are;
      above = read.above;
      multiple =
          multiple_of (words (head_of segment bytes))
          (window-fit segment.at (segment.behind - segment.at) bytes are) right;
    })

pub right_sums_stay : (bytes : List ℕ) (segment : Segment) (len address port : ℕ) → segment_of bytes ≡ Some segment
    → AreBytes bytes → needed segment.protocol ≤ len → segment.behind + len ≤ length bytes → len < 2 ^ 16
    → address < 2 ^ 32 → port < 2 ^ 16 → HasSum segment bytes → IsRightSegment segment len bytes
    → IsRightSegment segment len (with_source segment address port bytes)
    × IsRightSegment segment len (with_target segment address port bytes)
right_sums_stay bytes segment len address port is are covers inside fl fa fp told right =
    let read = is_read bytes segment is in
    let fits = protocol_fits segment.protocol read.protocol in
    sums_stay segment len (length bytes) (record { head = read.head; whole = covers; inside = inside }) address port fa fp
    fl fits.0 fits.1 bytes refl are told right
