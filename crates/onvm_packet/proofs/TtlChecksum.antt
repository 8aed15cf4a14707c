-- With another TTL a right checksum stays right.
use Rattle.std.proofs.Common.{◌≡◌, ◌∙◌, sym, ap, subst, ℕ, ◌+◌, ◌-◌, ◌*◌, ◌%◌, ◌<◌, ◌≤◌, List, ◌∷◌, length, take, drop, get_or, true, inl, inr, arith}
use Rattle.std.proofs.lemmas.Bool.{cases_Bool, cases_lt}
use Rattle.std.proofs.lemmas.List.{get_or-drop, get_or-take, get_or_past, length-drop, length-take, length-take-le, drop-drop}
use Rattle.byteorder.specs.Endian.{big_bytes}
use Rattle.onvm_packet.specs.Bytes.{AreBytes, byte, number}
use Rattle.onvm_packet.specs.Checksum.{IsRight, updated_checksum}
use Rattle.onvm_packet.specs.Edits.{with_bytes_at, with_ttl}
use Rattle.onvm_packet.specs.Heads.{words_at}
use Rattle.onvm_packet.specs.Within.{IsRightBehind, HasRightChecksum, header_at}
use Rattle.onvm_packet.specs.declared.heads.Net.{Net}
use Rattle.onvm_packet.proofs.Header.{right_stays, ttl_bytes}
use Rattle.onvm_packet.proofs.Kept.{big_from-same, drop-with_bytes_at, take-with_bytes_at}
use Rattle.onvm_packet.proofs.TtlHeads.{first-ipv4, found-within, found_ipv4, found_ipv6, net-ipv4, net-ipv6, net_of-ipv4, net_place, new_ipv4, new_ipv6, over_ipv4, with_ttl-ipv4, with_ttl-ipv6, with_ttl-none}

-- the front of some bytes is bytes
pub AreBytes-take : (n : ℕ) (bytes : List ℕ) → AreBytes bytes → AreBytes (take n bytes)
AreBytes-take n bytes are at = elim (cases_lt at n) [
  | inl inside ↦ let e : get_or (take n bytes) at 0 ≡ get_or bytes at 0 = get_or-take n bytes at 0 inside in omega (arith, e, are at)
  | inr past ↦
      elim (cases_lt at (length (take n bytes))) [
        | inl there ↦ let e : length (take n bytes) ≤ n = omega (arith, length-take n bytes) in absurd (omega (arith, e))
        | inr none ↦ let e : get_or (take n bytes) at 0 ≡ 0 = get_or_past (take n bytes) at 0 none in omega (arith, e)
      ]
]

pub AreBytes-drop : (n : ℕ) (bytes : List ℕ) → AreBytes bytes → AreBytes (drop n bytes)
AreBytes-drop n bytes are at =
    let e : get_or (drop n bytes) at 0 ≡ get_or bytes (n + at) 0 = get_or-drop n bytes at 0 in
    omega (arith, e, are (n + at))

-- a number in the header, by its offset in the frame
number-header : (count k at n : ℕ) (bytes : List ℕ) → k + count ≤ n → number count k (take n (drop at bytes)) ≡ number count (at + k) bytes
number-header count k at n bytes inside =
    big_from-same count 0 (drop k (take n (drop at bytes))) (drop (at + k) bytes)
    (λ i l.
    get_or-drop k (take n (drop at bytes)) i 0 ∙ get_or-take n (drop at bytes) (k + i) 0 (omega arith)
    ∙ sym (get_or-drop k (drop at bytes) i 0) ∙ ap (λ (t : List ℕ). get_or t i 0) (drop-drop k at bytes))

module _ (bytes : List ℕ) (ttl : ℕ) (are : AreBytes bytes) (fits : ttl < 256) (found : found_ipv4 bytes ≡ true) where
  header-new : header_at (net_place bytes) (new_ipv4 ttl bytes) ≡ with_bytes_at 8 (over_ipv4 ttl bytes) (header_at (net_place bytes) bytes)
  header-new =
      let within = found-within bytes ttl found in
      let rest : List ℕ = drop (net_place bytes) bytes in
      let room : length rest ≡ length bytes - net_place bytes = length-drop (net_place bytes) bytes in
      ap (λ (n : ℕ). take (4 * (n % 16)) (drop (net_place bytes) (new_ipv4 ttl bytes))) (first-ipv4 bytes ttl found)
      ∙ ap (take (4 * words_at (net_place bytes) bytes)) (drop-with_bytes_at (net_place bytes) 8 (over_ipv4 ttl bytes) bytes (omega (arith, within.least, within.whole)))
      ∙ take-with_bytes_at 8 (over_ipv4 ttl bytes) rest (omega (arith, within.least, within.whole, room)) (4 * words_at (net_place bytes) bytes) (omega (arith, within.least))

  over-header : over_ipv4 ttl bytes ≡ ttl_bytes ttl (byte (net_place bytes + 9) bytes) (header_at (net_place bytes) bytes)
  over-header =
      let within = found-within bytes ttl found in
      let protocol : ℕ = byte (net_place bytes + 9) bytes in
      let made : ℕ → ℕ → List ℕ = λ sum old. ttl ∷ protocol ∷ big_bytes 2 (updated_checksum sum old (ttl * 256 + protocol)) in
      let sum = number-header 2 10 (net_place bytes) (4 * words_at (net_place bytes) bytes) bytes (omega (arith, within.least)) in
      let old = number-header 2 8 (net_place bytes) (4 * words_at (net_place bytes) bytes) bytes (omega (arith, within.least)) in
      ap (λ (n : ℕ). made n (number 2 (net_place bytes + 8) bytes)) (sym sum)
      ∙ ap (made (number 2 10 (header_at (net_place bytes) bytes))) (sym old)

  right-ipv4 : IsRight (header_at (net_place bytes) bytes) → IsRight (header_at (net_place bytes) (new_ipv4 ttl bytes))
  right-ipv4 right =
      let within = found-within bytes ttl found in
      let header : List ℕ = header_at (net_place bytes) bytes in
      let size : ℕ = 4 * words_at (net_place bytes) bytes in
      let rest : List ℕ = drop (net_place bytes) bytes in
      let room : length rest ≡ length bytes - net_place bytes = length-drop (net_place bytes) bytes in
      let long : length header ≡ size = length-take-le size rest (omega (arith, within.whole, room)) in
      let first : byte 0 header ≡ byte (net_place bytes) bytes =
      get_or-take size rest 0 0 (omega (arith, within.least)) ∙ get_or-drop (net_place bytes) bytes 0 0
      ∙ ap (λ (n : ℕ). byte n bytes) (omega arith) in
      let stays = right_stays header ttl (byte (net_place bytes + 9) bytes) (omega (arith, long, within.least))
      (AreBytes-take size rest (AreBytes-drop (net_place bytes) bytes are)) fits (are (net_place bytes + 9))
      (omega (arith, first, within.version)) right in
      let P : List ℕ → Type 0 = λ h. IsRight h in
      subst P (ap (λ (over : List ℕ). with_bytes_at 8 over header) (sym over-header) ∙ sym header-new) stays

  pub stays-ipv4 : HasRightChecksum bytes → HasRightChecksum (with_ttl ttl bytes)
  stays-ipv4 right =
      let old : Net → Type 0 = λ n. IsRightBehind n bytes in
      let new : Net → Type 0 = λ n. IsRightBehind n (new_ipv4 ttl bytes) in
      let all : List ℕ → Type 0 = HasRightChecksum in
      subst all (sym (with_ttl-ipv4 bytes ttl found))
      (subst new (sym (net-ipv4 bytes ttl found)) (right-ipv4 (subst old (net_of-ipv4 bytes ttl found) right)))

pub right-with_ttl : (bytes : List ℕ) (ttl : ℕ) → AreBytes bytes → ttl < 256 → HasRightChecksum bytes → HasRightChecksum (with_ttl ttl bytes)
right-with_ttl bytes ttl are fits right =
    let all : List ℕ → Type 0 = HasRightChecksum in
    let six : Net → Type 0 = λ n. IsRightBehind n (new_ipv6 ttl bytes) in
    elim (cases_Bool (found_ipv4 bytes)) [
      | inl four ↦ stays-ipv4 bytes ttl are fits four right
      | inr none ↦ elim (cases_Bool (found_ipv6 bytes)) [
        | inl found ↦ subst all (sym (with_ttl-ipv6 bytes ttl none found)) (subst six (sym (net-ipv6 bytes ttl none found)) tt)
        | inr neither ↦ subst all (sym (with_ttl-none bytes ttl none neither)) right
      ]
    ]
