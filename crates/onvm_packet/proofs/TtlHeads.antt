-- Another TTL changes the TTL that is read, and no other head.
use Rattle.std.proofs.Common.{◌≡◌, ◌∙◌, sym, ap, ℕ, ◌+◌, ◌*◌, ◌%◌, ◌≤◌, Bool, true, false, ◌==◌, ◌&&◌, cond, not, List, [], ◌∷◌, length, Option, None, inl, inr, arith, refl}
use Rattle.std.proofs.lemmas.Bool.{and_parts, cases_Bool, cond-true, cond-false}
use Rattle.byteorder.specs.Endian.{big_bytes}
use Rattle.onvm_packet.specs.Bytes.{byte, number}
use Rattle.onvm_packet.specs.Checksum.{updated_checksum}
use Rattle.onvm_packet.specs.Edits.{with_bytes_at, with_net_ttl, with_ttl, net_with_ttl, heads_with_ttl}
use Rattle.onvm_packet.specs.Heads.{heads_of, ipv4_at, ipv6_at, is_fragment, is_ipv4, is_ipv6, net_of, ports_at, ports_of, type_at, words_at}
use Rattle.onvm_packet.specs.Within.{IsIpv4Within}
use Rattle.onvm_packet.specs.declared.heads.Heads.{Heads}
use Rattle.onvm_packet.specs.declared.heads.Net.{Net}
use Rattle.onvm_packet.specs.declared.heads.Net.TheVariants as net
use Rattle.onvm_packet.proofs.HeadsKept.{vlan-kept, type-kept, net-kept, type_at_least, ports_at-kept, is_ipv4-kept, is_ipv6-kept}
use Rattle.onvm_packet.proofs.Kept.{length-with_bytes_at, byte-before, byte-over, number-before, number-behind}
use Rattle.onvm_packet.proofs.Within.{ipv4_within, ipv6_within}

-- heads are the same whose parts are
pub same_heads : (a b : Heads) → a.vlan ≡ b.vlan → a.ethertype ≡ b.ethertype → a.net ≡ b.net → a.ports ≡ b.ports → a ≡ b
same_heads a b vlan ethertype net ports =
    let made : Option ℕ → Option ℕ → Net → Option (ℕ × ℕ) → Heads =
    λ v e n p. record { vlan = v; ethertype = e; net = n; ports = p } in
    ap (λ (v : Option ℕ). made v a.ethertype a.net a.ports) vlan
    ∙ ap (λ (e : Option ℕ). made b.vlan e a.net a.ports) ethertype
    ∙ ap (λ (n : Net). made b.vlan b.ethertype n a.ports) net
    ∙ ap (λ (p : Option (ℕ × ℕ)). made b.vlan b.ethertype b.net p) ports

-- where the network head begins, and the type before it
abbrev pub net_place : List ℕ → ℕ
net_place bytes = type_at bytes + 2

abbrev pub ethertype_of : List ℕ → ℕ
ethertype_of bytes = number 2 (type_at bytes) bytes

abbrev pub found_ipv4 : List ℕ → Bool
found_ipv4 bytes = (ethertype_of bytes == 0x0800) && is_ipv4 (net_place bytes) bytes

abbrev pub found_ipv6 : List ℕ → Bool
found_ipv6 bytes = (ethertype_of bytes == 0x86dd) && is_ipv6 (net_place bytes) bytes

-- the four bytes that are written over in an IPv4 header
abbrev pub over_ipv4 : ℕ → List ℕ → List ℕ
over_ipv4 ttl bytes =
    ttl ∷ byte (net_place bytes + 9) bytes
    ∷ big_bytes 2 (updated_checksum (number 2 (net_place bytes + 10) bytes) (number 2 (net_place bytes + 8) bytes) (ttl * 256 + byte (net_place bytes + 9) bytes))

abbrev pub new_ipv4 : ℕ → List ℕ → List ℕ
new_ipv4 ttl bytes = with_bytes_at (net_place bytes + 8) (over_ipv4 ttl bytes) bytes

-- with an IPv4 head
module _ (bytes : List ℕ) (ttl : ℕ) (found : found_ipv4 bytes ≡ true) where
  pub found-within : IsIpv4Within (net_place bytes) bytes
  found-within = ipv4_within (net_place bytes) bytes (and_parts (ethertype_of bytes == 0x0800) (is_ipv4 (net_place bytes) bytes) found).1

  pub net_of-ipv4 : net_of bytes ≡ ipv4_at (net_place bytes) bytes
  net_of-ipv4 = cond-true (found_ipv4 bytes) _ _ found

  pub with_ttl-ipv4 : with_ttl ttl bytes ≡ new_ipv4 ttl bytes
  with_ttl-ipv4 = ap (λ (n : Net). with_net_ttl ttl n bytes) net_of-ipv4

  pub fits-ipv4 : net_place bytes + 8 + 4 ≤ length bytes
  fits-ipv4 = omega (arith, found-within.least, found-within.whole)

  pub size-ipv4 : length (new_ipv4 ttl bytes) ≡ length bytes
  size-ipv4 = length-with_bytes_at (net_place bytes + 8) (over_ipv4 ttl bytes) bytes fits-ipv4

  pub before-ipv4 : (count k : ℕ) → k + count ≤ net_place bytes + 8 → number count k (new_ipv4 ttl bytes) ≡ number count k bytes
  before-ipv4 = number-before (net_place bytes + 8) (over_ipv4 ttl bytes) bytes fits-ipv4

  pub behind-ipv4 : (count k : ℕ) → net_place bytes + 12 ≤ k → number count k (new_ipv4 ttl bytes) ≡ number count k bytes
  behind-ipv4 count k behind = number-behind (net_place bytes + 8) (over_ipv4 ttl bytes) bytes fits-ipv4 count k (omega arith)

  front-ipv4 : (count k : ℕ) → 12 ≤ k → k + count ≤ 18 → number count k (new_ipv4 ttl bytes) ≡ number count k bytes
  front-ipv4 count k far before = before-ipv4 count k (omega (arith, type_at_least bytes))

  pub first-ipv4 : byte (net_place bytes) (new_ipv4 ttl bytes) ≡ byte (net_place bytes) bytes
  first-ipv4 = byte-before (net_place bytes + 8) (over_ipv4 ttl bytes) bytes fits-ipv4 (net_place bytes) (omega arith)

  ttl-ipv4 : byte (net_place bytes + 8) (new_ipv4 ttl bytes) ≡ ttl
  ttl-ipv4 =
      let place : net_place bytes + 8 ≡ net_place bytes + 8 + 0 = omega arith in
      ap (λ (n : ℕ). byte n (new_ipv4 ttl bytes)) place
      ∙ byte-over (net_place bytes + 8) (over_ipv4 ttl bytes) bytes fits-ipv4 0 (omega arith)

  protocol-ipv4 : byte (net_place bytes + 9) (new_ipv4 ttl bytes) ≡ byte (net_place bytes + 9) bytes
  protocol-ipv4 =
      let place : net_place bytes + 9 ≡ net_place bytes + 8 + 1 = omega arith in
      ap (λ (n : ℕ). byte n (new_ipv4 ttl bytes)) place
      ∙ byte-over (net_place bytes + 8) (over_ipv4 ttl bytes) bytes fits-ipv4 1 (omega arith)

  pub net-ipv4 : net_of (new_ipv4 ttl bytes) ≡ ipv4_at (net_place bytes) (new_ipv4 ttl bytes)
  net-ipv4 =
      let still : ((ethertype_of bytes == 0x0800) && is_ipv4 (net_place bytes) (new_ipv4 ttl bytes)) ≡ true =
      ap (λ (b : Bool). (ethertype_of bytes == 0x0800) && b) (is_ipv4-kept bytes (new_ipv4 ttl bytes) (net_place bytes) size-ipv4 first-ipv4) ∙ found in
      net-kept bytes (new_ipv4 ttl bytes) size-ipv4 front-ipv4 ∙ cond-true _ _ _ still

  ipv4_at-kept : ipv4_at (net_place bytes) (new_ipv4 ttl bytes) ≡ net_with_ttl ttl (ipv4_at (net_place bytes) bytes)
  ipv4_at-kept =
      let new : List ℕ = new_ipv4 ttl bytes in
      let source = number 4 (net_place bytes + 12) in
      let target = number 4 (net_place bytes + 16) in
      let protocol = byte (net_place bytes + 9) in
      ap (λ (n : ℕ). net.V4 (net_place bytes) n (target new) (protocol new) (byte (net_place bytes + 8) new)) (behind-ipv4 4 (net_place bytes + 12) (omega arith))
      ∙ ap (λ (n : ℕ). net.V4 (net_place bytes) (source bytes) n (protocol new) (byte (net_place bytes + 8) new)) (behind-ipv4 4 (net_place bytes + 16) (omega arith))
      ∙ ap (λ (n : ℕ). net.V4 (net_place bytes) (source bytes) (target bytes) n (byte (net_place bytes + 8) new)) protocol-ipv4
      ∙ ap (λ (n : ℕ). net.V4 (net_place bytes) (source bytes) (target bytes) (protocol bytes) n) ttl-ipv4

  fragment-ipv4 : is_fragment (net_place bytes) (new_ipv4 ttl bytes) ≡ is_fragment (net_place bytes) bytes
  fragment-ipv4 = ap (λ (n : ℕ). not (n % 16384 == 0)) (before-ipv4 2 (net_place bytes + 6) (omega arith))

  ports-ipv4 : ports_of (ipv4_at (net_place bytes) (new_ipv4 ttl bytes)) (new_ipv4 ttl bytes) ≡ ports_of (ipv4_at (net_place bytes) bytes) bytes
  ports-ipv4 =
      let new : List ℕ = new_ipv4 ttl bytes in
      let behind : ℕ = net_place bytes + 4 * words_at (net_place bytes) bytes in
      let far : net_place bytes + 12 ≤ behind = omega (arith, found-within.least) in
      ap (λ (b : Bool). cond b None (ports_at (byte (net_place bytes + 9) new) (net_place bytes + 4 * words_at (net_place bytes) new) new)) fragment-ipv4
      ∙ ap (λ (n : ℕ). cond (is_fragment (net_place bytes) bytes) None (ports_at n (net_place bytes + 4 * words_at (net_place bytes) new) new)) protocol-ipv4
      ∙ ap (λ (n : ℕ). cond (is_fragment (net_place bytes) bytes) None (ports_at (byte (net_place bytes + 9) bytes) (net_place bytes + 4 * (n % 16)) new)) first-ipv4
      ∙ ap (λ (o : Option (ℕ × ℕ)). cond (is_fragment (net_place bytes) bytes) None o)
      (ports_at-kept bytes new (byte (net_place bytes + 9) bytes) behind size-ipv4 (behind-ipv4 2 behind far) (behind-ipv4 2 (behind + 2) (omega arith)))

  pub heads-ipv4 : heads_of (with_ttl ttl bytes) ≡ heads_with_ttl ttl (heads_of bytes)
  heads-ipv4 =
      let new : List ℕ = new_ipv4 ttl bytes in
      let there : net_of new ≡ net_with_ttl ttl (net_of bytes) = net-ipv4 ∙ ipv4_at-kept ∙ sym (ap (net_with_ttl ttl) net_of-ipv4) in
      let ports : ports_of (net_of new) new ≡ ports_of (net_of bytes) bytes =
      ap (λ (n : Net). ports_of n new) net-ipv4 ∙ ports-ipv4 ∙ sym (ap (λ (n : Net). ports_of n bytes) net_of-ipv4) in
      ap heads_of with_ttl-ipv4
      ∙ same_heads _ _ (vlan-kept bytes new size-ipv4 front-ipv4) (type-kept bytes new size-ipv4 front-ipv4) there ports

abbrev pub new_ipv6 : ℕ → List ℕ → List ℕ
new_ipv6 ttl bytes = with_bytes_at (net_place bytes + 7) (ttl ∷ []) bytes

-- with an IPv6 head
module _ (bytes : List ℕ) (ttl : ℕ) (other : found_ipv4 bytes ≡ false) (found : found_ipv6 bytes ≡ true) where
  whole-ipv6 : net_place bytes + 40 ≤ length bytes
  whole-ipv6 = ipv6_within (net_place bytes) bytes (and_parts (ethertype_of bytes == 0x86dd) (is_ipv6 (net_place bytes) bytes) found).1

  pub net_of-ipv6 : net_of bytes ≡ ipv6_at (net_place bytes) bytes
  net_of-ipv6 = cond-false (found_ipv4 bytes) _ _ other ∙ cond-true (found_ipv6 bytes) _ _ found

  pub with_ttl-ipv6 : with_ttl ttl bytes ≡ new_ipv6 ttl bytes
  with_ttl-ipv6 = ap (λ (n : Net). with_net_ttl ttl n bytes) net_of-ipv6

  fits-ipv6 : net_place bytes + 7 + 1 ≤ length bytes
  fits-ipv6 = omega (arith, whole-ipv6)

  size-ipv6 : length (new_ipv6 ttl bytes) ≡ length bytes
  size-ipv6 = length-with_bytes_at (net_place bytes + 7) (ttl ∷ []) bytes fits-ipv6

  before-ipv6 : (count k : ℕ) → k + count ≤ net_place bytes + 7 → number count k (new_ipv6 ttl bytes) ≡ number count k bytes
  before-ipv6 = number-before (net_place bytes + 7) (ttl ∷ []) bytes fits-ipv6

  behind-ipv6 : (count k : ℕ) → net_place bytes + 8 ≤ k → number count k (new_ipv6 ttl bytes) ≡ number count k bytes
  behind-ipv6 count k behind = number-behind (net_place bytes + 7) (ttl ∷ []) bytes fits-ipv6 count k (omega arith)

  front-ipv6 : (count k : ℕ) → 12 ≤ k → k + count ≤ 18 → number count k (new_ipv6 ttl bytes) ≡ number count k bytes
  front-ipv6 count k far before = before-ipv6 count k (omega (arith, type_at_least bytes))

  first-ipv6 : byte (net_place bytes) (new_ipv6 ttl bytes) ≡ byte (net_place bytes) bytes
  first-ipv6 = byte-before (net_place bytes + 7) (ttl ∷ []) bytes fits-ipv6 (net_place bytes) (omega arith)

  next-ipv6 : byte (net_place bytes + 6) (new_ipv6 ttl bytes) ≡ byte (net_place bytes + 6) bytes
  next-ipv6 = byte-before (net_place bytes + 7) (ttl ∷ []) bytes fits-ipv6 (net_place bytes + 6) (omega arith)

  hops-ipv6 : byte (net_place bytes + 7) (new_ipv6 ttl bytes) ≡ ttl
  hops-ipv6 =
      let place : net_place bytes + 7 ≡ net_place bytes + 7 + 0 = omega arith in
      ap (λ (n : ℕ). byte n (new_ipv6 ttl bytes)) place ∙ byte-over (net_place bytes + 7) (ttl ∷ []) bytes fits-ipv6 0 (omega arith)

  pub net-ipv6 : net_of (new_ipv6 ttl bytes) ≡ ipv6_at (net_place bytes) (new_ipv6 ttl bytes)
  net-ipv6 =
      let new : List ℕ = new_ipv6 ttl bytes in
      let none : ((ethertype_of bytes == 0x0800) && is_ipv4 (net_place bytes) new) ≡ false =
      ap (λ (b : Bool). (ethertype_of bytes == 0x0800) && b) (is_ipv4-kept bytes new (net_place bytes) size-ipv6 first-ipv6) ∙ other in
      let still : ((ethertype_of bytes == 0x86dd) && is_ipv6 (net_place bytes) new) ≡ true =
      ap (λ (b : Bool). (ethertype_of bytes == 0x86dd) && b) (is_ipv6-kept bytes new (net_place bytes) size-ipv6 first-ipv6) ∙ found in
      net-kept bytes new size-ipv6 front-ipv6 ∙ cond-false _ _ _ none ∙ cond-true _ _ _ still

  ipv6_at-kept : ipv6_at (net_place bytes) (new_ipv6 ttl bytes) ≡ net_with_ttl ttl (ipv6_at (net_place bytes) bytes)
  ipv6_at-kept =
      let new : List ℕ = new_ipv6 ttl bytes in
      let source = number 16 (net_place bytes + 8) in
      let target = number 16 (net_place bytes + 24) in
      let next = byte (net_place bytes + 6) in
      ap (λ (n : ℕ). net.V6 (net_place bytes) n (target new) (next new) (byte (net_place bytes + 7) new)) (behind-ipv6 16 (net_place bytes + 8) (omega arith))
      ∙ ap (λ (n : ℕ). net.V6 (net_place bytes) (source bytes) n (next new) (byte (net_place bytes + 7) new)) (behind-ipv6 16 (net_place bytes + 24) (omega arith))
      ∙ ap (λ (n : ℕ). net.V6 (net_place bytes) (source bytes) (target bytes) n (byte (net_place bytes + 7) new)) next-ipv6
      ∙ ap (λ (n : ℕ). net.V6 (net_place bytes) (source bytes) (target bytes) (next bytes) n) hops-ipv6

  ports-ipv6 : ports_of (ipv6_at (net_place bytes) (new_ipv6 ttl bytes)) (new_ipv6 ttl bytes) ≡ ports_of (ipv6_at (net_place bytes) bytes) bytes
  ports-ipv6 =
      let new : List ℕ = new_ipv6 ttl bytes in
      ap (λ (n : ℕ). ports_at n (net_place bytes + 40) new) next-ipv6
      ∙ ports_at-kept bytes new (byte (net_place bytes + 6) bytes) (net_place bytes + 40) size-ipv6
      (behind-ipv6 2 (net_place bytes + 40) (omega arith)) (behind-ipv6 2 (net_place bytes + 40 + 2) (omega arith))

  pub heads-ipv6 : heads_of (with_ttl ttl bytes) ≡ heads_with_ttl ttl (heads_of bytes)
  heads-ipv6 =
      let new : List ℕ = new_ipv6 ttl bytes in
      let there : net_of new ≡ net_with_ttl ttl (net_of bytes) = net-ipv6 ∙ ipv6_at-kept ∙ sym (ap (net_with_ttl ttl) net_of-ipv6) in
      let ports : ports_of (net_of new) new ≡ ports_of (net_of bytes) bytes =
      ap (λ (n : Net). ports_of n new) net-ipv6 ∙ ports-ipv6 ∙ sym (ap (λ (n : Net). ports_of n bytes) net_of-ipv6) in
      ap heads_of with_ttl-ipv6
      ∙ same_heads _ _ (vlan-kept bytes new size-ipv6 front-ipv6) (type-kept bytes new size-ipv6 front-ipv6) there ports

-- with no network head
module _ (bytes : List ℕ) (ttl : ℕ) (four : found_ipv4 bytes ≡ false) (six : found_ipv6 bytes ≡ false) where
  pub net_of-none : net_of bytes ≡ net.None
  net_of-none = cond-false (found_ipv4 bytes) _ _ four ∙ cond-false (found_ipv6 bytes) _ _ six

  pub with_ttl-none : with_ttl ttl bytes ≡ bytes
  with_ttl-none = ap (λ (n : Net). with_net_ttl ttl n bytes) net_of-none

  pub heads-none : heads_of (with_ttl ttl bytes) ≡ heads_with_ttl ttl (heads_of bytes)
  heads-none =
      let there : net_of bytes ≡ net_with_ttl ttl (net_of bytes) = net_of-none ∙ sym (ap (net_with_ttl ttl) net_of-none) in
      ap heads_of with_ttl-none ∙ same_heads (heads_of bytes) (heads_with_ttl ttl (heads_of bytes)) refl refl there refl

pub heads-with_ttl : (bytes : List ℕ) (ttl : ℕ) → heads_of (with_ttl ttl bytes) ≡ heads_with_ttl ttl (heads_of bytes)
heads-with_ttl bytes ttl = elim (cases_Bool (found_ipv4 bytes)) [
  | inl four ↦ heads-ipv4 bytes ttl four
  | inr none ↦ elim (cases_Bool (found_ipv6 bytes)) [
    | inl six ↦ heads-ipv6 bytes ttl none six
    | inr neither ↦ heads-none bytes ttl none neither
  ]
]
