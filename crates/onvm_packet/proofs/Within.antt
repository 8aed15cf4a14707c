-- A network head that is read lies in the frame.
use Rattle.std.proofs.Common.{◌≡◌, ℕ, ◌+◌, ◌*◌, ◌/◌, ◌≤◌, Bool, true, List, length, nat_le, ◌==◌, ◌&&◌}
use Rattle.std.proofs.lemmas.Bool.{and_parts, eqb-true, leb-true, cond_both}
use Rattle.onvm_packet.specs.Heads.{is_ipv4, is_ipv6, net_at, net_of, type_at, words_at}
use Rattle.onvm_packet.specs.Bytes.{byte, number}
use Rattle.onvm_packet.specs.Within.{IsIpv4Within, IsWithin}
use Rattle.onvm_packet.specs.declared.heads.Net.{Net}

pub ipv4_within : (at : ℕ) (bytes : List ℕ) → is_ipv4 at bytes ≡ true → IsIpv4Within at bytes
ipv4_within at bytes is =
    let short : Bool = nat_le (at + 20) (length bytes) in
    let four : Bool = byte at bytes / 16 == 4 in
    let five : Bool = nat_le 5 (words_at at bytes) in
    let last = and_parts ((short && four) && five) (nat_le (at + 4 * words_at at bytes) (length bytes)) is in
    let middle = and_parts (short && four) five last.0 in
    record {
      version = eqb-true _ _ (and_parts short four middle.0).1;
      least = leb-true _ _ middle.1;
      whole = leb-true _ _ last.1;
    }

pub ipv6_within : (at : ℕ) (bytes : List ℕ) → is_ipv6 at bytes ≡ true → at + 40 ≤ length bytes
ipv6_within at bytes is = leb-true _ _ (and_parts (nat_le (at + 40) (length bytes)) (byte at bytes / 16 == 6) is).0

pub net_at_within : (ethertype at : ℕ) (bytes : List ℕ) → IsWithin (net_at ethertype at bytes) bytes
net_at_within ethertype at bytes =
    let P : Net → Type 0 = λ n. IsWithin n bytes in
    cond_both ((ethertype == 0x0800) && is_ipv4 at bytes) _ _ P
    (λ is. ipv4_within at bytes (and_parts (ethertype == 0x0800) (is_ipv4 at bytes) is).1)
    (λ _. cond_both ((ethertype == 0x86dd) && is_ipv6 at bytes) _ _ P
    (λ is. ipv6_within at bytes (and_parts (ethertype == 0x86dd) (is_ipv6 at bytes) is).1)
    (λ _. tt))

pub net_within : (bytes : List ℕ) → IsWithin (net_of bytes) bytes
net_within bytes = net_at_within (number 2 (type_at bytes) bytes) (type_at bytes + 2) bytes
