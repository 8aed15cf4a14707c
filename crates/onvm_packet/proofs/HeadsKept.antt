-- What another TTL leaves of the heads.
use Rattle.std.proofs.Common.{◌≡◌, ◌∙◌, ap, ℕ, ◌+◌, ◌*◌, ◌/◌, ◌%◌, ◌≤◌, Bool, ◌==◌, ◌&&◌, ◌||◌, cond, nat_le, List, length, Some, None, arith, refl}
use Rattle.std.proofs.lemmas.Bool.{cond_both}
use Rattle.onvm_packet.specs.Bytes.{byte, number}
use Rattle.onvm_packet.specs.Heads.{has_ports, is_ipv4, is_ipv6, is_tagged, net_at, net_of, ports_at, type_at, type_of, vlan_of}

pub type_at_most : (bytes : List ℕ) → type_at bytes ≤ 16
type_at_most bytes = let P : ℕ → Type 0 = λ n. n ≤ 16 in cond_both (is_tagged bytes) 16 12 P (λ _. omega arith) (λ _. omega arith)

pub type_at_least : (bytes : List ℕ) → 12 ≤ type_at bytes
type_at_least bytes = let P : ℕ → Type 0 = λ n. 12 ≤ n in cond_both (is_tagged bytes) 16 12 P (λ _. omega arith) (λ _. omega arith)

-- bytes that are the same from the type up to the network head, and as many
module _ (bytes new : List ℕ) (size : length new ≡ length bytes)
    (front : (count k : ℕ) → 12 ≤ k → k + count ≤ 18 → number count k new ≡ number count k bytes) where
  pub tagged-kept : is_tagged new ≡ is_tagged bytes
  tagged-kept = rw (front 2 12 (omega arith) (omega arith), size) refl

  pub type_at-kept : type_at new ≡ type_at bytes
  type_at-kept = ap (λ (b : Bool). cond b 16 12) tagged-kept

  pub vlan-kept : vlan_of new ≡ vlan_of bytes
  vlan-kept = rw (tagged-kept, front 2 14 (omega arith) (omega arith)) refl

  pub number-kept : number 2 (type_at new) new ≡ number 2 (type_at bytes) bytes
  number-kept = ap (λ (n : ℕ). number 2 n new) type_at-kept ∙ front 2 (type_at bytes) (type_at_least bytes) (omega (arith, type_at_most bytes))

  pub type-kept : type_of new ≡ type_of bytes
  type-kept =
      ap (λ (n : ℕ). cond (nat_le 14 n) (Some (number 2 (type_at new) new)) None) size
      ∙ ap (λ (n : ℕ). cond (nat_le 14 (length bytes)) (Some n) None) number-kept

  pub net-kept : net_of new ≡ net_at (number 2 (type_at bytes) bytes) (type_at bytes + 2) new
  net-kept = ap (λ (n : ℕ). net_at n (type_at new + 2) new) number-kept
      ∙ ap (λ (n : ℕ). net_at (number 2 (type_at bytes) bytes) (n + 2) new) type_at-kept

-- the ports that stand at an offset
pub ports_at-kept : (bytes new : List ℕ) (protocol at : ℕ) → length new ≡ length bytes
    → number 2 at new ≡ number 2 at bytes → number 2 (at + 2) new ≡ number 2 (at + 2) bytes
    → ports_at protocol at new ≡ ports_at protocol at bytes
ports_at-kept bytes new protocol at size first second =
    ap (λ (n : ℕ). cond (((protocol == 6) || (protocol == 17)) && nat_le (at + 4) n) (Some (number 2 at new, number 2 (at + 2) new)) None) size
    ∙ ap (λ (n : ℕ). cond (has_ports protocol at bytes) (Some (n, number 2 (at + 2) new)) None) first
    ∙ ap (λ (n : ℕ). cond (has_ports protocol at bytes) (Some (number 2 at bytes, n)) None) second

pub is_ipv4-kept : (bytes new : List ℕ) (at : ℕ) → length new ≡ length bytes → byte at new ≡ byte at bytes
    → is_ipv4 at new ≡ is_ipv4 at bytes
is_ipv4-kept bytes new at size first =
    ap (λ (n : ℕ). nat_le (at + 20) n && (byte at new / 16 == 4) && nat_le 5 (byte at new % 16) && nat_le (at + 4 * (byte at new % 16)) n) size
    ∙ ap (λ (n : ℕ). nat_le (at + 20) (length bytes) && (n / 16 == 4) && nat_le 5 (n % 16) && nat_le (at + 4 * (n % 16)) (length bytes)) first

pub is_ipv6-kept : (bytes new : List ℕ) (at : ℕ) → length new ≡ length bytes → byte at new ≡ byte at bytes
    → is_ipv6 at new ≡ is_ipv6 at bytes
is_ipv6-kept bytes new at size first =
    ap (λ (n : ℕ). nat_le (at + 40) n && (byte at new / 16 == 6)) size
    ∙ ap (λ (n : ℕ). nat_le (at + 40) (length bytes) && (n / 16 == 6)) first
