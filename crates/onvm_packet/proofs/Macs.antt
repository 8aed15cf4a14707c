-- New addresses of the Ethernet head change no other head.
use Rattle.std.proofs.Common.{◌≡◌, ◌∙◌, sym, ap, ℕ, ◌+◌, ◌-◌, ◌*◌, ◌%◌, ◌≤◌, Bool, ◌==◌, ◌&&◌, cond, not, List, ◌++◌, length, drop, get_or, Option, None, arith, refl}
use Rattle.std.proofs.lemmas.Bool.{cond_both}
use Rattle.std.proofs.lemmas.List.{get_or-append_right, get_or-drop, length-append, length-drop}
use Rattle.onvm_packet.specs.Bytes.{byte, number}
use Rattle.onvm_packet.specs.Edits.{with_macs}
use Rattle.onvm_packet.specs.Heads.{heads_of, ipv4_at, ipv6_at, is_fragment, is_ipv4, is_ipv6, net_at, net_of, ports_at, ports_of, type_at, words_at}
use Rattle.onvm_packet.specs.declared.heads.Net.{Net}
use Rattle.onvm_packet.specs.declared.heads.Net.TheVariants as net
use Rattle.onvm_packet.proofs.HeadsKept.{is_ipv4-kept, is_ipv6-kept, net-kept, ports_at-kept, type-kept, type_at_least, vlan-kept}
use Rattle.onvm_packet.proofs.Kept.{big_from-same}
use Rattle.onvm_packet.proofs.TtlHeads.{same_heads}

-- bytes that are the same from the type on, and as many
module _ (bytes new : List ℕ) (size : length new ≡ length bytes) (same : (k : ℕ) → 12 ≤ k → byte k new ≡ byte k bytes) where
  number-same : (count k : ℕ) → 12 ≤ k → number count k new ≡ number count k bytes
  number-same count k far =
      big_from-same count 0 (drop k new) (drop k bytes)
      (λ i l. get_or-drop k new i 0 ∙ same (k + i) (omega arith) ∙ sym (get_or-drop k bytes i 0))

  ipv4_at-same : (at : ℕ) → 12 ≤ at → ipv4_at at new ≡ ipv4_at at bytes
  ipv4_at-same at far =
      ap (λ (n : ℕ). net.V4 at n (number 4 (at + 16) new) (byte (at + 9) new) (byte (at + 8) new)) (number-same 4 (at + 12) (omega arith))
      ∙ ap (λ (n : ℕ). net.V4 at (number 4 (at + 12) bytes) n (byte (at + 9) new) (byte (at + 8) new)) (number-same 4 (at + 16) (omega arith))
      ∙ ap (λ (n : ℕ). net.V4 at (number 4 (at + 12) bytes) (number 4 (at + 16) bytes) n (byte (at + 8) new)) (same (at + 9) (omega arith))
      ∙ ap (λ (n : ℕ). net.V4 at (number 4 (at + 12) bytes) (number 4 (at + 16) bytes) (byte (at + 9) bytes) n) (same (at + 8) (omega arith))

  ipv6_at-same : (at : ℕ) → 12 ≤ at → ipv6_at at new ≡ ipv6_at at bytes
  ipv6_at-same at far =
      ap (λ (n : ℕ). net.V6 at n (number 16 (at + 24) new) (byte (at + 6) new) (byte (at + 7) new)) (number-same 16 (at + 8) (omega arith))
      ∙ ap (λ (n : ℕ). net.V6 at (number 16 (at + 8) bytes) n (byte (at + 6) new) (byte (at + 7) new)) (number-same 16 (at + 24) (omega arith))
      ∙ ap (λ (n : ℕ). net.V6 at (number 16 (at + 8) bytes) (number 16 (at + 24) bytes) n (byte (at + 7) new)) (same (at + 6) (omega arith))
      ∙ ap (λ (n : ℕ). net.V6 at (number 16 (at + 8) bytes) (number 16 (at + 24) bytes) (byte (at + 6) bytes) n) (same (at + 7) (omega arith))

  net_at-same : (ethertype at : ℕ) → 12 ≤ at → net_at ethertype at new ≡ net_at ethertype at bytes
  net_at-same ethertype at far =
      let four : Bool → Bool = λ b. (ethertype == 0x0800) && b in
      let six : Bool → Bool = λ b. (ethertype == 0x86dd) && b in
      ap (λ (b : Bool). cond (four b) (ipv4_at at new) (cond (six (is_ipv6 at new)) (ipv6_at at new) net.None)) (is_ipv4-kept bytes new at size (same at far))
      ∙ ap (λ (n : Net). cond (four (is_ipv4 at bytes)) n (cond (six (is_ipv6 at new)) (ipv6_at at new) net.None)) (ipv4_at-same at far)
      ∙ ap (λ (b : Bool). cond (four (is_ipv4 at bytes)) (ipv4_at at bytes) (cond (six b) (ipv6_at at new) net.None)) (is_ipv6-kept bytes new at size (same at far))
      ∙ ap (λ (n : Net). cond (four (is_ipv4 at bytes)) (ipv4_at at bytes) (cond (six (is_ipv6 at bytes)) n net.None)) (ipv6_at-same at far)

  ports_at-same : (protocol at : ℕ) → 12 ≤ at → ports_at protocol at new ≡ ports_at protocol at bytes
  ports_at-same protocol at far = ports_at-kept bytes new protocol at size (number-same 2 at far) (number-same 2 (at + 2) (omega arith))

  ports_of-ipv4 : (at source target protocol ttl : ℕ) → 12 ≤ at
      → ports_of (net.V4 at source target protocol ttl) new ≡ ports_of (net.V4 at source target protocol ttl) bytes
  ports_of-ipv4 at source target protocol ttl far =
      ap (λ (n : ℕ). cond (not (n % 16384 == 0)) None (ports_at protocol (at + 4 * words_at at new) new)) (number-same 2 (at + 6) (omega arith))
      ∙ ap (λ (n : ℕ). cond (is_fragment at bytes) None (ports_at protocol (at + 4 * (n % 16)) new)) (same at far)
      ∙ ap (λ (o : Option (ℕ × ℕ)). cond (is_fragment at bytes) None o) (ports_at-same protocol (at + 4 * words_at at bytes) (omega arith))

  ports_of-same : (ethertype at : ℕ) → 12 ≤ at → ports_of (net_at ethertype at bytes) new ≡ ports_of (net_at ethertype at bytes) bytes
  ports_of-same ethertype at far =
      let P : Net → Type 0 = λ n. ports_of n new ≡ ports_of n bytes in
      cond_both ((ethertype == 0x0800) && is_ipv4 at bytes) _ _ P
      (λ _. ports_of-ipv4 at (number 4 (at + 12) bytes) (number 4 (at + 16) bytes) (byte (at + 9) bytes) (byte (at + 8) bytes) far)
      (λ _. cond_both ((ethertype == 0x86dd) && is_ipv6 at bytes) _ _ P
      (λ _. ports_at-same (byte (at + 6) bytes) (at + 40) (omega arith))
      (λ _. refl))

  pub heads-same : heads_of new ≡ heads_of bytes
  heads-same =
      let front : (count k : ℕ) → 12 ≤ k → k + count ≤ 18 → number count k new ≡ number count k bytes = λ count k far _. number-same count k far in
      let far : 12 ≤ type_at bytes + 2 = omega (arith, type_at_least bytes) in
      let there : net_of new ≡ net_of bytes = net-kept bytes new size front ∙ net_at-same (number 2 (type_at bytes) bytes) (type_at bytes + 2) far in
      same_heads (heads_of new) (heads_of bytes) (vlan-kept bytes new size front) (type-kept bytes new size front) there
      (ap (λ (n : Net). ports_of n new) there ∙ ports_of-same (number 2 (type_at bytes) bytes) (type_at bytes + 2) far)

pub heads-with_macs : (target source bytes : List ℕ) → length target ≡ 6 → length source ≡ 6 → 12 ≤ length bytes
    → heads_of (with_macs target source bytes) ≡ heads_of bytes
heads-with_macs target source bytes lt ls long =
    let rest : List ℕ = drop 12 bytes in
    let room : length rest ≡ length bytes - 12 = length-drop 12 bytes in
    let size : length (with_macs target source bytes) ≡ length bytes =
    length-append target (source ++ rest) ∙ omega (arith, lt, ls, length-append source rest, room) in
    heads-same bytes (with_macs target source bytes) size
    (λ k far.
    let place : 12 + (k - 6 - 6) ≡ k = omega arith in
    get_or-append_right target (source ++ rest) 6 k 0 lt (omega arith)
    ∙ get_or-append_right source rest 6 (k - 6) 0 ls (omega arith)
    ∙ get_or-drop 12 bytes (k - 6 - 6) 0 ∙ ap (λ (n : ℕ). get_or bytes n 0) place)
