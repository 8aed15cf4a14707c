-- What the two guests do.
use Rattle.std.specs.Prelude.{◌≡◌, ℕ, ◌+◌, ◌-◌, ◌^◌, min, nat_le, if◌then◌else◌, List, length, drop, slice_index, slice_set, take}
use Rattle.std.specs.Int.Bits.{bit_xor}
use Rattle.onvm_base.specs.declared.outcome.Verdict.TheVariants.{Next}
use Rattle.onvm_packet.specs.Edits.{with_macs}
use Rattle.onvm_packet.specs.declared.heads.TheConstants.{ETHERNET_LEN}
use Rattle.nf_api.specs.Acts.{Acts}
use Rattle.nf_api.specs.Tree.{leaf}

-- with another lowest bit in the last byte. Without a byte there is none
abbrev pub flipped : List ℕ → List ℕ
flipped bytes = slice_set bytes (length bytes - 1) (bit_xor (slice_index bytes (length bytes - 1)) 1)

-- it counts up to the greatest value
abbrev pub ActsAsFlip : Acts
ActsAsFlip before bytes meta verdict left after =
    (n : ℕ) × (before ≡ leaf n) × (after ≡ leaf (min (n + 1) (2 ^ 64 - 1))) × (verdict ≡ Next) × (left ≡ flipped bytes)

-- Ethernet II: the target's address is bytes 0 to 5, the source's 6 to 11
abbrev pub mirrored : List ℕ → List ℕ
mirrored bytes = if nat_le ETHERNET_LEN (length bytes) then with_macs (take 6 (drop 6 bytes)) (take 6 bytes) bytes else bytes

abbrev pub ActsAsMirror : Acts
ActsAsMirror before bytes meta verdict left after = (after ≡ before) × (verdict ≡ Next) × (left ≡ mirrored bytes)
