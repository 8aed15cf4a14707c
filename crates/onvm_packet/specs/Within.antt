-- A network head lies in its frame, and the checksum of an IPv4 header may be right.
use Rattle.std.specs.Prelude.{◌≡◌, ℕ, ◌+◌, ◌*◌, ◌/◌, ◌≤◌, List, length, take, drop}
use Rattle.onvm_packet.specs.Bytes.{byte}
use Rattle.onvm_packet.specs.Checksum.{IsRight}
use Rattle.onvm_packet.specs.Heads.{net_of, words_at}
use Rattle.onvm_packet.specs.declared.heads.Net.{Net}
use Rattle.onvm_packet.specs.declared.heads.Net.TheVariants as net

-- the IPv4 header that begins at an offset, its options included
abbrev pub header_at : ℕ → List ℕ → List ℕ
header_at at bytes = take (4 * words_at at bytes) (drop at bytes)

-- it has five words at least, and is whole
pub record IsIpv4Within (at : ℕ) (bytes : List ℕ) : Type 0 where
  pub version : byte at bytes / 16 ≡ 4
  pub least : 5 ≤ words_at at bytes
  pub whole : at + 4 * words_at at bytes ≤ length bytes

-- the whole header is in the frame
abbrev pub IsWithin : Net → List ℕ → Type 0
IsWithin net.None bytes = Unit {0}
IsWithin (net.V4 at source target protocol ttl) bytes = IsIpv4Within at bytes
IsWithin (net.V6 at source target next hops) bytes = at + 40 ≤ length bytes

-- the checksum of an IPv4 head is right. IPv6 has none
abbrev pub IsRightBehind : Net → List ℕ → Type 0
IsRightBehind net.None bytes = Unit {0}
IsRightBehind (net.V4 at source target protocol ttl) bytes = IsRight (header_at at bytes)
IsRightBehind (net.V6 at source target next hops) bytes = Unit {0}

abbrev pub HasRightChecksum : List ℕ → Type 0
HasRightChecksum bytes = IsRightBehind (net_of bytes) bytes
