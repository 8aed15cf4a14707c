-- What the edits of a frame leave. Every byte that isn't named stays.
use Rattle.std.specs.Prelude.{ℕ, ◌+◌, ◌*◌, List, [], ◌∷◌, ◌++◌, length, take, drop}
use Rattle.byteorder.specs.Endian.{big_bytes}
use Rattle.onvm_packet.specs.Bytes.{number}
use Rattle.onvm_packet.specs.Checksum.{updated_checksum}
use Rattle.onvm_packet.specs.Heads.{net_of}
use Rattle.onvm_packet.specs.declared.heads.Heads.{Heads}
use Rattle.onvm_packet.specs.declared.heads.Net.{Net}
use Rattle.onvm_packet.specs.declared.heads.Net.TheVariants as net

-- the bytes from an offset on are overwritten by others
abbrev pub with_bytes_at : ℕ → List ℕ → List ℕ → List ℕ
with_bytes_at at over bytes = take at bytes ++ (over ++ drop (at + length over) bytes)

-- RFC 791, 3.1: TTL and protocol are bytes 8 and 9 of an IPv4 header, the checksum is bytes 10 and 11.
-- It is updated for the word of TTL and protocol
abbrev pub with_ipv4_ttl : ℕ → ℕ → ℕ → List ℕ → List ℕ
with_ipv4_ttl ttl protocol at bytes =
    with_bytes_at (at + 8)
    (ttl ∷ protocol
    ∷ big_bytes 2 (updated_checksum (number 2 (at + 10) bytes) (number 2 (at + 8) bytes) (ttl * 256 + protocol)))
    bytes

-- RFC 8200, 3: the hop limit is byte 7 of an IPv6 header, which has no checksum
abbrev pub with_net_ttl : ℕ → Net → List ℕ → List ℕ
with_net_ttl ttl net.None bytes = bytes
with_net_ttl ttl (net.V4 at source target protocol old) bytes = with_ipv4_ttl ttl protocol at bytes
with_net_ttl ttl (net.V6 at source target next hops) bytes = with_bytes_at (at + 7) (ttl ∷ []) bytes

-- the frame with this TTL or hop limit
abbrev pub with_ttl : ℕ → List ℕ → List ℕ
with_ttl ttl bytes = with_net_ttl ttl (net_of bytes) bytes

-- Ethernet II: the target's address comes first, then the source's
abbrev pub with_macs : List ℕ → List ℕ → List ℕ → List ℕ
with_macs target source bytes = target ++ (source ++ drop 12 bytes)

-- IEEE 802.1Q: type 0x8100 and the tag stand before the frame's own type
abbrev pub with_tag : ℕ → List ℕ → List ℕ
with_tag tag bytes = take 12 bytes ++ (0x81 ∷ 0x00 ∷ big_bytes 2 tag) ++ drop 12 bytes

abbrev pub without_tag : List ℕ → List ℕ
without_tag bytes = take 12 bytes ++ drop 16 bytes

-- the heads with this TTL or hop limit
abbrev pub net_with_ttl : ℕ → Net → Net
net_with_ttl ttl net.None = net.None
net_with_ttl ttl (net.V4 at source target protocol old) = net.V4 at source target protocol ttl
net_with_ttl ttl (net.V6 at source target next hops) = net.V6 at source target next ttl

abbrev pub heads_with_ttl : ℕ → Heads → Heads
heads_with_ttl ttl heads =
    record { vlan = heads.vlan; ethertype = heads.ethertype; net = net_with_ttl ttl heads.net; ports = heads.ports }
