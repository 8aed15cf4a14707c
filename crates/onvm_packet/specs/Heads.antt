-- The heads of a frame, by byte offset.
use Rattle.std.specs.Prelude.{ℕ, ◌+◌, ◌*◌, ◌/◌, ◌%◌, ◌==◌, nat_le, Bool, not, ◌&&◌, ◌||◌, if◌then◌else◌, Option, Some, None, List, length}
use Rattle.onvm_base.specs.declared.limits.TheConstants.{MAX_VLAN}
use Rattle.onvm_packet.specs.Bytes.{byte, number}
use Rattle.onvm_packet.specs.declared.heads.Heads.{Heads}
use Rattle.onvm_packet.specs.declared.heads.Net.{Net}
use Rattle.onvm_packet.specs.declared.heads.Net.TheVariants as net

-- Ethernet II has the type at byte 12. IEEE 802.1Q: type 0x8100 says that a tag of two bytes and the
-- frame's own type follow. Where they aren't whole, 0x8100 is the frame's type. Only the outer tag is read
abbrev pub is_tagged : List ℕ → Bool
is_tagged bytes = (number 2 12 bytes == 0x8100) && nat_le 18 (length bytes)

-- the low 12 bits of the tag
abbrev pub vlan_of : List ℕ → Option ℕ
vlan_of bytes = if is_tagged bytes then Some (number 2 14 bytes % (MAX_VLAN + 1)) else None

-- where the type stands
abbrev pub type_at : List ℕ → ℕ
type_at bytes = if is_tagged bytes then 16 else 12

abbrev pub type_of : List ℕ → Option ℕ
type_of bytes = if nat_le 14 (length bytes) then Some (number 2 (type_at bytes) bytes) else None

-- RFC 791, 3.1: the low four bits of byte 0 are the header's length in words of four bytes
abbrev pub words_at : ℕ → List ℕ → ℕ
words_at at bytes = byte at bytes % 16

-- the high four bits of byte 0 are the version, the header has five words at least, and all of it is there
abbrev pub is_ipv4 : ℕ → List ℕ → Bool
is_ipv4 at bytes =
    nat_le (at + 20) (length bytes) && (byte at bytes / 16 == 4) && nat_le 5 (words_at at bytes)
    && nat_le (at + 4 * words_at at bytes) (length bytes)

abbrev pub ipv4_at : ℕ → List ℕ → Net
ipv4_at at bytes =
    net.V4 at (number 4 (at + 12) bytes) (number 4 (at + 16) bytes) (byte (at + 9) bytes) (byte (at + 8) bytes)

-- RFC 8200, 3: a header of 40 bytes, whose first four bits are the version
abbrev pub is_ipv6 : ℕ → List ℕ → Bool
is_ipv6 at bytes = nat_le (at + 40) (length bytes) && (byte at bytes / 16 == 6)

abbrev pub ipv6_at : ℕ → List ℕ → Net
ipv6_at at bytes =
    net.V6 at (number 16 (at + 8) bytes) (number 16 (at + 24) bytes) (byte (at + 6) bytes) (byte (at + 7) bytes)

-- the network head that begins at an offset, behind this type
abbrev pub net_at : ℕ → ℕ → List ℕ → Net
net_at ethertype at bytes =
    if (ethertype == 0x0800) && is_ipv4 at bytes then ipv4_at at bytes
    else (if (ethertype == 0x86dd) && is_ipv6 at bytes then ipv6_at at bytes else net.None)

abbrev pub net_of : List ℕ → Net
net_of bytes = net_at (number 2 (type_at bytes) bytes) (type_at bytes + 2) bytes

-- the TTL of an IPv4 head or the hop limit of an IPv6 head
abbrev pub ttl_of : Net → Option ℕ
ttl_of net.None = None
ttl_of (net.V4 at source target protocol ttl) = Some ttl
ttl_of (net.V6 at source target next hops) = Some hops

-- RFC 791, 3.1: the more-fragments bit and the fragment offset are the low 14 bits of bytes 6 and 7
abbrev pub is_fragment : ℕ → List ℕ → Bool
is_fragment at bytes = not (number 2 (at + 6) bytes % 16384 == 0)

-- TCP (RFC 9293, 3.1) is protocol 6 and UDP (RFC 768) is 17. Both begin with source and target port.
-- An IPv6 extension header has another number, so no ports are read behind one
abbrev pub has_ports : ℕ → ℕ → List ℕ → Bool
has_ports protocol at bytes = ((protocol == 6) || (protocol == 17)) && nat_le (at + 4) (length bytes)

abbrev pub ports_at : ℕ → ℕ → List ℕ → Option (ℕ × ℕ)
ports_at protocol at bytes =
    if has_ports protocol at bytes then Some (number 2 at bytes, number 2 (at + 2) bytes) else None

-- the ports behind a network head
abbrev pub ports_of : Net → List ℕ → Option (ℕ × ℕ)
ports_of net.None bytes = None
ports_of (net.V4 at source target protocol ttl) bytes =
    if is_fragment at bytes then None else ports_at protocol (at + 4 * words_at at bytes) bytes
ports_of (net.V6 at source target next hops) bytes = ports_at next (at + 40) bytes

abbrev pub heads_of : List ℕ → Heads
heads_of bytes =
    record {
      vlan = vlan_of bytes;
      ethertype = type_of bytes;
      net = net_of bytes;
      ports = ports_of (net_of bytes) bytes;
    }
