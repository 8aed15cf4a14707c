-- Where the network head of a frame begins.
use Rattle.std.specs.Prelude.{◌≡◌, ℕ, ◌+◌, ◌≤◌, List, length, IsTrue}
use Rattle.onvm_packet.specs.Heads.{ipv4_at, ipv6_at, is_ipv4, is_ipv6, net_at, net_of}
use Rattle.onvm_packet.specs.declared.heads.Net.TheVariants as net
use Rattle.onvm_packet.specs.declared.heads.HeadPlace.{HeadPlace}
use Rattle.onvm_packet.specs.declared.heads.HeadPlace.TheVariants as place

-- the network head begins there, and its first part is whole
abbrev pub IsHeadPlace : HeadPlace → List ℕ → Type 0
IsHeadPlace place.None bytes = net_of bytes ≡ net.None
IsHeadPlace (place.V4 at) bytes = (net_of bytes ≡ ipv4_at at bytes) × (at + 20 ≤ length bytes)
IsHeadPlace (place.V6 at) bytes = (net_of bytes ≡ ipv6_at at bytes) × (at + 40 ≤ length bytes)

-- a whole network head of this type begins at this offset, or none does
abbrev pub IsHeadPlaceAt : HeadPlace → (ethertype at : ℕ) → List ℕ → Type 0
IsHeadPlaceAt place.None ethertype at bytes = net_at ethertype at bytes ≡ net.None
IsHeadPlaceAt (place.V4 begin) ethertype at bytes =
    (begin ≡ at) × (net_at ethertype at bytes ≡ ipv4_at at bytes) × IsTrue (is_ipv4 at bytes)
IsHeadPlaceAt (place.V6 begin) ethertype at bytes =
    (begin ≡ at) × (net_at ethertype at bytes ≡ ipv6_at at bytes) × IsTrue (is_ipv6 at bytes)
