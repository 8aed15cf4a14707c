-- Which frames the tests of a rule hold for.
use Rattle.std.specs.Prelude.{ℕ, ◌-◌, ◌/◌, ◌^◌, ◌==◌, nat_le, Bool, true, false, ◌&&◌, Option, Some, None}
use Rattle.onvm_base.specs.declared.ids.PortId.{PortId}
use Rattle.onvm_base.specs.declared.limits.TheConstants.{IPV4_BITS, IPV6_BITS}
use Rattle.onvm_base.specs.declared.rules.Prefix.{Prefix}
use Rattle.onvm_base.specs.declared.rules.Prefix.TheVariants as prefix
use Rattle.onvm_base.specs.declared.rules.Tests.{Tests}
use Rattle.onvm_packet.specs.declared.heads.Heads.{Heads}
use Rattle.onvm_packet.specs.declared.heads.Net.{Net}
use Rattle.onvm_packet.specs.declared.heads.Net.TheVariants as net

-- a test that isn't there holds
abbrev pub holds_if_asked : {A : Type 0} → Option A → (A → Bool) → Bool
holds_if_asked None test = true
holds_if_asked (Some wanted) test = test wanted

-- a part that the frame hasn't is none that is wanted
abbrev pub is_part : Option ℕ → ℕ → Bool
is_part None wanted = false
is_part (Some part) wanted = part == wanted

-- two addresses of so many bits have the same first bits
abbrev pub same_front : ℕ → ℕ → ℕ → ℕ → Bool
same_front bits length a b = (a / 2 ^ (bits - length)) == (b / 2 ^ (bits - length))

-- an address is in a prefix. A prefix of one version has no address of the other
abbrev pub covers_ipv4 : Prefix → ℕ → Bool
covers_ipv4 (prefix.V4 front length) address = same_front IPV4_BITS length address front
covers_ipv4 (prefix.V6 front length) address = false

abbrev pub covers_ipv6 : Prefix → ℕ → Bool
covers_ipv6 (prefix.V4 front length) address = false
covers_ipv6 (prefix.V6 front length) address = same_front IPV6_BITS length address front

abbrev pub has_source : Net → Prefix → Bool
has_source (net.V4 at source target protocol ttl) wanted = covers_ipv4 wanted source
has_source (net.V6 at source target next hops) wanted = covers_ipv6 wanted source
has_source net.None wanted = false

abbrev pub has_target : Net → Prefix → Bool
has_target (net.V4 at source target protocol ttl) wanted = covers_ipv4 wanted target
has_target (net.V6 at source target next hops) wanted = covers_ipv6 wanted target
has_target net.None wanted = false

abbrev pub protocol_of : Net → Option ℕ
protocol_of net.None = None
protocol_of (net.V4 at source target protocol ttl) = Some protocol
protocol_of (net.V6 at source target next hops) = Some next

-- the ends of a range are in it
abbrev pub is_from : ℕ × ℕ → ℕ → Bool
is_from range n = nat_le range.0 n && nat_le n range.1

abbrev pub has_source_port : Option (ℕ × ℕ) → ℕ × ℕ → Bool
has_source_port None range = false
has_source_port (Some ports) range = is_from range ports.0

abbrev pub has_target_port : Option (ℕ × ℕ) → ℕ × ℕ → Bool
has_target_port None range = false
has_target_port (Some ports) range = is_from range ports.1

-- all tests hold for a frame with these heads that a port received
abbrev pub do_hold : Tests → PortId → Heads → Bool
do_hold tests port heads =
    holds_if_asked tests.port (λ wanted. port.0 == wanted)
    && holds_if_asked tests.vlan (is_part heads.vlan)
    && holds_if_asked tests.ethertype (is_part heads.ethertype)
    && holds_if_asked tests.src (has_source heads.net)
    && holds_if_asked tests.dst (has_target heads.net)
    && holds_if_asked tests.protocol (is_part (protocol_of heads.net))
    && holds_if_asked tests.src_ports (has_source_port heads.ports)
    && holds_if_asked tests.dst_ports (has_target_port heads.ports)
