-- What the tests of a rule ask of a frame is in its key.
use Rattle.std.proofs.Common.{◌≡◌, ◌∙◌, sym, ap, ℕ, Bool, false, ◌==◌, ◌&&◌, Option, Some, None, refl}
use Rattle.onvm_base.specs.declared.ids.PortId.{PortId}
use Rattle.onvm_base.specs.declared.rules.Prefix.{Prefix}
use Rattle.onvm_base.specs.declared.rules.Tests.{Tests}
use Rattle.onvm_packet.specs.FlowKeys.{flow_key_of}
use Rattle.onvm_packet.specs.Holding.{covers_ipv4, covers_ipv6, do_hold, has_source_port, has_target_port, holds_if_asked, is_part}
use Rattle.onvm_packet.specs.declared.flow_key.FlowEnds.{FlowEnds}
use Rattle.onvm_packet.specs.declared.flow_key.FlowEnds.TheVariants as ends
use Rattle.onvm_packet.specs.declared.flow_key.FlowKey.{FlowKey}
use Rattle.onvm_packet.specs.declared.heads.Heads.{Heads}
use Rattle.onvm_packet.specs.declared.heads.Net.{Net}
use Rattle.onvm_packet.specs.declared.heads.Net.TheVariants as net

abbrev source_in : FlowEnds → Prefix → Bool
source_in ends.None wanted = false
source_in (ends.V4 source target protocol) wanted = covers_ipv4 wanted source
source_in (ends.V6 source target next) wanted = covers_ipv6 wanted source

abbrev target_in : FlowEnds → Prefix → Bool
target_in ends.None wanted = false
target_in (ends.V4 source target protocol) wanted = covers_ipv4 wanted target
target_in (ends.V6 source target next) wanted = covers_ipv6 wanted target

abbrev protocol_in : FlowEnds → Option ℕ
protocol_in ends.None = None
protocol_in (ends.V4 source target protocol) = Some protocol
protocol_in (ends.V6 source target next) = Some next

-- all tests hold for a frame with this key
abbrev do_hold_by : Tests → FlowKey → Bool
do_hold_by tests key =
    holds_if_asked tests.port (λ wanted. key.port == wanted)
    && holds_if_asked tests.vlan (is_part key.vlan)
    && holds_if_asked tests.ethertype (is_part key.ethertype)
    && holds_if_asked tests.src (source_in key.ends)
    && holds_if_asked tests.dst (target_in key.ends)
    && holds_if_asked tests.protocol (is_part (protocol_in key.ends))
    && holds_if_asked tests.src_ports (has_source_port key.ports)
    && holds_if_asked tests.dst_ports (has_target_port key.ports)

-- heads with this network head
abbrev with_net : Heads → Net → Heads
with_net heads n = record { vlan = heads.vlan; ethertype = heads.ethertype; net = n; ports = heads.ports }

do_hold-with_net : (tests : Tests) (port : PortId) (heads : Heads) (n : Net)
    → do_hold tests port (with_net heads n) ≡ do_hold_by tests (flow_key_of port (with_net heads n))
do_hold-with_net tests port heads net.None = refl
do_hold-with_net tests port heads (net.V4 at source target protocol ttl) = refl
do_hold-with_net tests port heads (net.V6 at source target next hops) = refl

do_hold-by : (tests : Tests) (port : PortId) (heads : Heads) → do_hold tests port heads ≡ do_hold_by tests (flow_key_of port heads)
do_hold-by tests port heads = do_hold-with_net tests port heads heads.net

pub do_hold-same : (tests : Tests) (port other : PortId) (heads others : Heads)
    → flow_key_of port heads ≡ flow_key_of other others → do_hold tests port heads ≡ do_hold tests other others
do_hold-same tests port other heads others same =
    do_hold-by tests port heads ∙ ap (do_hold_by tests) same ∙ sym (do_hold-by tests other others)
