-- What rules can ask of a frame.
use Rattle.onvm_base.specs.declared.ids.PortId.{PortId}
use Rattle.onvm_packet.specs.declared.flow_key.FlowEnds.{FlowEnds}
use Rattle.onvm_packet.specs.declared.flow_key.FlowEnds.TheVariants as ends
use Rattle.onvm_packet.specs.declared.flow_key.FlowKey.{FlowKey}
use Rattle.onvm_packet.specs.declared.heads.Heads.{Heads}
use Rattle.onvm_packet.specs.declared.heads.Net.{Net}
use Rattle.onvm_packet.specs.declared.heads.Net.TheVariants as net

-- what a network head says of the frame's flow
abbrev pub flow_ends_of : Net → FlowEnds
flow_ends_of net.None = ends.None
flow_ends_of (net.V4 at source target protocol ttl) = ends.V4 source target protocol
flow_ends_of (net.V6 at source target next hops) = ends.V6 source target next

-- all that a rule can ask of a frame with these heads that a port received
abbrev pub flow_key_of : PortId → Heads → FlowKey
flow_key_of port heads =
    record {
      port = port.0;
      vlan = heads.vlan;
      ethertype = heads.ethertype;
      ends = flow_ends_of heads.net;
      ports = heads.ports;
    }
