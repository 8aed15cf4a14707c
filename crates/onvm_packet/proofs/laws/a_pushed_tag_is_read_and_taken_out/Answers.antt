use Rattle.onvm_packet.proofs.Tags.{is_tagged-with_tag, type_of-with_tag, vlan_of-with_tag, without_tag-with_tag}
use Rattle.onvm_packet.proofs.laws.a_pushed_tag_is_read_and_taken_out.Goals as goal

pub returns : goal.returns
returns c = record { tagged = is_tagged-with_tag; vlan = vlan_of-with_tag; ethertype = type_of-with_tag; back = without_tag-with_tag }
