use Rattle.std.proofs.Common.{◌∙◌}
use Rattle.onvm_packet.proofs.Hashing.{hash_v4, hash_v6}
use Rattle.onvm_packet.proofs.flow.flow_hash.Goals as goal

pub returns-in-V4 : goal.returns-in-V4
returns-in-V4 c =
    c.hash_parts.ensures
    ∙ hash_v4 c.args.heads.now c.in-V4.at c.in-V4.source c.in-V4.target c.in-V4.protocol c.in-V4.ttl _ _ _ c.in-V4.is
    c.to_be_bytes.ensures c.to_be_bytes-in-V4.ensures c.unwrap_or-ports.ensures

pub returns-in-V6 : goal.returns-in-V6
returns-in-V6 c =
    c.hash_parts-in-V6.ensures
    ∙ hash_v6 c.args.heads.now c.in-V6.at c.in-V6.source c.in-V6.target c.in-V6.next c.in-V6.hops _ _ _ c.in-V6.is
    c.to_be_bytes-in-V6.ensures c.to_be_bytes-in-V6-2.ensures c.unwrap_or-ports.ensures
