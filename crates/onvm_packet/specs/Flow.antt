-- What tells the flow of a frame, and the hash of it.
use Rattle.std.specs.Prelude.{ℕ, ◌*◌, ◌%◌, ◌^◌, ◌==◌, bit_xor, fold, if◌then◌else◌, Option, Some, None, unwrap_or, List, [], ◌∷◌, ◌++◌}
use Rattle.byteorder.specs.Endian.{big_bytes}
use Rattle.onvm_packet.specs.declared.heads.Heads.{Heads}
use Rattle.onvm_packet.specs.declared.heads.Net.{Net}
use Rattle.onvm_packet.specs.declared.heads.Net.TheVariants as net
use Rattle.onvm_packet.specs.declared.flow.FiveTuple.{FiveTuple}

abbrev pub flow_of : Net → ℕ × ℕ → Option FiveTuple
flow_of net.None ports = None
flow_of (net.V4 at source target protocol ttl) ports =
    Some (record {
      version = 4;
      source = source;
      target = target;
      protocol = protocol;
      source_port = ports.0;
      target_port = ports.1;
    })
flow_of (net.V6 at source target next hops) ports =
    Some (record {
      version = 6;
      source = source;
      target = target;
      protocol = next;
      source_port = ports.0;
      target_port = ports.1;
    })

-- ports that aren't there count as 0
abbrev pub five_tuple_of : Heads → Option FiveTuple
five_tuple_of heads = flow_of heads.net (unwrap_or heads.ports (0, 0))

-- how many bytes an address has
abbrev pub address_len : ℕ → ℕ
address_len version = if version == 6 then 16 else 4

-- version 0 stands for no network head
abbrev pub flow_bytes : Option FiveTuple → List ℕ
flow_bytes None = 0 ∷ []
flow_bytes (Some flow) =
    flow.version
    ∷ (big_bytes (address_len flow.version) flow.source
    ++ (big_bytes (address_len flow.version) flow.target
    ++ (flow.protocol ∷ (big_bytes 2 flow.source_port ++ big_bytes 2 flow.target_port))))

-- FNV-1a of 32 bits, after Fowler, Noll and Vo: for each byte exclusive or with it, and then times the prime
abbrev pub fnv_step : ℕ → ℕ → ℕ
fnv_step hash byte = bit_xor hash byte * 16777619 % 2 ^ 32

abbrev pub fnv_1a : List ℕ → ℕ
fnv_1a bytes = fold fnv_step 2166136261 bytes

abbrev pub flow_hash_of : Heads → ℕ
flow_hash_of heads = fnv_1a (flow_bytes (five_tuple_of heads))
