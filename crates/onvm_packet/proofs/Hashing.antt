-- The hash of a flow's parts is the flow hash.
use Rattle.std.proofs.Common.{◌≡◌, ℕ, List, ◌∷◌, ◌++◌, unwrap_or, refl}
use Rattle.std.specs.Int.{to_be_bytes, w32, w128}
use Rattle.byteorder.specs.Endian.{big_bytes}
use Rattle.onvm_packet.specs.Flow.{flow_hash_of, fnv_1a}
use Rattle.onvm_packet.specs.declared.heads.Heads.{Heads}
use Rattle.onvm_packet.specs.declared.heads.Net.TheVariants as net

pub hash_v4 : (heads : Heads) (at source target protocol ttl : ℕ) (from to : List ℕ) (ports : ℕ × ℕ)
    → heads.net ≡ net.V4 at source target protocol ttl → from ≡ to_be_bytes w32 source → to ≡ to_be_bytes w32 target
    → ports ≡ unwrap_or heads.ports (0, 0)
    → fnv_1a (4 ∷ (from ++ (to ++ (protocol ∷ (big_bytes 2 ports.0 ++ big_bytes 2 ports.1))))) ≡ flow_hash_of heads
hash_v4 heads at source target protocol ttl from to ports is ef et ep = rw (is, ef, et, ep) refl

pub hash_v6 : (heads : Heads) (at source target next hops : ℕ) (from to : List ℕ) (ports : ℕ × ℕ)
    → heads.net ≡ net.V6 at source target next hops → from ≡ to_be_bytes w128 source → to ≡ to_be_bytes w128 target
    → ports ≡ unwrap_or heads.ports (0, 0)
    → fnv_1a (6 ∷ (from ++ (to ++ (next ∷ (big_bytes 2 ports.0 ++ big_bytes 2 ports.1))))) ≡ flow_hash_of heads
hash_v6 heads at source target next hops from to ports is ef et ep = rw (is, ef, et, ep) refl
