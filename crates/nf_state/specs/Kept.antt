-- How mappings are kept: insides by their place, and the outside port of each.
use Rattle.std.specs.Prelude.{◌≡◌, ◌≤◌, ℕ, suc, ◌+◌, ◌-◌, Option, Some, List, [], ◌∷◌, ◌++◌, length, slice_get}
use Rattle.std.specs.Ordering.{nat_cmp, ordering_then}
use Rattle.std.specs.declared.cmp.Ordering.{Ordering}
use Rattle.nf_state.specs.Mappings.{Mapping, mapping}
use Rattle.nf_state.specs.declared.mappings.Endpoint.{Endpoint}

-- by address, and then by port
abbrev pub endpoint_cmp : Endpoint → Endpoint → Ordering
endpoint_cmp a b = ordering_then (nat_cmp a.address b.address) (nat_cmp a.port b.port)

-- the first inside has the first port, and so on
abbrev pub mappings_from : ℕ → List Endpoint → List Mapping
mappings_from first [] = []
mappings_from first (inside ∷ rest) = mapping inside first ∷ mappings_from (suc first) rest

-- the mappings of a protocol, and the range of its outside ports
pub record PortTable : Type 0 where
  pub ports : ℕ × ℕ
  pub mappings : List Mapping

-- the port behind the last one that is assigned
pub record IsNext (table : PortTable) (outside : ℕ) : Type 0 where
  pub at : outside ≡ table.ports.0 + length table.mappings
  pub upto : outside ≤ table.ports.1

abbrev pub with_mapping : Endpoint → ℕ → PortTable → PortTable
with_mapping inside outside table =
    record { ports = table.ports; mappings = table.mappings ++ mapping inside outside ∷ [] }

-- what an ordered map has for an inside is the port of its place
pub record AreKept (first last : ℕ) (insides : List Endpoint) (port_of : Endpoint → Option ℕ) : Type 0 where
  pub room : first + length insides ≤ suc last
  pub there : (at : ℕ) (inside : Endpoint) → slice_get insides at ≡ Some inside → port_of inside ≡ Some (first + at)
  pub from : (inside : Endpoint) (port : ℕ) → port_of inside ≡ Some port → first ≤ port
  pub back : (inside : Endpoint) (port : ℕ) → port_of inside ≡ Some port
      → slice_get insides (port - first) ≡ Some inside
