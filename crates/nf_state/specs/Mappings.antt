-- The mappings of one protocol: which outside port stands for which inside address and port.
use Rattle.std.specs.Prelude.{◌≡◌, ◌≤◌, ◌<◌, ℕ, ◌⊎◌, Option, Some, None, List, [], ◌∷◌, ◌++◌, slice_get}
use Rattle.nf_state.specs.declared.mappings.Endpoint.{Endpoint}

pub record Mapping : Type 0 where
  pub inside : Endpoint
  pub outside : ℕ

abbrev pub mapping : Endpoint → ℕ → Mapping
mapping inside outside = record { inside = inside; outside = outside }

-- there is a mapping of this inside to this outside port
abbrev pub Maps : List Mapping → Endpoint → ℕ → Type 0
Maps mappings inside outside = (at : ℕ) × (slice_get mappings at ≡ Some (mapping inside outside))

abbrev pub IsUnmapped : List Mapping → Endpoint → Type 0
IsUnmapped mappings inside = (outside : ℕ) → Maps mappings inside outside → ⊥

abbrev pub IsFree : List Mapping → ℕ → Type 0
IsFree mappings outside = (inside : Endpoint) → Maps mappings inside outside → ⊥

-- the lowest outside port of a range that no mapping has
pub record IsLowestFree (ports : ℕ × ℕ) (mappings : List Mapping) (outside : ℕ) : Type 0 where
  pub from : ports.0 ≤ outside
  pub upto : outside ≤ ports.1
  pub free : IsFree mappings outside
  pub lowest : (lower : ℕ) → ports.0 ≤ lower → lower < outside → (inside : Endpoint) × Maps mappings inside lower

-- no outside port of a range is left
abbrev pub NoneIsFree : ℕ × ℕ → List Mapping → Type 0
NoneIsFree ports mappings =
    (outside : ℕ) → ports.0 ≤ outside → outside ≤ ports.1 → (inside : Endpoint) × Maps mappings inside outside

-- the mapping that there is, and none more
pub record Finds (before : List Mapping) (inside : Endpoint) (outside : ℕ) (after : List Mapping) : Type 0 where
  pub there : Maps before inside outside
  pub same : after ≡ before

-- a mapping more, by the lowest free port
pub record Opens (ports : ℕ × ℕ) (before : List Mapping) (inside : Endpoint) (outside : ℕ) (after : List Mapping)
    : Type 0 where
  pub new : IsUnmapped before inside
  pub lowest : IsLowestFree ports before outside
  pub more : after ≡ before ++ mapping inside outside ∷ []

-- no mapping, and no port for one
pub record Refuses (ports : ℕ × ℕ) (before : List Mapping) (inside : Endpoint) (after : List Mapping) : Type 0 where
  pub new : IsUnmapped before inside
  pub none : NoneIsFree ports before
  pub same : after ≡ before

-- the outside port for a sender inside, and the mappings afterwards
abbrev pub Assigns : ℕ × ℕ → List Mapping → Endpoint → Option ℕ → List Mapping → Type 0
Assigns ports before inside None after = Refuses ports before inside after
Assigns ports before inside (Some outside) after =
    Finds before inside outside after ⊎ Opens ports before inside outside after

-- an outside port stands for one sender, and a sender has one port
pub record AreFair (mappings : List Mapping) : Type 0 where
  pub one_sender : (a b : Endpoint) (outside : ℕ) → Maps mappings a outside → Maps mappings b outside → a ≡ b
  pub one_port : (inside : Endpoint) (m n : ℕ) → Maps mappings inside m → Maps mappings inside n → m ≡ n
