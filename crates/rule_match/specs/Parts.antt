-- Rules, parted by the port and the type that they ask for.
use Rattle.std.specs.Prelude.{◌≡◌, ◌≢◌, ◌<◌, ◌==◌, ℕ, Bool, List, Option, Some, None, length, map, slice_get, slice_index}
use Rattle.std.specs.List.{Contains, filter}
use Rattle.std.specs.List.Sorted.{IsStrictlyIncreasing}
use Rattle.onvm_base.specs.declared.rules.RulePlan.{RulePlan}
use Rattle.onvm_packet.specs.Holding.{holds_if_asked, is_part}

-- a rule can hold for frames of this type, if any: it asks for none, or for this one
abbrev pub can_have_type : Option ℕ → RulePlan → Bool
can_have_type ethertype rule = holds_if_asked rule.tests.ethertype (is_part ethertype)

-- a rule can hold for frames that this port received
abbrev pub can_be_of_port : ℕ → RulePlan → Bool
can_be_of_port port rule = holds_if_asked rule.tests.port (λ wanted. port == wanted)

abbrev pub asked_type : RulePlan → Option ℕ
asked_type rule = rule.tests.ethertype

-- all types that rules ask for, from the lowest on
pub record AreTypes (rules : List RulePlan) (types : List ℕ) : Type 0 where
  pub rise : IsStrictlyIncreasing types
  pub asked : (rule : RulePlan) (ethertype : ℕ) → Contains rules rule → asked_type rule ≡ Some ethertype
      → Contains types ethertype

-- for each type the rules that can hold for it, in their order
abbrev pub lists_by_type : List RulePlan → List ℕ → List (List RulePlan)
lists_by_type rules = map (λ ethertype. filter (can_have_type (Some ethertype)) rules)

pub record ArePartedByType (rules : List RulePlan) (types : List ℕ) (lists : List (List RulePlan))
    (others : List RulePlan) : Type 0 where
  pub types_are : AreTypes rules types
  pub lists_are : lists ≡ lists_by_type rules types
  pub others_are : others ≡ filter (can_have_type None) rules

-- a frame's type stands at this place
pub record IsPlaceOf (types : List ℕ) (ethertype : Option ℕ) (at : ℕ) : Type 0 where
  pub within : at < length types
  pub same : ethertype ≡ Some (slice_index types at)

-- a frame's type, if it has one, is not among these
abbrev pub IsOther : List ℕ → Option ℕ → Type 0
IsOther types ethertype = (asked : ℕ) → Contains types asked → ethertype ≢ Some asked

-- the rules of each of the first ports, in their order
abbrev pub ArePartedByPort : List RulePlan → List (List RulePlan) → Type 0
ArePartedByPort rules lists =
    (port : ℕ) (list : List RulePlan) → slice_get lists port ≡ Some list → list ≡ filter (can_be_of_port port) rules
