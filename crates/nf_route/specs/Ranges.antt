-- Ranges of addresses for which a table has one verdict each.
use Rattle.std.specs.Prelude.{◌≡◌, ◌≢◌, ◌<◌, ◌≤◌, ◌^◌, ℕ, List, Some, slice_get, length}
use Rattle.std.specs.List.{Contains}
use Rattle.std.specs.List.Sorted.{IsNonDecreasingBy}
use Rattle.onvm_base.specs.declared.function.RouteEntry.{RouteEntry}
use Rattle.onvm_base.specs.declared.rules.Prefix.{Prefix}
use Rattle.nf_api.specs.Routing.{IsFound}
use Rattle.onvm_packet.specs.Holding.{covers_ipv4}
use Rattle.nf_route.specs.declared.ranges.Range.{Range}

-- where a prefix has one of two addresses and not the other, a bound lies above the lower one and not above the higher
abbrev pub Parts : List ℕ → Prefix → Type 0
Parts bounds prefix =
    (low high : ℕ) → low < high → high < 2 ^ 32 → covers_ipv4 prefix low ≢ covers_ipv4 prefix high
    → (bound : ℕ) × Contains bounds bound × (low < bound) × (bound ≤ high)

-- 0 is a bound, and bounds part each prefix from the addresses that it hasn't
pub record AreBounds (table : List RouteEntry) (bounds : List ℕ) : Type 0 where
  pub zero : Contains bounds 0
  pub part : (i : ℕ) (entry : RouteEntry) → slice_get table i ≡ Some entry → Parts bounds entry.prefix

-- the first range begins at 0, and none begins below an earlier one
pub record AreOrdered (ranges : List Range) : Type 0 where
  pub some : 0 < length ranges
  pub begin : (range : Range) → slice_get ranges 0 ≡ Some range → range.first ≡ 0
  pub rise : IsNonDecreasingBy (λ range. range.first) ranges

-- an address is in the last range that begins at it or below
pub record IsIn (ranges : List Range) (target at : ℕ) (range : Range) : Type 0 where
  pub there : slice_get ranges at ≡ Some range
  pub from : range.first ≤ target
  pub upto : (later : ℕ) (other : Range) → at < later → slice_get ranges later ≡ Some other → target < other.first

-- the verdict of a range is the one for each address in it
pub record AreRanges (table : List RouteEntry) (ranges : List Range) : Type 0 where
  pub ordered : AreOrdered ranges
  pub found : (target at : ℕ) (range : Range) → target < 2 ^ 32 → IsIn ranges target at range
      → IsFound table target range.verdict
