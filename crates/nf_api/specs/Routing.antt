-- Where a table of prefixes sends a frame.
use Rattle.std.specs.Prelude.{◌≡◌, ◌≢◌, ◌≤◌, ◌<◌, ◌⊎◌, ℕ, min, true, false, List, All, Some, slice_get}
use Rattle.onvm_base.specs.declared.rules.Prefix.{Prefix}
use Rattle.onvm_base.specs.declared.rules.Prefix.TheVariants as prefix
use Rattle.onvm_base.specs.declared.chain.ChainStep.{ChainStep}
use Rattle.onvm_base.specs.declared.chain.ChainStep.TheVariants as step
use Rattle.onvm_base.specs.declared.function.RouteEntry.{RouteEntry}
use Rattle.onvm_base.specs.declared.limits.TheConstants.{IPV4_BITS, IPV6_BITS}
use Rattle.onvm_base.specs.declared.outcome.Verdict.{Verdict}
use Rattle.onvm_base.specs.declared.outcome.Verdict.TheVariants.{Drop, ToService, Out}
use Rattle.onvm_packet.specs.Holding.{covers_ipv4}
use Rattle.onvm_packet.specs.declared.heads.Net.{Net}
use Rattle.onvm_packet.specs.declared.heads.Net.TheVariants as net

-- how many first bits of an address a prefix fixes: at most all of them
abbrev pub length_of : Prefix → ℕ
length_of (prefix.V4 address length) = min length IPV4_BITS
length_of (prefix.V6 address length) = min length IPV6_BITS

-- the verdict that sends a frame to a target
abbrev pub verdict_towards : ChainStep → Verdict
verdict_towards (step.To service) = ToService service
verdict_towards (step.Out port) = Out port

-- this entry stands there in the table, and the address is in its prefix
abbrev pub Matches : List RouteEntry → ℕ → ℕ → RouteEntry → Type 0
Matches table target at entry = (slice_get table at ≡ Some entry) × (covers_ipv4 entry.prefix target ≡ true)

-- among the entries whose prefix the address is in this one's is the longest, and among equal lengths it is the first
pub record Wins (table : List RouteEntry) (target : ℕ) (entry : RouteEntry) : Type 0 where
  pub at : ℕ
  pub matches : Matches table target at entry
  pub longest : (i : ℕ) (other : RouteEntry) → Matches table target i other
      → length_of other.prefix ≤ length_of entry.prefix
  pub first : (i : ℕ) (other : RouteEntry) → Matches table target i other → i < at
      → length_of other.prefix ≢ length_of entry.prefix

abbrev pub NoneMatches : List RouteEntry → ℕ → Type 0
NoneMatches table target = All (λ entry. covers_ipv4 entry.prefix target ≡ false) table

-- the verdict for an address: towards the target of the entry that wins, or Drop where no entry's prefix has it
abbrev pub IsFound : List RouteEntry → ℕ → Verdict → Type 0
IsFound table target verdict =
    ((entry : RouteEntry) × Wins table target entry × (verdict ≡ verdict_towards entry.target))
    ⊎ (NoneMatches table target × (verdict ≡ Drop))

-- the verdict for a network head: that for its target, or Drop without an IPv4 head
abbrev pub IsRouted : List RouteEntry → Net → Verdict → Type 0
IsRouted table (net.V4 at source target protocol ttl) verdict = IsFound table target verdict
IsRouted table net.None verdict = verdict ≡ Drop
IsRouted table (net.V6 at source target next hops) verdict = verdict ≡ Drop
