-- Numbers that fit the types of a plan's fields, where the rules of a plan don't say so.
use Rattle.std.specs.Prelude.{ℕ, ◌≡◌, ◌<◌, ◌^◌, List, length, All, IfSome, ⊤}
use Rattle.onvm_base.specs.declared.rules.Prefix.{Prefix}
use Rattle.onvm_base.specs.declared.rules.Prefix.TheVariants.{V4, V6}
use Rattle.onvm_base.specs.declared.rules.Tests.{Tests}
use Rattle.onvm_base.specs.declared.chain.ChainStep.{ChainStep}
use Rattle.onvm_base.specs.declared.chain.ChainStep.TheVariants as step
use Rattle.onvm_base.specs.declared.function.RouteEntry.{RouteEntry}
use Rattle.onvm_base.specs.declared.function.Kind.{Kind}
use Rattle.onvm_base.specs.declared.function.Kind.TheVariants as kind
use Rattle.onvm_base.specs.declared.plan.Plan.{Plan}

abbrev pub PrefixFits : Prefix → Type 0
PrefixFits (V4 address bits) = address < 2 ^ 32
PrefixFits (V6 address bits) = address < 2 ^ 128

pub record TestsFit (tests : Tests) : Type 0 where
  pub ethertype : IfSome tests.ethertype (λ n. n < 2 ^ 16)
  pub protocol : IfSome tests.protocol (λ n. n < 2 ^ 8)
  pub source : IfSome tests.src PrefixFits
  pub target : IfSome tests.dst PrefixFits
  pub source_ports : IfSome tests.src_ports (λ range. range.1 < 2 ^ 16)
  pub target_ports : IfSome tests.dst_ports (λ range. range.1 < 2 ^ 16)

abbrev pub TargetFits : ChainStep → Type 0
TargetFits (step.To service) = service < 2 ^ 8
TargetFits (step.Out port) = port < 2 ^ 8

pub record EntryFits (entry : RouteEntry) : Type 0 where
  pub prefix : PrefixFits entry.prefix
  pub target : TargetFits entry.target

pub record IsAddress (bytes : List ℕ) : Type 0 where
  pub six : length bytes ≡ 6
  pub are_bytes : All (λ byte. byte < 2 ^ 8) bytes

abbrev pub KindFits : Kind → Type 0
KindFits kind.Forward = ⊤
KindFits kind.Drop = ⊤
KindFits (kind.Out port) = port < 2 ^ 8
KindFits (kind.To service) = service < 2 ^ 8
KindFits (kind.Filter tests) = All TestsFit tests
KindFits kind.Ttl = ⊤
KindFits (kind.Tag vlan priority) = ⊤
KindFits kind.Untag = ⊤
KindFits (kind.Macs target source) = IsAddress target × IsAddress source
KindFits (kind.Route table) = All EntryFits table
KindFits (kind.Balance services) = All (λ service. service < 2 ^ 8) services
KindFits kind.Count = ⊤
KindFits (kind.Police rate depth) = ⊤
KindFits (kind.Nat inside outside ports) = PrefixFits inside × (outside < 2 ^ 32) × (ports.1 < 2 ^ 16)
KindFits (kind.Guest guest) = ⊤

-- what holds of every plan in memory, since its fields have types
pub record PlanFits (plan : Plan) : Type 0 where
  pub kinds : All (λ function. KindFits function.kind) plan.functions
  pub rules : All (λ rule. TestsFit rule.tests) plan.rules
