-- The rules that every plan keeps.
use Rattle.std.specs.Prelude.{◌≡◌, ◌≢◌, ◌≤◌, ◌<◌, ℕ, ◌==◌, ◌&&◌, ◌||◌, Bool, true, nat_le, List, [], length, All, Some, slice_get}
use Rattle.onvm_base.specs.declared.limits.TheConstants.{IPV4_BITS, IPV6_BITS, MAX_AGE, MAX_BUFFERS, MAX_BURST, MAX_CHAINS, MAX_CHAIN_STEPS, MAX_CORES, MAX_COST, MAX_DEPTH, MAX_FUNCTIONS, MAX_NAME_BYTES, MAX_PORTS, MAX_PRIORITY, MAX_RATE, MAX_RING, MAX_ROUTES, MAX_RULES, MAX_SERVICES, MAX_TAG_PRIORITY, MAX_TESTS, MAX_TICK, MAX_TRANSMIT_ROLES, MAX_VLAN, MAX_WEIGHT, MAX_WINDOW, MIN_RING, MIN_TICK}
use Rattle.onvm_base.specs.declared.ids.ChainId.{ChainId}
use Rattle.onvm_base.specs.declared.rules.Prefix.{Prefix}
use Rattle.onvm_base.specs.declared.rules.Prefix.TheVariants.{V4, V6}
use Rattle.onvm_base.specs.declared.rules.Tests.{Tests}
use Rattle.onvm_base.specs.declared.rules.RulePlan.{RulePlan}
use Rattle.onvm_base.specs.declared.chain.ChainStep.{ChainStep}
use Rattle.onvm_base.specs.declared.chain.ChainStep.TheVariants.{To as Service, Out as Port}
use Rattle.onvm_base.specs.declared.chain.ChainPlan.{ChainPlan}
use Rattle.onvm_base.specs.declared.function.RouteEntry.{RouteEntry}
use Rattle.onvm_base.specs.declared.function.Kind.{Kind}
use Rattle.onvm_base.specs.declared.function.Kind.TheVariants.{Filter, Tag, Route, Balance, Police, Nat, Guest}
use Rattle.onvm_base.specs.declared.function.FunctionPlan.{FunctionPlan}
use Rattle.onvm_base.specs.Services.{instances}

-- a number from the first to the last
abbrev pub IsFrom : ℕ → ℕ → ℕ → Type 0
IsFrom first last n = (first ≤ n) × (n ≤ last)

-- a to z, 0 to 9, - and _
abbrev pub is_name_character : ℕ → Bool
is_name_character c = (nat_le 97 c && nat_le c 122) || (nat_le 48 c && nat_le c 57) || (c == 45) || (c == 95)

pub record IsName (name : List ℕ) : Type 0 where
  pub length_of : IsFrom 1 MAX_NAME_BYTES (length name)
  pub characters : All (λ c. is_name_character c ≡ true) name

-- a prefix has no more bits than an address
pub record IsPrefix (prefix : Prefix) : Type 0 where
  pub short : (address bits : ℕ) → prefix ≡ V4 address bits → bits ≤ IPV4_BITS
  pub long : (address bits : ℕ) → prefix ≡ V6 address bits → bits ≤ IPV6_BITS

pub record IsShortPrefix (prefix : Prefix) : Type 0 where
  pub is_prefix : IsPrefix prefix
  pub is_short : (address bits : ℕ) → prefix ≢ V6 address bits

pub record AreTests (tests : Tests) : Type 0 where
  pub port : (n : ℕ) → tests.port ≡ Some n → n < MAX_PORTS
  pub vlan : (n : ℕ) → tests.vlan ≡ Some n → n ≤ MAX_VLAN
  pub source : (prefix : Prefix) → tests.src ≡ Some prefix → IsPrefix prefix
  pub target : (prefix : Prefix) → tests.dst ≡ Some prefix → IsPrefix prefix
  pub source_ports : (range : ℕ × ℕ) → tests.src_ports ≡ Some range → range.0 ≤ range.1
  pub target_ports : (range : ℕ × ℕ) → tests.dst_ports ≡ Some range → range.0 ≤ range.1

-- a kind's parameters are in their ranges
pub record IsKind (kind : Kind) : Type 0 where
  pub filter_length : (tests : List Tests) → kind ≡ Filter tests → IsFrom 1 MAX_TESTS (length tests)
  pub filter_tests : (tests : List Tests) → kind ≡ Filter tests → All AreTests tests
  pub tag_vlan : (vlan priority : ℕ) → kind ≡ Tag vlan priority → vlan ≤ MAX_VLAN
  pub tag_priority : (vlan priority : ℕ) → kind ≡ Tag vlan priority → priority ≤ MAX_TAG_PRIORITY
  pub route_length : (table : List RouteEntry) → kind ≡ Route table → IsFrom 1 MAX_ROUTES (length table)
  pub route_prefixes : (table : List RouteEntry) → kind ≡ Route table
      → All (λ entry. IsShortPrefix entry.prefix) table
  pub balance_length : (services : List ℕ) → kind ≡ Balance services → IsFrom 1 MAX_SERVICES (length services)
  pub police_rate : (rate depth : ℕ) → kind ≡ Police rate depth → IsFrom 1 MAX_RATE rate
  pub police_depth : (rate depth : ℕ) → kind ≡ Police rate depth → IsFrom 1 MAX_DEPTH depth
  pub nat_inside : (inside : Prefix) (outside : ℕ) (ports : ℕ × ℕ) → kind ≡ Nat inside outside ports
      → IsShortPrefix inside
  pub nat_ports : (inside : Prefix) (outside : ℕ) (ports : ℕ × ℕ) → kind ≡ Nat inside outside ports
      → (1 ≤ ports.0) × (ports.0 ≤ ports.1)
  pub guest_name : (guest : List ℕ) → kind ≡ Guest guest → IsName guest

-- a function of a plan with so many cores
pub record IsFunction (cores : ℕ) (function : FunctionPlan) : Type 0 where
  pub name : IsName function.name
  pub service : IsFrom 1 255 function.service
  pub core : function.core < cores
  pub kind : IsKind function.kind
  pub priority : IsFrom 1 MAX_PRIORITY function.priority
  pub weight : IsFrom 1 MAX_WEIGHT function.weight
  pub cost : function.cost ≤ MAX_COST

-- a step goes to a service that a function has, or out of a port that is there
pub record IsStep (ports : ℕ) (functions : List FunctionPlan) (step : ChainStep) : Type 0 where
  pub service : (service : ℕ) → step ≡ Service service → instances service functions ≢ []
  pub port : (port : ℕ) → step ≡ Port port → port < ports

pub record IsChainPlan (ports : ℕ) (functions : List FunctionPlan) (chain : ChainPlan) : Type 0 where
  pub name : IsName chain.name
  pub length_of : IsFrom 1 MAX_CHAIN_STEPS (length chain.steps)
  pub steps : All (IsStep ports functions) chain.steps

-- a rule of a plan with so many chains
pub record IsRule (chains : ℕ) (rule : RulePlan) : Type 0 where
  pub chain : rule.chain.0 < chains
  pub tests : AreTests rule.tests

-- two functions, at different places, have neither one name nor one service nor one guest
pub record AreDifferent (f g : FunctionPlan) : Type 0 where
  pub names : f.name ≢ g.name
  pub services : f.service ≢ g.service
  pub guests : (guest : List ℕ) → f.kind ≡ Guest guest → g.kind ≢ Guest guest

-- the numbers of a plan
pub record Sizes : Type 0 where
  pub version : ℕ
  pub ports : ℕ
  pub transmit : ℕ
  pub cores : ℕ
  pub buffers : ℕ
  pub ring : ℕ
  pub output : ℕ
  pub burst : ℕ
  pub high : ℕ
  pub low : ℕ
  pub age : ℕ
  pub window : ℕ
  pub tick : ℕ

pub record AreSizes (sizes : Sizes) : Type 0 where
  pub version : sizes.version ≡ 1
  pub ports : IsFrom 1 MAX_PORTS sizes.ports
  pub transmit : IsFrom 1 MAX_TRANSMIT_ROLES sizes.transmit
  pub cores : IsFrom 1 MAX_CORES sizes.cores
  pub buffers : IsFrom 1 MAX_BUFFERS sizes.buffers
  pub ring : IsFrom MIN_RING MAX_RING sizes.ring
  pub output : IsFrom MIN_RING MAX_RING sizes.output
  pub burst : IsFrom 1 MAX_BURST sizes.burst
  pub low : 1 ≤ sizes.low
  pub marks : sizes.low < sizes.high
  pub high : sizes.high ≤ sizes.ring
  pub age : sizes.age ≤ MAX_AGE
  pub window : IsFrom 1 MAX_WINDOW sizes.window
  pub tick : IsFrom MIN_TICK MAX_TICK sizes.tick

pub record IsPlan (sizes : Sizes) (functions : List FunctionPlan) (chains : List ChainPlan) (rules : List RulePlan)
    (default : ChainId) : Type 0 where
  pub sizes_are : AreSizes sizes
  pub function_count : IsFrom 1 MAX_FUNCTIONS (length functions)
  pub functions_are : All (IsFunction sizes.cores) functions
  pub functions_differ : (i j : ℕ) (f g : FunctionPlan) → i < j → slice_get functions i ≡ Some f
      → slice_get functions j ≡ Some g → AreDifferent f g
  pub chain_count : IsFrom 1 MAX_CHAINS (length chains)
  pub chains_are : All (IsChainPlan sizes.ports functions) chains
  pub chains_differ : (i j : ℕ) (c d : ChainPlan) → i < j → slice_get chains i ≡ Some c
      → slice_get chains j ≡ Some d → c.name ≢ d.name
  pub rule_count : length rules ≤ MAX_RULES
  pub rules_are : All (IsRule (length chains)) rules
  pub default_is : default.0 < length chains
