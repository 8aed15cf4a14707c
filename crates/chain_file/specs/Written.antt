-- The written form of a plan: every key with its value, in the order of the tables, without white space.
use Rattle.std.specs.Prelude.{ℕ, ◌/◌, ◌%◌, Option, Some, None, List, [], ◌∷◌, ◌++◌, map, codes, decimal, slice_get, option_map, unwrap_or}
use Rattle.std.specs.List.{flat_map}
use Rattle.std.specs.Char.{digit_char}
use Rattle.std.specs.Int.{w128, to_be_bytes}
use Rattle.serde_json.specs.Data.{Data, number, unsigned, string, array, object, Members, no_members, member}
use Rattle.serde_json.specs.View.{items_of}
use Rattle.serde_json.specs.Written.{compact_text}
use Rattle.onvm_base.specs.declared.rules.Prefix.{Prefix}
use Rattle.onvm_base.specs.declared.rules.Prefix.TheVariants.{V4, V6}
use Rattle.onvm_base.specs.declared.rules.Tests.{Tests}
use Rattle.onvm_base.specs.declared.rules.RulePlan.{RulePlan}
use Rattle.onvm_base.specs.declared.chain.ChainStep.{ChainStep}
use Rattle.onvm_base.specs.declared.chain.ChainStep.TheVariants as step
use Rattle.onvm_base.specs.declared.chain.ChainPlan.{ChainPlan}
use Rattle.onvm_base.specs.declared.function.RouteEntry.{RouteEntry}
use Rattle.onvm_base.specs.declared.function.Kind.{Kind}
use Rattle.onvm_base.specs.declared.function.Kind.TheVariants as kind
use Rattle.onvm_base.specs.declared.function.FunctionPlan.{FunctionPlan}
use Rattle.onvm_base.specs.declared.plan.Plan.{Plan}

-- ---- trees

-- a key of an object with its value, or without one: then it isn't written
abbrev pub Row : Type 0
Row = List ℕ × Option Data

abbrev pub row : List ℕ → Data → Row
row key d = (key, Some d)

abbrev pub natural : ℕ → Data
natural n = number (unsigned n)

abbrev pub natural_row : List ℕ → ℕ → Row
natural_row key n = row key (natural n)

abbrev pub member_if : List ℕ → Option Data → Members → Members
member_if key None ms = ms
member_if key (Some d) ms = member key d ms

abbrev pub members_of : List Row → Members
members_of [] = no_members
members_of (r ∷ rs) = member_if r.0 r.1 (members_of rs)

abbrev pub object_of : List Row → Data
object_of rows = object (members_of rows)

abbrev pub list : List Data → Data
list ds = array (items_of ds)

abbrev pub range : ℕ × ℕ → Data
range pair = list (natural pair.0 ∷ natural pair.1 ∷ [])

-- ---- spellings

-- a number up to a mark, and the rest
abbrev pub number_to : ℕ → ℕ → List ℕ → List ℕ
number_to mark n rest = decimal n ++ mark ∷ rest

abbrev pub v4_text : ℕ → List ℕ
v4_text address =
    number_to 46 (address / 16777216)
    (number_to 46 (address / 65536 % 256) (number_to 46 (address / 256 % 256) (decimal (address % 256))))

abbrev pub hex_digits : ℕ → List ℕ
hex_digits byte = digit_char (byte / 16) ∷ digit_char (byte % 16) ∷ []

abbrev pub hex_text : List ℕ → List ℕ
hex_text bytes = flat_map hex_digits bytes

abbrev pub prefix_text : Prefix → List ℕ
prefix_text (V4 address bits) = v4_text address ++ 47 ∷ decimal bits
prefix_text (V6 address bits) = hex_text (to_be_bytes w128 address) ++ 47 ∷ decimal bits

abbrev pub prefix : Prefix → Data
prefix p = string (prefix_text p)

-- ---- rules and chains

abbrev pub test_rows : Tests → List Row
test_rows t =
    (codes "port", option_map natural t.port)
    ∷ (codes "vlan", option_map natural t.vlan)
    ∷ (codes "type", option_map natural t.ethertype)
    ∷ (codes "src", option_map prefix t.src)
    ∷ (codes "dst", option_map prefix t.dst)
    ∷ (codes "protocol", option_map natural t.protocol)
    ∷ (codes "src_ports", option_map range t.src_ports)
    ∷ (codes "dst_ports", option_map range t.dst_ports)
    ∷ []

abbrev pub tests : Tests → Data
tests t = object_of (test_rows t)

abbrev pub step_row : ChainStep → Row
step_row (step.To service) = natural_row (codes "to") service
step_row (step.Out port) = natural_row (codes "out") port

abbrev pub one_step : ChainStep → Data
one_step s = object_of (step_row s ∷ [])

abbrev pub chain_rows : ChainPlan → List Row
chain_rows c = row (codes "name") (string c.name) ∷ row (codes "steps") (list (map one_step c.steps)) ∷ []

abbrev pub chain : ChainPlan → Data
chain c = object_of (chain_rows c)

-- the name of the chain of a number
abbrev pub name_of_chain : List ChainPlan → ℕ → List ℕ
name_of_chain chains n = unwrap_or (option_map (λ c. c.name) (slice_get chains n)) []

abbrev pub rule_rows : List ChainPlan → RulePlan → List Row
rule_rows chains r =
    row (codes "chain") (string (name_of_chain chains r.chain.0)) ∷ row (codes "match") (tests r.tests) ∷ []

abbrev pub rule : List ChainPlan → RulePlan → Data
rule chains r = object_of (rule_rows chains r)

-- ---- functions

abbrev pub entry : RouteEntry → Data
entry e = object_of (row (codes "prefix") (prefix e.prefix) ∷ step_row e.target ∷ [])

abbrev pub word : Kind → List ℕ
word kind.Forward = codes "forward"
word kind.Drop = codes "drop"
word (kind.Out port) = codes "out"
word (kind.To service) = codes "to"
word (kind.Filter ts) = codes "filter"
word kind.Ttl = codes "ttl"
word (kind.Tag vlan priority) = codes "tag"
word kind.Untag = codes "untag"
word (kind.Macs target source) = codes "macs"
word (kind.Route table) = codes "route"
word (kind.Balance services) = codes "balance"
word kind.Count = codes "count"
word (kind.Police rate depth) = codes "police"
word (kind.Nat inside outside ports) = codes "nat"
word (kind.Guest guest) = codes "guest"

-- the kind's own keys
abbrev pub own_rows : Kind → List Row
own_rows kind.Forward = []
own_rows kind.Drop = []
own_rows (kind.Out port) = natural_row (codes "port") port ∷ []
own_rows (kind.To service) = natural_row (codes "to_service") service ∷ []
own_rows (kind.Filter ts) = row (codes "match") (list (map tests ts)) ∷ []
own_rows kind.Ttl = []
own_rows (kind.Tag vlan priority) = natural_row (codes "vlan") vlan ∷ natural_row (codes "tag_priority") priority ∷ []
own_rows kind.Untag = []
own_rows (kind.Macs target source) =
    row (codes "target") (string (hex_text target)) ∷ row (codes "source") (string (hex_text source)) ∷ []
own_rows (kind.Route table) = row (codes "table") (list (map entry table)) ∷ []
own_rows (kind.Balance services) = row (codes "services") (list (map natural services)) ∷ []
own_rows kind.Count = []
own_rows (kind.Police rate depth) = natural_row (codes "rate") rate ∷ natural_row (codes "depth") depth ∷ []
own_rows (kind.Nat inside outside ports) =
    row (codes "inside") (prefix inside) ∷ row (codes "outside") (string (v4_text outside)) ∷ row (codes "ports") (range ports) ∷ []
own_rows (kind.Guest guest) = row (codes "guest") (string guest) ∷ []

-- a function of this kind
abbrev pub function_rows : FunctionPlan → Kind → List Row
function_rows f kind =
    row (codes "name") (string f.name)
    ∷ natural_row (codes "service") f.service
    ∷ natural_row (codes "core") f.core
    ∷ row (codes "kind") (string (word kind))
    ∷ natural_row (codes "priority") f.priority
    ∷ natural_row (codes "weight") f.weight
    ∷ natural_row (codes "cost") f.cost
    ∷ own_rows kind

abbrev pub function : FunctionPlan → Data
function f = object_of (function_rows f f.kind)

-- ---- the plan

abbrev pub plan_rows : Plan → List Row
plan_rows p =
    natural_row (codes "version") p.version
    ∷ natural_row (codes "ports") p.ports
    ∷ natural_row (codes "transmit") p.transmit
    ∷ natural_row (codes "cores") p.cores
    ∷ natural_row (codes "buffers") p.buffers
    ∷ natural_row (codes "ring") p.ring
    ∷ natural_row (codes "output") p.output
    ∷ natural_row (codes "burst") p.burst
    ∷ natural_row (codes "high") p.high
    ∷ natural_row (codes "low") p.low
    ∷ natural_row (codes "age") p.age
    ∷ natural_row (codes "window") p.window
    ∷ natural_row (codes "tick") p.tick
    ∷ row (codes "functions") (list (map function p.functions))
    ∷ row (codes "chains") (list (map chain p.chains))
    ∷ row (codes "rules") (list (map (rule p.chains) p.rules))
    ∷ row (codes "default") (string (name_of_chain p.chains p.default.0))
    ∷ []

abbrev pub form : Plan → Data
form p = object_of (plan_rows p)

abbrev pub written : Plan → List ℕ
written p = compact_text (form p)
