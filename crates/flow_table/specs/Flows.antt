-- What a table of flows stands for, and what it remembers.
use Rattle.std.specs.Prelude.{◌≡◌, All, List, Option}
use Rattle.onvm_base.specs.declared.ids.ChainId.{ChainId}
use Rattle.onvm_base.specs.declared.ids.PortId.{PortId}
use Rattle.onvm_base.specs.declared.plan.Plan.{Plan}
use Rattle.onvm_base.specs.declared.rules.RulePlan.{RulePlan}
use Rattle.onvm_packet.specs.FlowKeys.{flow_key_of}
use Rattle.onvm_packet.specs.declared.flow_key.FlowKey.{FlowKey}
use Rattle.onvm_packet.specs.declared.heads.Heads.{Heads}
use Rattle.rule_match.specs.Rules.{first_chain}

-- the rules for the frames that a port receives
pub record PortRules : Type 0 where
  pub port : PortId
  pub rules : List RulePlan

abbrev pub table_of : Plan → PortId → PortRules
table_of plan own = record { port = own; rules = plan.rules }

-- what is remembered of a flow is what the rules pick for each of its frames
abbrev pub Remembers : PortId → List RulePlan → List (FlowKey × Option ChainId) → Type 0
Remembers port rules =
    All (λ flow. (heads : Heads) → flow_key_of port heads ≡ flow.0 → flow.1 ≡ first_chain rules port heads)
