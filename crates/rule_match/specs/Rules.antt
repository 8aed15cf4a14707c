-- The chain of a frame, by the rules in file order.
use Rattle.std.specs.Prelude.{◌≡◌, Bool, true, false, if◌then◌else◌, Option, Some, None, unwrap_or, List, [], ◌∷◌, ◌++◌}
use Rattle.std.specs.List.{AllByRecursion}
use Rattle.onvm_base.specs.declared.ids.ChainId.{ChainId}
use Rattle.onvm_base.specs.declared.ids.PortId.{PortId}
use Rattle.onvm_base.specs.declared.rules.RulePlan.{RulePlan}
use Rattle.onvm_packet.specs.Holding.{do_hold}
use Rattle.onvm_packet.specs.declared.heads.Heads.{Heads}

abbrev pub rule_holds : PortId → Heads → RulePlan → Bool
rule_holds port heads rule = do_hold rule.tests port heads

-- the chain of the first rule that holds
abbrev pub first_chain : List RulePlan → PortId → Heads → Option ChainId
first_chain [] port heads = None
first_chain (rule ∷ rules) port heads =
    if rule_holds port heads rule then Some rule.chain else first_chain rules port heads

-- a frame that no rule holds for has the default chain
abbrev pub chain_of : List RulePlan → ChainId → PortId → Heads → ChainId
chain_of rules default port heads = unwrap_or (first_chain rules port heads) default

abbrev pub NoneHolds : List RulePlan → PortId → Heads → Type 0
NoneHolds rules port heads = AllByRecursion (λ rule. rule_holds port heads rule ≡ false) rules

-- a rule with this chain holds, and none before it does
abbrev pub FirstHolds : List RulePlan → PortId → Heads → ChainId → Type 0
FirstHolds rules port heads chain =
    (before : List RulePlan) × (rule : RulePlan) × (behind : List RulePlan)
    × (rules ≡ before ++ rule ∷ behind) × NoneHolds before port heads × (rule_holds port heads rule ≡ true)
    × (rule.chain ≡ chain)
