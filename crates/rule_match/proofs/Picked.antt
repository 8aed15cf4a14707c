-- What the first chain says of the rules, both ways.
use Rattle.std.proofs.Common.{◌≡◌, ◌∙◌, sym, ap, Bool, true, cond, Option, Some, None, List, [], ◌∷◌, ◌++◌, inl, inr, refl}
use Rattle.std.proofs.lemmas.Bool.{cases_Bool, cond-true, cond-false}
use Rattle.std.proofs.lemmas.Option.{none-some, same_Some}
use Rattle.onvm_base.specs.declared.ids.ChainId.{ChainId}
use Rattle.onvm_base.specs.declared.ids.PortId.{PortId}
use Rattle.onvm_base.specs.declared.rules.RulePlan.{RulePlan}
use Rattle.onvm_packet.specs.FlowKeys.{flow_key_of}
use Rattle.onvm_packet.proofs.Keys.{do_hold-same}
use Rattle.onvm_packet.specs.declared.heads.Heads.{Heads}
use Rattle.rule_match.specs.Rules.{first_chain, FirstHolds, NoneHolds, rule_holds}

module _ (port : PortId) (heads : Heads) where
  pub none_holds : (rules : List RulePlan) → first_chain rules port heads ≡ None → NoneHolds rules port heads
  none_holds [] none = tt
  none_holds (rule ∷ rules) none = elim (cases_Bool (rule_holds port heads rule)) [
    | inl holds ↦ absurd (none-some rule.chain (sym none ∙ cond-true _ _ _ holds))
    | inr fails ↦ (fails, none_holds rules (sym (cond-false _ _ _ fails) ∙ none))
  ]

  pub first_chain-none : (rules : List RulePlan) → NoneHolds rules port heads → first_chain rules port heads ≡ None
  first_chain-none [] fail = refl
  first_chain-none (rule ∷ rules) fail = cond-false _ _ _ fail.0 ∙ first_chain-none rules fail.1

  pub first_holds : (rules : List RulePlan) (chain : ChainId) → first_chain rules port heads ≡ Some chain
      → FirstHolds rules port heads chain
  first_holds [] chain picked = absurd (none-some chain picked)
  first_holds (rule ∷ rules) chain picked = elim (cases_Bool (rule_holds port heads rule)) [
    | inl holds ↦ ([], rule, rules, refl, tt, holds, same_Some rule.chain chain (sym (cond-true _ _ _ holds) ∙ picked))
    | inr fails ↦
        let rest = first_holds rules chain (sym (cond-false _ _ _ fails) ∙ picked) in
        (rule ∷ rest.0, rest.1, rest.2, ap (λ (t : List RulePlan). rule ∷ t) rest.3, (fails, rest.4), rest.5, rest.6)
  ]

  first_chain-behind : (before : List RulePlan) (rule : RulePlan) (behind : List RulePlan) → NoneHolds before port heads
      → rule_holds port heads rule ≡ true → first_chain (before ++ rule ∷ behind) port heads ≡ Some rule.chain
  first_chain-behind [] rule behind fail holds = cond-true _ _ _ holds
  first_chain-behind (other ∷ before) rule behind fail holds =
      cond-false _ _ _ fail.0 ∙ first_chain-behind before rule behind fail.1 holds

  pub first_chain-first : (rules : List RulePlan) (chain : ChainId) → FirstHolds rules port heads chain
      → first_chain rules port heads ≡ Some chain
  first_chain-first rules chain first =
      ap (λ (t : List RulePlan). first_chain t port heads) first.3
      ∙ first_chain-behind first.0 first.1 first.2 first.4 first.5 ∙ ap (λ (c : ChainId). Some c) first.6

module _ (port other : PortId) (heads others : Heads) (same : flow_key_of port heads ≡ flow_key_of other others) where
  pub first_chain-same : (rules : List RulePlan) → first_chain rules port heads ≡ first_chain rules other others
  first_chain-same [] = refl
  first_chain-same (rule ∷ rules) =
      ap (λ (holds : Bool). cond holds (Some rule.chain) (first_chain rules port heads))
      (do_hold-same rule.tests port other heads others same)
      ∙ ap (λ (rest : Option ChainId). cond (rule_holds other others rule) (Some rule.chain) rest) (first_chain-same rules)
