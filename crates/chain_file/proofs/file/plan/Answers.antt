use Rattle.std.proofs.Common.{◌≡◌, ℕ, None, sym, ap, ◌∙◌, subst, codes}
use Rattle.serde_json.specs.View.{view}
use Rattle.chain_file.specs.Guests.{names_of}
use Rattle.chain_file.specs.Rules.{chain_at}
use Rattle.chain_file.specs.Values.{under}
use Rattle.chain_file.specs.File.{of_chains, of_rules, of_default, TopIsRight, RulesAreRight, Tells, TellsFirst, rule_place, rule_cause_at, rules_of, default_place}
use Rattle.chain_file.proofs.KeptPlan.{kept_by}
use Rattle.chain_file.proofs.Stages.{same_functions, right_functions, same_chains, told_chains, right_chains, few_chains}
use Rattle.chain_file.proofs.Untold.{not_some, top_few}
use Rattle.chain_file.proofs.file.plan.Goals as goal

pub functions-requires-clause-few : goal.functions-requires-clause-few
functions-requires-clause-few g c =
    let d = view c.args.tree.now in
    let captures = c.args.captures in
    let guests = (names_of c.args.guests.now) in
    let e = c.top-top.ensures.judged in
    let top : TopIsRight captures d = ap (λ t. t.cause) (sym e) ∙ not_some _ c.in_default.not-Some in
    (top_few captures d top).functions

pub chains-requires-clause-few : goal.chains-requires-clause-few
chains-requires-clause-few g c =
    let d = view c.args.tree.now in
    let captures = c.args.captures in
    let guests = (names_of c.args.guests.now) in
    let e = c.top-top.ensures.judged in
    let top : TopIsRight captures d = ap (λ t. t.cause) (sym e) ∙ not_some _ c.in_default.not-Some in
    (top_few captures d top).chains

pub rules-requires-clause-few : goal.rules-requires-clause-few
rules-requires-clause-few g c =
    let d = view c.args.tree.now in
    let captures = c.args.captures in
    let guests = (names_of c.args.guests.now) in
    let e = c.top-top.ensures.judged in
    let top : TopIsRight captures d = ap (λ t. t.cause) (sym e) ∙ not_some _ c.in_default.not-Some in
    (top_few captures d top).rules

pub rules-requires-clause-chains : goal.rules-requires-clause-chains
rules-requires-clause-chains g c =
    let d = view c.args.tree.now in
    let captures = c.args.captures in
    let guests = (names_of c.args.guests.now) in
    let e = c.top-top.ensures.judged in
    let top : TopIsRight captures d = ap (λ t. t.cause) (sym e) ∙ not_some _ c.in_default.not-Some in
    few_chains c.top-top.result.value.ports c.as_slice.result.now (under (codes "chains") d) _ (c.as_slice-2.ensures ∙ c.in-Ok-chains.ensures.all) (top_few captures d top).chains

pub default-requires : goal.default-requires
default-requires g c =
    let d = view c.args.tree.now in
    let captures = c.args.captures in
    let guests = (names_of c.args.guests.now) in
    let e = c.top-top.ensures.judged in
    let top : TopIsRight captures d = ap (λ t. t.cause) (sym e) ∙ not_some _ c.in_default.not-Some in
    few_chains c.top-top.result.value.ports c.as_slice.result.now (under (codes "chains") d) _ (c.as_slice-3.ensures ∙ c.in-Ok-chains.ensures.all) (top_few captures d top).chains

pub returns-in-Err-chains-clause-fault : goal.returns-in-Err-chains-clause-fault
returns-in-Err-chains-clause-fault g c =
    let d = view c.args.tree.now in
    let captures = c.args.captures in
    let guests = (names_of c.args.guests.now) in
    let e = c.top-top.ensures.judged in
    let top : TopIsRight captures d = ap (λ t. t.cause) (sym e) ∙ not_some _ c.in_default.not-Some in
    let fs = c.as_slice.ensures ∙ c.in-Ok.ensures.all ∙ same_functions captures guests d c.top-top.result e in
    let functions = right_functions captures guests d c.top-top.result e c.in-Ok.ensures.right in
    of_chains top functions (told_chains captures guests d c.top-top.result c.as_slice.result.now c.in-Err-chains.fault e fs c.in-Err-chains.ensures.err)

pub returns-in-Err-rules-clause-fault : goal.returns-in-Err-rules-clause-fault
returns-in-Err-rules-clause-fault g c =
    let d = view c.args.tree.now in
    let captures = c.args.captures in
    let guests = (names_of c.args.guests.now) in
    let e = c.top-top.ensures.judged in
    let top : TopIsRight captures d = ap (λ t. t.cause) (sym e) ∙ not_some _ c.in_default.not-Some in
    let fs = c.as_slice.ensures ∙ c.in-Ok.ensures.all ∙ same_functions captures guests d c.top-top.result e in
    let functions = right_functions captures guests d c.top-top.result e c.in-Ok.ensures.right in
    let chains = right_chains captures guests d c.top-top.result c.as_slice.result.now e fs c.in-Ok-chains.ensures.right c.in-Ok-chains.ensures.steps in
    let made = c.in-Ok-chains.ensures.all ∙ same_chains captures guests d c.top-top.result c.as_slice.result.now e fs in
    let cs = c.as_slice-2.ensures ∙ made in
    of_rules top functions chains (subst (λ ks. TellsFirst rule_place (rule_cause_at ks (under (codes "rules") d)) c.in-Err-rules.fault) cs c.in-Err-rules.ensures.err)

pub returns-in-Err-default-clause-fault : goal.returns-in-Err-default-clause-fault
returns-in-Err-default-clause-fault g c =
    let d = view c.args.tree.now in
    let captures = c.args.captures in
    let guests = (names_of c.args.guests.now) in
    let e = c.top-top.ensures.judged in
    let top : TopIsRight captures d = ap (λ t. t.cause) (sym e) ∙ not_some _ c.in_default.not-Some in
    let fs = c.as_slice.ensures ∙ c.in-Ok.ensures.all ∙ same_functions captures guests d c.top-top.result e in
    let functions = right_functions captures guests d c.top-top.result e c.in-Ok.ensures.right in
    let chains = right_chains captures guests d c.top-top.result c.as_slice.result.now e fs c.in-Ok-chains.ensures.right c.in-Ok-chains.ensures.steps in
    let made = c.in-Ok-chains.ensures.all ∙ same_chains captures guests d c.top-top.result c.as_slice.result.now e fs in
    let cs = c.as_slice-2.ensures ∙ made in
    let rules : RulesAreRight captures guests d = subst (λ ks. (k : ℕ) → rule_cause_at ks (under (codes "rules") d) k ≡ None) cs c.in-Ok-rules.ensures.right in
    let ks = c.as_slice-3.ensures ∙ made in
    of_default top functions chains rules (subst (λ ks. Tells default_place (chain_at ks (codes "default") d).cause c.in-Err-default.fault) ks c.in-Err-default.ensures.err)

pub returns-clause-plan : goal.returns-clause-plan
returns-clause-plan g c =
    let d = view c.args.tree.now in
    let captures = c.args.captures in
    let guests = (names_of c.args.guests.now) in
    let e = c.top-top.ensures.judged in
    let top : TopIsRight captures d = ap (λ t. t.cause) (sym e) ∙ not_some _ c.in_default.not-Some in
    let fs = c.as_slice.ensures ∙ c.in-Ok.ensures.all ∙ same_functions captures guests d c.top-top.result e in
    let functions = right_functions captures guests d c.top-top.result e c.in-Ok.ensures.right in
    let chains = right_chains captures guests d c.top-top.result c.as_slice.result.now e fs c.in-Ok-chains.ensures.right c.in-Ok-chains.ensures.steps in
    let made = c.in-Ok-chains.ensures.all ∙ same_chains captures guests d c.top-top.result c.as_slice.result.now e fs in
    let cs = c.as_slice-2.ensures ∙ made in
    let rules : RulesAreRight captures guests d = subst (λ ks. (k : ℕ) → rule_cause_at ks (under (codes "rules") d) k ≡ None) cs c.in-Ok-rules.ensures.right in
    let ks = c.as_slice-3.ensures ∙ made in
    record {
      top = top;
      functions = functions;
      chains = chains;
      rules = rules;
      default = ap (λ cs. (chain_at cs (codes "default") d).cause) (sym ks) ∙ c.in-Ok-default.ensures.right;
      sizes_are = c.plan_of.ensures.numbers ∙ ap (λ t. t.value) e;
      functions_are = c.plan_of.ensures.functions ∙ c.in-Ok.ensures.all ∙ same_functions captures guests d c.top-top.result e;
      chains_are = c.plan_of.ensures.chains ∙ made;
      rules_are = c.plan_of.ensures.rules ∙ c.in-Ok-rules.ensures.all ∙ ap (λ cs. rules_of cs (under (codes "rules") d)) cs;
      default_is = c.plan_of.ensures.default ∙ c.in-Ok-default.ensures.value ∙ ap (λ cs. (chain_at cs (codes "default") d).value) ks;
    }

pub plan_of-requires : goal.plan_of-requires
plan_of-requires g c =
    let d = view c.args.tree.now in
    let captures = c.args.captures in
    let guests = (names_of c.args.guests.now) in
    let e = c.top-top.ensures.judged in
    let top : TopIsRight captures d = ap (λ t. t.cause) (sym e) ∙ not_some _ c.in_default.not-Some in
    let fs = c.as_slice.ensures ∙ c.in-Ok.ensures.all ∙ same_functions captures guests d c.top-top.result e in
    let functions = right_functions captures guests d c.top-top.result e c.in-Ok.ensures.right in
    let chains = right_chains captures guests d c.top-top.result c.as_slice.result.now e fs c.in-Ok-chains.ensures.right c.in-Ok-chains.ensures.steps in
    let made = c.in-Ok-chains.ensures.all ∙ same_chains captures guests d c.top-top.result c.as_slice.result.now e fs in
    let cs = c.as_slice-2.ensures ∙ made in
    let rules : RulesAreRight captures guests d = subst (λ ks. (k : ℕ) → rule_cause_at ks (under (codes "rules") d) k ≡ None) cs c.in-Ok-rules.ensures.right in
    let ks = c.as_slice-3.ensures ∙ made in
    kept_by captures guests d c.top-top.result.value c.in-Ok.functions c.in-Ok-chains.chains c.in-Ok-rules.rules
    c.in-Ok-default.default
    (ap (λ t. t.value) e)
    (c.in-Ok.ensures.all ∙ same_functions captures guests d c.top-top.result e)
    made
    (c.in-Ok-rules.ensures.all ∙ ap (λ cs. rules_of cs (under (codes "rules") d)) cs)
    (c.in-Ok-default.ensures.value ∙ ap (λ cs. (chain_at cs (codes "default") d).value) ks)
    top functions chains rules
    (ap (λ cs. (chain_at cs (codes "default") d).cause) (sym ks) ∙ c.in-Ok-default.ensures.right)
