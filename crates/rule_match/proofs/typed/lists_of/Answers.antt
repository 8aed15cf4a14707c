use Rattle.std.proofs.Common.{◌∙◌, ap, arith}
use Rattle.std.proofs.lemmas.List.{take_all}
use Rattle.rule_match.specs.Parts.{lists_by_type}
use Rattle.rule_match.proofs.Parted.{lists_by_type-more}
use Rattle.rule_match.proofs.typed.lists_of.Goals as goal

pub loop-ethertype-preserved : goal.loop-ethertype-preserved
loop-ethertype-preserved c =
    rw c.in_ok-push.ensures.items
    (lists_by_type-more c.args.rules.now c.args.types.now _ _ _ _ c.loop-ethertype-test.true
    c.loop-ethertype.invariant (c.from_vec.ensures ∙ c.in_ok-list.ensures))

pub returns : goal.returns
returns c =
    c.loop-ethertype.invariant
    ∙ ap (lists_by_type c.args.rules.now) (take_all _ _ (omega (arith, c.loop-ethertype-test.false)))
