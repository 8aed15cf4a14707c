use Rattle.std.proofs.Common.{◌∙◌, [], ◌∷◌, arith, length-append}
use Rattle.rule_match.proofs.Parted.{ArePartedByPort-more}
use Rattle.rule_match.proofs.compiled.rules_by_port.Goals as goal

pub loop-port-preserved : goal.loop-port-preserved
loop-port-preserved c =
    let list = c.in_ok-make.ensures ∙ c.from_vec-list.ensures ∙ rw c.as_slice.ensures at c.in_ok-rules_of.ensures in
    rw c.in_ok-push.ensures.items
    (record {
      count = omega (arith, length-append c.loop-port.ports.items (c.in_ok-make.field-0 ∷ []), c.loop-port.invariant.count);
      parted =
          ArePartedByPort-more c.args.rules.now c.loop-port.ports.items _ _ c.loop-port.invariant.count list
          c.loop-port.invariant.parted;
    })
