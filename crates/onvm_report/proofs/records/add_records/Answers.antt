use Rattle.std.proofs.Common.{◌≡◌, ◌∙◌, refl, sym, ap, subst, arith, rules, List, ◌++◌}
use Rattle.std.specs.List.{flat_map}
use Rattle.std.specs.List.Sorted.{IsStableByKey}
use Rattle.std.specs.Ordering.{nat_cmp}
use Rattle.std.proofs.lemmas.Fn.{always_returns_same}
use Rattle.std.proofs.lemmas.List.{take_all}
use Rattle.std.proofs.lemmas.List.Sorted.{IsNonDecreasingBy-from_sort_by_key}
use Rattle.onvm_base.specs.declared.outcome.Record.{Record}
use Rattle.onvm_report.specs.Report.{AreOrdered, record_key, record_line}
use Rattle.onvm_report.proofs.records.add_records.Goals as goal

-- the records in their order, and a line for each
pub returns : goal.returns
returns c =
    let given : c.in_ok-ordered.ordered ≡ c.args.records.now = search rules in
    let ordered : AreOrdered record_key c.args.records.now c.sort_by_key.new.self = record {
      same = search rules;
      rising =
          IsNonDecreasingBy-from_sort_by_key record_key _ c.in_ok-sort_by_key.ensures.sorted (λ a r q k. search rules);
      stable =
          subst (λ (items : List Record). IsStableByKey record_key nat_cmp items c.sort_by_key.new.self) given
          (c.in_ok-sort_by_key.ensures.stable record_key
          (always_returns_same _ (λ a r. r ≡ record_key a.0.now) _ (λ a r q k. search rules)));
    } in
    record {
      part = flat_map (record_line c.args.functions.now) c.as_slice-item-items.result.now;
      part_is = record {
        ordered = c.as_slice-item-items.result.now;
        are_ordered =
            subst (λ (items : List Record). AreOrdered record_key c.args.records.now items) (sym c.as_slice-item-items.ensures)
            ordered;
        is = refl;
      };
      is =
          c.loop-item.invariant
          ∙ ap (λ (items : List Record). c.args.lines.now ++ flat_map (record_line c.args.functions.now) items)
          (take_all c.loop-item.item-index c.as_slice-item-items.result.now (omega arith));
    }
