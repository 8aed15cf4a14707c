use Rattle.std.proofs.Common.{◌≡◌, ◌∙◌, refl, sym, ap, subst, List, ◌++◌}
use Rattle.std.specs.List.{flat_map}
use Rattle.onvm_base.specs.declared.function.FunctionPlan.{FunctionPlan}
use Rattle.load_estimate.specs.declared.tick.Tick.{Tick}
use Rattle.onvm_report.specs.Report.{AreLines, IsLongerBy, WhereAsked, post_key, post_line, record_key, record_line, summary, tick_lines}
use Rattle.onvm_report.proofs.Sections.{asked, unasked, three_parts}
use Rattle.onvm_report.proofs.text.text_of.Goals.{then-options+in_ok-add_records, else-options, then-options-2+in_ok-add_posts, else-options-2, then-options-3+in_ok-add_ticks, else-options-3}
use Rattle.onvm_report.proofs.text.text_of.Goals as goal

pub returns : goal.returns
returns c =
    let functions : List FunctionPlan = c.args.functions.now in
    let records : IsLongerBy (WhereAsked c.args.options.now.records
    (AreLines record_key (record_line functions) c.args.printed.now.records.now))
    c.add_summary.new.lines c.if-options.lines =
    elim c.if-options.branch [
      | then-options+in_ok-add_records w ↦
          subst (λ text. IsLongerBy (WhereAsked c.args.options.now.records
          (AreLines record_key (record_line functions) c.args.printed.now.records.now)) c.add_summary.new.lines text)
          (sym w.lines-is) (asked _ _ _ _ w.if-options.true w.in_ok-add_records.ensures)
      | else-options w ↦ unasked _ _ _ _ w.if-options.false w.lines-is
    ] in
    let posts : IsLongerBy (WhereAsked c.args.options.now.throttle_log
    (AreLines post_key (post_line functions) c.args.printed.now.posts.now))
    c.if-options.lines c.if-options-2.lines =
    elim c.if-options-2.branch [
      | then-options-2+in_ok-add_posts w ↦
          subst (λ text. IsLongerBy (WhereAsked c.args.options.now.throttle_log
          (AreLines post_key (post_line functions) c.args.printed.now.posts.now)) c.if-options.lines text)
          (sym w.lines-is) (asked _ _ _ _ w.if-options-2.true w.in_ok-add_posts.ensures)
      | else-options-2 w ↦ unasked _ _ _ _ w.if-options-2.false w.lines-is
    ] in
    let shares : IsLongerBy (WhereAsked c.args.options.now.shares
    (λ text. text ≡ flat_map (tick_lines functions) c.args.printed.now.ticks.now))
    c.if-options-2.lines c.if-options-3.lines =
    elim c.if-options-3.branch [
      | then-options-3+in_ok-add_ticks w ↦
          asked _ _ _ _ w.if-options-3.true (record {
            part = flat_map (tick_lines functions) c.args.printed.now.ticks.now;
            part_is = refl;
            is =
                w.lines-is ∙ w.in_ok-add_ticks.ensures
                ∙ ap (λ (ticks : List Tick). c.if-options-2.lines ++ flat_map (tick_lines functions) ticks)
                w.as_slice.ensures;
          })
      | else-options-3 w ↦ unasked _ _ _ _ w.if-options-3.false w.lines-is
    ] in
    let start : c.add_summary.new.lines ≡ summary c.args.printed.now =
    c.in_ok-add_summary.ensures ∙ ap (λ text. text ++ summary c.args.printed.now) c.none-lines.ensures in
    record {
      records = records.part;
      posts = posts.part;
      shares = shares.part;
      records_are = records.part_is;
      posts_are = posts.part_is;
      shares_are = shares.part_is;
      is =
          c.into_text.ensures
          ∙ three_parts (summary c.args.printed.now) c.if-options.lines c.if-options-2.lines c.if-options-3.lines
          records.part posts.part shares.part (records.is ∙ ap (λ text. text ++ records.part) start) posts.is shares.is;
    }
