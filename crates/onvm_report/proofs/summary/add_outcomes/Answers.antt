use Rattle.std.proofs.Common.{◌≡◌, ◌∙◌, ap, subst, ◌++◌, List, OnOk}
use Rattle.onvm_base.specs.declared.outcome.Record.{Record}
use Rattle.onvm_report.specs.declared.tally.Tally.{Tally}
use Rattle.onvm_report.specs.Report.{outcome_lines, tally_of}
use Rattle.onvm_report.proofs.summary.add_outcomes.Goals as goal

pub returns : goal.returns
returns c =
    subst
    (λ (tally : Tally). OnOk c.add_tally.result (c.add_tally.new.lines ≡ c.args.lines.now ++ outcome_lines tally))
    (c.of-tally.ensures ∙ ap (λ (records : List Record). tally_of records) c.as_slice.ensures) c.add_tally.ensures
