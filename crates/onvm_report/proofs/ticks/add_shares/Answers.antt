use Rattle.std.proofs.Common.{◌∙◌, ap, arith, ℕ, List, ◌++◌}
use Rattle.std.specs.List.{flat_map}
use Rattle.onvm_base.specs.declared.function.FunctionPlan.{FunctionPlan}
use Rattle.load_estimate.specs.declared.tick.TickLine.{TickLine}
use Rattle.onvm_report.specs.Report.{share_line}
use Rattle.onvm_report.proofs.Names.{lines_more, zip_all}
use Rattle.onvm_report.proofs.ticks.add_shares.Goals as goal

pub loop-at-preserved : goal.loop-at-preserved
loop-at-preserved c =
    let at : ℕ = c.loop-at.at in
    let functions : List FunctionPlan = c.args.functions.now in
    let shares : List TickLine = c.args.shares.now in
    let function : FunctionPlan = c.index-functions-at.result in
    lines_more c.args.lines.now c.loop-at.lines c.add_share.new.lines functions shares at function _
    (omega (arith, c.loop-at-test.true, c.min-at-end.ensures))
    (omega (arith, c.loop-at-test.true, c.min-at-end.ensures)) c.index-functions-at.is c.loop-at.invariant
    c.in_ok-add_share.ensures

pub returns : goal.returns
returns c =
    c.loop-at.invariant
    ∙ ap (λ (items : List (FunctionPlan × TickLine)). c.args.lines.now ++ flat_map share_line items)
    (zip_all c.args.functions.now c.args.shares.now c.loop-at.at
    (λ less. omega (arith, c.loop-at-test.false, c.min-at-end.ensures, less)))
