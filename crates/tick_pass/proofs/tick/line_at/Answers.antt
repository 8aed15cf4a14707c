use Rattle.std.proofs.Common.{◌≡◌, ◌∙◌, ap, arith}
use Rattle.load_estimate.specs.Windows.{WindowState, empty_window}
use Rattle.cpu_shares.specs.Shares.{load_in}
use Rattle.tick_pass.specs.Telling.{load_at}
use Rattle.tick_pass.proofs.Residing.{number}
use Rattle.tick_pass.proofs.Tells.{line_is}
use Rattle.tick_pass.proofs.Windowing.{get_or_any}
use Rattle.tick_pass.proofs.tick.line_at.Goals as goal

pub returns-clause-line : goal.returns-clause-line
returns-clause-line c samples now function current found =
    let windows = c.args.windows.now in
    let load : c.load_of-load.result ≡ load_at windows (number c.args.f) =
    c.load_of-load.ensures
    ∙ ap (λ (v : WindowState). load_in v.samples)
    (c.index-windows-f.is
    ∙ get_or_any windows c.args.f c.index-windows-f.result (empty_window 0)
    (omega (arith, c.requires.known, c.requires.windows.long))) in
    line_is c.args.plan.now c.args.ticks.now samples now c.args.f function windows c.load_of-load.result
    c.share-share.result c.weight_told-weight.result current found load
    (c.share-share.ensures.share samples now function current found) (c.weight_told-weight.ensures function found)
