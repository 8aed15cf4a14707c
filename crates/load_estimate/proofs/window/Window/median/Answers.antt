use Rattle.std.proofs.Common.{◌∙◌, ap}
use Rattle.load_estimate.specs.Order.{lower_middle}
use Rattle.load_estimate.specs.Windows.{WindowState, median_of}
use Rattle.load_estimate.proofs.window.Window.median.Goals as goal

pub returns : goal.returns
returns c =
    c.median.ensures ∙ ap lower_middle c.self.invariant.times_are
    ∙ ap (λ (window : WindowState). median_of window.samples) c.self.view_is
