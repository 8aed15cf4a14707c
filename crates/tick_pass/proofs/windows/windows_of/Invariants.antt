use Rattle.std.proofs.Common.{◌≡◌}
use Rattle.std.specs.Prelude.{replicate}
use Rattle.load_estimate.specs.Windows.{empty_window}
use Rattle.tick_pass.proofs.windows.windows_of.Given as goal

abbrev pub invariant-loop : goal.invariant-loop
invariant-loop l = l.windows.items ≡ replicate l.counter (empty_window l.plan.window)
