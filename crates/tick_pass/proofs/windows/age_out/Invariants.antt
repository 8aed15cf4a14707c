use Rattle.std.proofs.Common.{◌≡◌}
use Rattle.load_estimate.specs.Windows.{without_old}
use Rattle.tick_pass.proofs.Windowing.{changed_front}
use Rattle.tick_pass.proofs.windows.age_out.Given as goal

abbrev pub invariant-loop-window : goal.invariant-loop-window
invariant-loop-window l = l.windows ≡ changed_front (without_old l.now) l.window-index l.initial.windows
