use Rattle.std.proofs.Common.{◌≤◌, ◌-◌, ◌^◌}
use Rattle.load_estimate.proofs.tests.a_full_window_of_the_greatest_samples_is_counted.Given as goal

-- no moment is above the greatest
abbrev pub invariant-loop : goal.invariant-loop
invariant-loop g l = l.window.latest ≤ 2 ^ 64 - 1
