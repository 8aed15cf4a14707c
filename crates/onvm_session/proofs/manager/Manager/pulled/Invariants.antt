use Rattle.std.proofs.Common.{◌≡◌, ◌-◌, ◌*◌, ◌^◌, ◌≤◌}
use Rattle.std.specs.Prelude.{slice_get}
use Rattle.onvm_core.specs.Potential.{sum_below}
use Rattle.onvm_session.specs.Managers.{pulled_at}
use Rattle.onvm_session.proofs.manager.Manager.pulled.Given as goal

abbrev pub invariant-loop-at : goal.invariant-loop-at
invariant-loop-at g l = record {
  sum : l.pulled ≡ sum_below (λ r. pulled_at (slice_get l.self.roles.items r)) l.at;
  few : l.pulled ≤ l.at * (2 ^ 32 - 1);
}
