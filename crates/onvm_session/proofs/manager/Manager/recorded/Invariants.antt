use Rattle.std.proofs.Common.{◌≡◌, length}
use Rattle.onvm_core.specs.Potential.{sum_below}
use Rattle.onvm_promises.specs.Kept.{at_most_64_bits}
use Rattle.onvm_session.specs.Managers.{keeps_in}
use Rattle.onvm_session.proofs.manager.Manager.recorded.Given as goal

abbrev pub invariant-loop-at : goal.invariant-loop-at
invariant-loop-at g l = record {
  sum : l.recorded ≡ at_most_64_bits
      (sum_below (λ r. length (keeps_in l.self.roles.items r).feeder.outcomes.records) l.at);
}
