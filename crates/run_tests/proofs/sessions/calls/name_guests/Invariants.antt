use Rattle.std.proofs.Common.{◌≡◌, ◌<◌, ℕ, [], length}
use Rattle.std.specs.Prelude.{slice_index_or}
use Rattle.onvm_base.specs.declared.function.FunctionPlan.{FunctionPlan}
use Rattle.chain_file.specs.Guests.{HasGuest}
use Rattle.run_tests.proofs.sessions.calls.name_guests.Given as goal

abbrev pub invariant-loop-at : goal.invariant-loop-at
invariant-loop-at l = record {
  below : (k : ℕ) (d : FunctionPlan) → k < l.at → HasGuest [] (slice_index_or l.functions k d).kind;
  end : l.at-end ≡ length l.functions;
}
