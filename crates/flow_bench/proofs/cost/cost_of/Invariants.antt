use Rattle.std.proofs.Common.{◌≡◌}
use Rattle.flow_bench.proofs.cost.cost_of.Given as goal

-- both tables are of the plan's rules
abbrev pub invariant-loop : goal.invariant-loop
invariant-loop g l = (l.few.rules ≡ l.plan.rules) × (l.many.rules ≡ l.plan.rules)
