use Rattle.std.proofs.Common.{◌≡◌, ◌≤◌, ◌++◌, drop, length, map}
use Rattle.nf_registry.specs.Places.{residents, residents_from}
use Rattle.tick_pass.specs.Telling.{load_at, priority_at}
use Rattle.tick_pass.specs.Roles.{HasCoreRoom}
use Rattle.tick_pass.proofs.loads.CoreLoads.gather.Given as goal

abbrev pub invariant-loop-f : goal.invariant-loop-f
invariant-loop-f l = record {
  loads :
      l.self.loads.items ++ map (load_at l.windows) (residents_from l.f l.core (drop l.f l.plan.functions))
      ≡ map (load_at l.windows) (residents l.core l.plan.functions);
  priorities :
      l.self.priorities.items
      ++ map (priority_at l.plan.functions) (residents_from l.f l.core (drop l.f l.plan.functions))
      ≡ map (priority_at l.plan.functions) (residents l.core l.plan.functions);
  few : length l.self.loads.items ≤ l.f;
  as_few : length l.self.priorities.items ≤ l.f;
  room : HasCoreRoom l.self;
}
