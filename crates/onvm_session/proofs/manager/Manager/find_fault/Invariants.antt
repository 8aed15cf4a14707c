use Rattle.std.proofs.Common.{◌≡◌, ◌≤◌, ◌<◌, ℕ, IsSome, length, true}
use Rattle.std.specs.Prelude.{Some, slice_get}
use Rattle.onvm_session.specs.declared.role.Role.{Role as RoleView}
use Rattle.onvm_session.specs.Managers.{AllGrow}
use Rattle.onvm_session.specs.RoleStates.{ended_in, fault_of}
use Rattle.onvm_session.proofs.manager.Manager.find_fault.Given as goal

abbrev pub invariant-loop-at : goal.invariant-loop-at
invariant-loop-at g l = record {
  -- none of those below has a fault
  below : (r : ℕ) (role : RoleView _ _) → r < l.at → slice_get l.self.roles.items r ≡ Some role → ended_in role ≡ true;
  -- a later one has
  fault : (r : ℕ) × (role : RoleView _ _) × (l.at ≤ r) × (slice_get l.self.roles.items r ≡ Some role)
      × IsSome (fault_of role);
  end : l.at-end ≡ length l.self.roles.items;
  grow : AllGrow g.I.Source.name g.I.Source.left g.I.Source.takes l.fn.self l.self;
}
