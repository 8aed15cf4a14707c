use Rattle.onvm_session.proofs.ManagerOver.{AreDoneBelow}
use Rattle.onvm_session.proofs.manager.Manager.are_done.Given as goal

abbrev pub invariant-loop-role : goal.invariant-loop-role
invariant-loop-role g l = record { done : AreDoneBelow l.role-index l.self.roles.items }
