use Rattle.std.proofs.Common.{true}
use Rattle.onvm_session.specs.Managers.{AllGrow, GoesOn, IsManager, OfEach}
use Rattle.onvm_session.specs.RoleStates.{IsUpTo}
use Rattle.onvm_session.specs.Runs.{any_moment}
use Rattle.onvm_session.proofs.ManagerRounds.{IsInRound}
use Rattle.onvm_session.proofs.manager.Manager.round.Given as goal

abbrev pub invariant-loop-place : goal.invariant-loop-place
invariant-loop-place g l = record {
  manager : IsManager g.N.NetFunction.acts g.N.NetFunction.state (g.C.Clock.may_span l.clock) l.plan l.self;
  upto : OfEach (λ r role. IsUpTo l.now role) l.self.roles.items;
  stands : IsInRound l.fn.self l.place l.self;
  on : GoesOn g.N.NetFunction.acts g.N.NetFunction.state true any_moment (g.C.Clock.may_span l.clock) l.plan l.fn.self
      l.self;
  grow : AllGrow g.I.Source.name g.I.Source.left g.I.Source.takes l.fn.self l.self;
}
