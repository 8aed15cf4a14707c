use Rattle.std.proofs.Common.{◌≡◌, ◌≤◌, [], length, vec_capacity}
use Rattle.onvm_session.specs.Managers.{AllGrow, GoesOnTo, IsManager, OfEach}
use Rattle.onvm_session.specs.RoleStates.{IsUpTo}
use Rattle.onvm_session.proofs.manager.Manager.make_phases.Given as goal

abbrev pub invariant-loop : goal.invariant-loop
invariant-loop g l = record {
  manager : IsManager g.N.NetFunction.acts g.N.NetFunction.state (g.C.Clock.may_span l.clock) l.plan l.self;
  upto : OfEach (λ r role. IsUpTo l.now role) l.self.roles.items;
  told : g.C.Clock.may_be_now l.clock l.now;
  none : l.seats.items ≡ [];
  room : length l.self.roles.items ≤ vec_capacity l.seats;
  on : GoesOnTo g.N.NetFunction.acts g.N.NetFunction.state (g.C.Clock.may_be_now l.clock) (g.C.Clock.may_span l.clock)
      l.plan l.first l.now l.fn.self l.self;
  grow : AllGrow g.I.Source.name g.I.Source.left g.I.Source.takes l.fn.self l.self;
}
