use Rattle.std.proofs.Common.{◌≡◌, true}
use Rattle.onvm_session.specs.Managers.{AllGrow, GoesOn, IsManager, OfEach, place_now, round_now}
use Rattle.onvm_session.specs.Moments.{moment_of_round}
use Rattle.onvm_session.specs.RoleStates.{IsUpTo}
use Rattle.onvm_session.specs.Runs.{any_moment}
use Rattle.onvm_session.proofs.manager.Manager.make_rounds.Given as goal

abbrev pub invariant-loop : goal.invariant-loop
invariant-loop g l = record {
  manager : IsManager g.N.NetFunction.acts g.N.NetFunction.state (g.C.Clock.may_span l.clock) l.plan l.self;
  upto : OfEach (λ r role. IsUpTo l.now role) l.self.roles.items;
  place : place_now l.self ≡ 0;
  now : l.now ≡ moment_of_round (round_now l.self);
  on : GoesOn g.N.NetFunction.acts g.N.NetFunction.state true any_moment (g.C.Clock.may_span l.clock) l.plan l.fn.self
      l.self;
  grow : AllGrow g.I.Source.name g.I.Source.left g.I.Source.takes l.fn.self l.self;
}
