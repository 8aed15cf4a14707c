use Rattle.std.proofs.Common.{◌≡◌, ◌+◌}
use Rattle.std.specs.Prelude.{slice_get}
use Rattle.onvm_promises.specs.Sampling.{cost_of}
use Rattle.nf_exec.specs.declared.turn.Turn.TheVariants.{Handled}
use Rattle.nf_exec.specs.Handing.{HasGoneOn}
use Rattle.nf_exec.specs.Serving.{IsServing, IsTimedBy}
use Rattle.nf_exec.specs.Stations.{IsStation}
use Rattle.nf_exec.proofs.station.Station.serve.Given as goal

abbrev pub invariant-loop-handled : goal.invariant-loop-handled
invariant-loop-handled g l = record {
  serving : IsServing l.board l.plan l.initial.self.function l.handled Handled l.initial.token l.token;
  unit : HasGoneOn g.N.NetFunction.acts g.N.NetFunction.state l.initial.self.function l.initial.unit l.unit
      l.initial.token.log l.token.log;
  station : IsStation l.board l.self l.token;
  count : l.self.count ≡ l.initial.self.count + l.handled;
  function : l.self.function ≡ l.initial.self.function;
  timed : IsTimedBy (g.C.Clock.may_span l.clock) (cost_of (slice_get l.plan.functions l.initial.self.function.0))
      l.self.count l.self.time;
}
