use Rattle.std.proofs.Common.{ap, ◌∙◌, arith}
use Rattle.nf_exec.specs.declared.station.Station.{Station}
use Rattle.nf_exec.proofs.Stationing.{station_timed}
use Rattle.nf_exec.proofs.station.Station.handle.Goals as goal

pub pass_on-requires-clause-station : goal.pass_on-requires-clause-station
pass_on-requires-clause-station g c =
    station_timed c.args.board.now c.args.self.now c.time_first.new.self _ c.args.token.now c.handle_in_slot.new.token
    c.in_ok-handle_in_slot.ensures.handled.left c.time_first.ensures.same c.requires.station

pub returns-clause-timed : goal.returns-clause-timed
returns-clause-timed g c some =
    let is = c.time_first.ensures.timed c.requires.timed (omega arith) in
    (is.0, is.1, ap (λ (s : Station). s.time) c.pass_on.ensures.same ∙ is.2)
