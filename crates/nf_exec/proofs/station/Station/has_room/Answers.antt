use Rattle.nf_exec.proofs.Stationing.{station_looked}
use Rattle.nf_exec.proofs.Glancing.{glanced}
use Rattle.nf_exec.proofs.station.Station.has_room.Goals as goal

pub returns-clause-glanced : goal.returns-clause-glanced
returns-clause-glanced c =
    glanced c.args.board.now c.args.self.now c.room.result c.is_ok.result c.args.token.now c.room.new.token
    c.is_ok.ensures.value c.room.ensures.room c.room.ensures.full c.requires.station.output_is

pub returns-clause-station : goal.returns-clause-station
returns-clause-station c =
    let is = returns-clause-glanced c in
    station_looked c.args.board.now c.args.self.now _ is.seen c.args.token.now.hand c.args.token.now c.room.new.token
    is.grew c.requires.station
