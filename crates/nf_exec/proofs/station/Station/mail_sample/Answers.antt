use Rattle.std.proofs.Common.{refl}
use Rattle.nf_exec.proofs.Stationing.{station_posted}
use Rattle.nf_exec.proofs.station.Station.mail_sample.Goals as goal

pub returns-clause-station : goal.returns-clause-station
returns-clause-station c =
    station_posted c.args.board.now c.args.self.now _ _ c.post_sample-posted.result c.args.token.now
    c.post_sample-posted.new.token c.post_sample-posted.ensures.pushed c.post_sample-posted.ensures.full
    c.requires.station c.post_sample-posted.ensures.mail c.post_sample-posted.ensures.ring refl refl
