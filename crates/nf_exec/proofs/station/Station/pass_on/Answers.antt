use Rattle.std.proofs.Common.{rules, refl, ◌∙◌}
use Rattle.onvm_board.specs.Tokens.{parcel_in}
use Rattle.nf_exec.proofs.Stationing.{station_passed}
use Rattle.nf_exec.proofs.station.Station.pass_on.Goals as goal

pub returns-clause-grew : goal.returns-clause-grew
returns-clause-grew c = search rules

pub returns-clause-station : goal.returns-clause-station
returns-clause-station c =
    station_passed c.args.board.now c.args.self.now _ c.args.buf (parcel_in c.args.token.now) c.args.token.now
    c.push.new.token (returns-clause-grew c) c.requires.station c.push.ensures.tail
    (c.push.ensures.ring ∙ c.requires.station.output_is) c.saturating_add-self.ensures refl refl
