use Rattle.std.proofs.Common.{◌≡◌, ◌∙◌, [], ap}
use Rattle.rx_feed.specs.Standing.{Standing}
use Rattle.rx_pass.proofs.Starts.{fresh_pulls_none, new_role}
use Rattle.rx_pass.proofs.room.RxRoom.start.Goals as goal

pub returns-clause-role : goal.returns-clause-role
returns-clause-role g c = λ site plan port layout new.
    let pulled : c.start.result.standing.pulled ≡ [] =
    ap (λ (s : Standing). s.pulled) c.start.ensures.standing ∙ fresh_pulls_none c.args.feed in
    new_role site plan port _ layout new.part new.port_is new.flows new.lanes new.feeder new.records new.sent
    c.new.ensures.items pulled c.start.ensures.frames
