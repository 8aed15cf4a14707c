use Rattle.std.proofs.Common.{rules, refl, ◌∙◌, arith}
use Rattle.onvm_board.specs.Tokens.{parcel_in}
use Rattle.nf_exec.proofs.Stationing.{station_tried}
use Rattle.nf_exec.proofs.station.Station.try_lane.Goals as goal

pub overflow_add-self-else-self-len : goal.overflow_add-self-else-self-len
overflow_add-self-else-self-len c = omega (arith, c.requires.station.few, c.requires.station.within)

pub returns-clause-grew : goal.returns-clause-grew
returns-clause-grew c = search rules

pub returns-clause-next : goal.returns-clause-next
returns-clause-next c = search rules

pub returns-clause-station : goal.returns-clause-station
returns-clause-station c =
    let is = c.requires.station in
    let at = is.lanes.each c.args.self.now.next c.index_mut-head.result.now is.within c.index_mut-head.ensures.value in
    station_tried c.args.board.now c.args.self.now c.pop-popped.result (parcel_in c.pop-popped.new.token)
    c.pop-popped.new.token.hand c.args.token.now c.pop-popped.new.token c.pop-popped.new.self _ is.within
    (returns-clause-grew c) is c.pop-popped.ensures.head (c.pop-popped.ensures.ring ∙ at.ring_is) refl refl
    (returns-clause-next c)
