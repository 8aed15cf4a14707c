use Rattle.std.proofs.Common.{subst, Option}
use Rattle.onvm_base.specs.declared.ids.RingId.{RingId}
use Rattle.onvm_board.specs.declared.spot.Spot.{Spot}
use Rattle.desc_ring.specs.Ends.{Finds}
use Rattle.entry_throttle.specs.Lanes.{IsOwnEnd}
use Rattle.entry_throttle.specs.Looks.{lane}
use Rattle.entry_throttle.proofs.reading.holds.Goals as goal

pub returns-in-Some-clause-finds : goal.returns-in-Some-clause-finds
returns-in-Some-clause-finds c =
    let own =
    subst
    (λ (end : Option Spot). IsOwnEnd c.args.board.now (lane c.args.function.0 c.args.token.now.role) end
    c.args.token.now)
    c.in-Some.is c.requires.end in
    subst (λ (ring : RingId). Finds c.args.board.now ring c.args.k c.args.token.now c.at_least.new.token
    c.at_least.result)
    own.0 c.at_least.ensures.finds
