use Rattle.onvm_session.specs.Rooms.{AreSenders}
use Rattle.onvm_session.proofs.rooms.senders.Given as goal

abbrev pub invariant-loop-number : goal.invariant-loop-number
invariant-loop-number l = AreSenders l.board l.plan l.number l.rooms.items
