use Rattle.onvm_session.specs.Rooms.{AreReceivers}
use Rattle.onvm_session.proofs.rooms.receivers.Given as goal

abbrev pub invariant-loop-port : goal.invariant-loop-port
invariant-loop-port l = AreReceivers l.board l.plan l.port l.rooms.items
