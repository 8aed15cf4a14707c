use Rattle.onvm_session.specs.Rooms.{AreCores}
use Rattle.onvm_session.proofs.rooms.cores.Given as goal

abbrev pub invariant-loop-core : goal.invariant-loop-core
invariant-loop-core l = AreCores l.board l.plan l.core l.rooms.items
