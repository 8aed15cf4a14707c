use Rattle.std.proofs.Common.{◌≡◌, length, take}
use Rattle.nf_exec.specs.Rooms.{AreNewStations}
use Rattle.nf_exec.proofs.room.CoreRoom.make.Given as goal

abbrev pub invariant-loop-at : goal.invariant-loop-at
invariant-loop-at l = record {
  stations : AreNewStations l.board.layout (take l.at l.functions) l.stations.items;
  long : length l.stations.items ≡ l.at;
}
