-- The memory of an intake: a stream of which nothing was taken.
use Rattle.std.specs.Prelude.{◌≡◌, false, [], None}
use Rattle.rx_feed.specs.Streams.{IsStream, standing_of}
use Rattle.rx_feed.specs.declared.intake.IntakeRoom.{IntakeRoom}

pub record IsRoom (room : IntakeRoom) : Type 0 where
  pub stream : IsStream room.stream
  pub fresh : standing_of room.stream ≡ record { taken = []; complete = false; pulled = []; ended = false; fault = None }
