-- The next spot of a ring's end.
use Rattle.std.specs.Prelude.{ℕ, ◌+◌, ◌%◌, min}
use Rattle.onvm_base.specs.declared.ids.RingId.{RingId}
use Rattle.onvm_core.specs.declared.layout.Layout.{Layout}
use Rattle.onvm_board.specs.declared.spot.Spot.{Spot}
use Rattle.onvm_board.specs.Addresses.{cell_address}

-- the spot after one more push or pop
abbrev pub next_spot : ℕ → Spot → Spot
next_spot size spot =
    record { ring = spot.ring; base = spot.base; cell = (spot.cell + 1) % size; filled = min (spot.filled + 1) size }

-- the spot of a ring's end that has moved nothing
abbrev pub start_spot : Layout → RingId → Spot
start_spot layout ring = record { ring = ring; base = cell_address layout ring 0; cell = 0; filled = 0 }
