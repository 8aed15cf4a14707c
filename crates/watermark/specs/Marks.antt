-- The mark of a lane, by its readings.
use Rattle.std.specs.Prelude.{ℕ, Bool, true, false, not, ◌&&◌, ◌||◌, if◌then◌else◌, List, [], ◌∷◌}
use Rattle.onvm_core.specs.Marks.{MarkEvents, Ages, finds, pass_count}
use Rattle.onvm_core.specs.Marks.MarkEvent.{Passed, Posted}
use Rattle.watermark.specs.declared.mark.Mark.{Mark}
use Rattle.watermark.specs.declared.mark.Mark.TheVariants.{Calm, Watch, Throttle}

-- what the looks at a lane find: whether it holds the high mark, whether it holds the low one, and whether its queuing
-- time is at least the age
pub record Reading : Type 0 where
  pub high : Bool
  pub low : Bool
  pub aged : Bool

abbrev pub is_throttle : Mark → Bool
is_throttle Throttle = true
is_throttle Watch = false
is_throttle Calm = false

abbrev pub is_watch : Mark → Bool
is_watch Watch = true
is_watch Throttle = false
is_watch Calm = false

-- the table: the first line that applies
abbrev pub next_mark : Mark → Reading → Mark
next_mark old reading =
    if not reading.low then Calm
    else if reading.high && reading.aged then Throttle
    else if is_throttle old then Throttle
    else if reading.high || is_watch old then Watch
    else Calm

-- the mark after readings, the newest first
abbrev pub mark_of : List Reading → Mark
mark_of [] = Calm
mark_of (reading ∷ before) = next_mark (mark_of before) reading

-- the search back: some reading found high and low in time, and each reading from that one on found low
abbrev pub is_raised : List Reading → Bool
is_raised [] = false
is_raised (reading ∷ before) = reading.low && ((reading.high && reading.aged) || is_raised before)

-- the readings of a function's lane in a feeder's marks passes, the newest first
abbrev pub readings_of : Ages → ℕ → MarkEvents → List Reading
readings_of aged f [] = []
readings_of aged f (Passed pass ∷ before) =
    record { high = finds true f pass; low = finds false f pass; aged = aged (pass_count before) f }
    ∷ readings_of aged f before
readings_of aged f (Posted value ∷ before) = readings_of aged f before
