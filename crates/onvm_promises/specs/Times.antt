-- The time of a reading: how long the oldest frame up to the high mark has been in a lane, at a feeder's marks pass.
use Rattle.std.specs.Prelude.{ℕ, ◌+◌, ◌-◌, false, ◌==◌, ◌&&◌, nat_le, if◌then◌else◌, [], ◌∷◌, length}
use Rattle.onvm_base.specs.declared.ids.RingId.{RingId}
use Rattle.onvm_base.specs.declared.ids.RingId.TheVariants.{Lane}
use Rattle.onvm_core.specs.Handling.{is_push_on}
use Rattle.onvm_core.specs.Logs.{Setting, Log, push_count}
use Rattle.onvm_core.specs.Marks.{Ages, mark_events, pass_count}

-- the moment of a ring's push with this number, counted from 1
abbrev pub push_moment : RingId → ℕ → (ℕ → ℕ) → Log → ℕ
push_moment ring number moment [] = 0
push_moment ring number moment (act ∷ before) =
    if is_push_on ring act && (push_count ring before + 1 == number) then moment (length before)
    else push_moment ring number moment before

-- the time of a reading of a function's lane, at a moment and behind this log
abbrev pub reading_time : Setting → (feeder function now : ℕ) → (ℕ → ℕ) → Log → ℕ
reading_time setting feeder f now moment log =
    now - push_moment (Lane (record { 0 = f }) feeder)
    (push_count (Lane (record { 0 = f }) feeder) log - setting.plan.high + 1) moment log

-- how many marks passes have ended
abbrev pub passes_in : Setting → ℕ → Log → ℕ
passes_in setting feeder log = pass_count (mark_events setting feeder log)

-- whether the reading in a pass, counted from 0, had a time of at least the age: the moment is that of the pass's
-- last look
abbrev pub aged_by : Setting → ℕ → (ℕ → ℕ) → Log → Ages
aged_by setting feeder moment [] pass f = false
aged_by setting feeder moment (act ∷ before) pass f =
    if (passes_in setting feeder before == pass) && (passes_in setting feeder (act ∷ before) == pass + 1)
    then nat_le setting.plan.age (reading_time setting feeder f (moment (length before)) moment before)
    else aged_by setting feeder moment before pass f
