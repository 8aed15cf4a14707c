-- The moments of a feeder's pushes by its log. Each act of a log has a moment, by its number, counted from 0.
use Rattle.std.specs.Prelude.{ℕ, ◌≡◌, ◌<◌, if◌then◌else◌, List, [], ◌∷◌, ◌++◌, length, slice_index_or}
use Rattle.onvm_base.specs.declared.ids.RingId.{RingId}
use Rattle.onvm_core.specs.Handling.{is_push_on}
use Rattle.onvm_core.specs.Logs.{Log}
use Rattle.watermark.specs.Moments.{PushMoments, last_of}
use Rattle.entry_throttle.specs.Feeders.{FeederView}
use Rattle.entry_throttle.specs.Looks.{lane}

-- the moments of the pushes on a ring, the oldest first
abbrev pub push_moments : RingId → (ℕ → ℕ) → Log → List ℕ
push_moments ring moment [] = []
push_moments ring moment (act ∷ before) =
    if is_push_on ring act then push_moments ring moment before ++ moment (length before) ∷ []
    else push_moments ring moment before

-- the feeder keeps the moments of the last pushes of each lane
abbrev pub KeepsMoments : (ℕ → ℕ) → FeederView → Log → Type 0
KeepsMoments moment feeder log = (f : ℕ) (d : PushMoments) → f < length feeder.ages
    → slice_index_or feeder.ages f d
    ≡ record { high = feeder.high; moments = last_of feeder.high (push_moments (lane f feeder.number) moment log) }
