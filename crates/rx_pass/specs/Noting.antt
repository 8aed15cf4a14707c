-- What a feeder takes note of, as its role's log grows.
use Rattle.std.specs.Prelude.{ℕ, ◌≡◌, ◌<◌, ◌≤◌, ◌++◌, length}
use Rattle.onvm_core.specs.Logs.{Log}
use Rattle.entry_throttle.specs.Feeders.{FeederView}
use Rattle.entry_throttle.specs.Moments.{KeepsMoments}

-- acts that were added to a log, all at one moment
abbrev pub AreMadeAt : (now : ℕ) → (moment : ℕ → ℕ) → (added before : Log) → Type 0
AreMadeAt now moment added before =
    (number : ℕ) → length before ≤ number → number < length (added ++ before) → moment number ≡ now

-- the feeder took note of the pushes among these acts, which were made at one moment, and of nothing else
pub record HasNoted (now : ℕ) (added before : Log) (old new : FeederView) : Type 0 where
  pub same : new ≡ record old { spots = new.spots; ages = new.ages }
  pub long : length new.ages ≡ length old.ages
  pub moments : (moment : ℕ → ℕ) → AreMadeAt now moment added before → KeepsMoments moment old before
      → KeepsMoments moment new (added ++ before)
