-- What a window keeps beside its samples, and what becomes of the oldest and the newest one.
use Rattle.std.specs.Prelude.{◌≡◌, ◌≤◌, ◌<◌, ℕ, ◌-◌, ◌^◌, ◌++◌, ◌∷◌, [], List, All, Some, length, drop, slice_get}
use Rattle.std.specs.List.Sorted.{IsNonDecreasing, IsNonDecreasingBy}
use Rattle.circular_buffer.specs.Buffer.{Buffer}
use Rattle.onvm_base.specs.declared.limits.TheConstants.{WINDOW_SAMPLES}
use Rattle.load_estimate.specs.declared.sample.Sample.{Sample}
use Rattle.load_estimate.specs.Order.{in_order}
use Rattle.load_estimate.specs.Windows.{WindowState, arrivals_of, times_of, young_of}

-- times in order, with room for those of a full window
pub record AreTimes (times : List ℕ) (room : ℕ) : Type 0 where
  pub rise : IsNonDecreasing times
  pub room_for : WINDOW_SAMPLES ≤ room

-- of samples whose moments rise up to the latest one, the times in order and the frames together
pub record AreOfSamples (latest : ℕ) (samples : Buffer Sample) (times : List ℕ) (frames : ℕ) : Type 0 where
  pub room : samples.capacity ≡ WINDOW_SAMPLES
  pub few : length samples.items ≤ WINDOW_SAMPLES
  pub rise : IsNonDecreasingBy (λ sample. sample.moment) samples.items
  pub past : All (λ sample. sample.moment ≤ latest) samples.items
  pub counts : All (λ sample. sample.count < 2 ^ 32) samples.items
  pub times_are : times ≡ in_order (times_of samples.items)
  pub frames_are : frames ≡ arrivals_of samples.items

-- there is an oldest sample, and its age is not below the window's length
abbrev pub IsOldestOld : WindowState → ℕ → Type 0
IsOldestOld window now =
    (oldest : Sample) × (slice_get window.samples 0 ≡ Some oldest) × (window.span ≤ now - oldest.moment)

abbrev pub AreYoung : WindowState → ℕ → Type 0
AreYoung window now = young_of window.span now window.samples ≡ window.samples

abbrev pub without_oldest : WindowState → WindowState
without_oldest window = record { span = window.span; latest = window.latest; samples = drop 1 window.samples }

abbrev pub with_newest : Sample → WindowState → WindowState
with_newest sample window =
    record { span = window.span; latest = sample.moment; samples = window.samples ++ sample ∷ [] }

abbrev pub at_moment : ℕ → WindowState → WindowState
at_moment now window = record { span = window.span; latest = now; samples = window.samples }
