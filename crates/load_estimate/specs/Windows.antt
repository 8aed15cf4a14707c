-- The window of a function's samples, its arrivals and its median.
use Rattle.std.specs.Prelude.{◌≡◌, ℕ, ◌-◌, ◌≤◌, nat_lt, Bool, List, [], ◌∷◌, ◌++◌, All, map, filter, sum_by, Option}
use Rattle.std.specs.List.Sorted.{IsNonDecreasingBy}
use Rattle.circular_buffer.specs.Buffer.{keep_last}
use Rattle.onvm_base.specs.declared.limits.TheConstants.{WINDOW_SAMPLES}
use Rattle.load_estimate.specs.declared.sample.Sample.{Sample}
use Rattle.load_estimate.specs.Order.{in_order, lower_middle}

-- the frames of the samples together
abbrev pub arrivals_of : List Sample → ℕ
arrivals_of samples = sum_by (λ sample. sample.count) samples

abbrev pub times_of : List Sample → List ℕ
times_of samples = map (λ sample. sample.time) samples

-- the middle one of the times in order, of an even number the lower of two
abbrev pub median_of : List Sample → Option ℕ
median_of samples = lower_middle (in_order (times_of samples))

-- the age is below the window's length
abbrev pub is_young : (span now : ℕ) → Sample → Bool
is_young span now sample = nat_lt (now - sample.moment) span

abbrev pub young_of : (span now : ℕ) → List Sample → List Sample
young_of span now samples = filter (is_young span now) samples

-- at a moment, the window of the samples that were logged for a function: of the last 1,024 those that are young
abbrev pub window_of : (span now : ℕ) → List Sample → List Sample
window_of span now logged = young_of span now (keep_last WINDOW_SAMPLES logged)

-- what a window holds: its length, the latest moment that it was told of, and samples, the oldest first
pub record WindowState : Type 0 where
  pub span : ℕ
  pub latest : ℕ
  pub samples : List Sample

abbrev pub empty_window : ℕ → WindowState
empty_window span = record { span = span; latest = 0; samples = [] }

-- with one sample more, of all the last 1,024
abbrev pub with_sample : Sample → WindowState → WindowState
with_sample sample window =
    record {
      span = window.span;
      latest = sample.moment;
      samples = keep_last WINDOW_SAMPLES (window.samples ++ sample ∷ []);
    }

-- without those that are old at a moment
abbrev pub without_old : ℕ → WindowState → WindowState
without_old now window =
    record { span = window.span; latest = now; samples = young_of window.span now window.samples }

-- a window is that of the samples that were logged, whose moments rise up to the latest one, as of the moment at
-- which it was last aged out
pub record IsWindowOf (span aged latest : ℕ) (logged : List Sample) (window : WindowState) : Type 0 where
  pub span_is : window.span ≡ span
  pub latest_is : window.latest ≡ latest
  pub aged_before : aged ≤ latest
  pub rise : IsNonDecreasingBy (λ sample. sample.moment) logged
  pub past : All (λ sample. sample.moment ≤ latest) logged
  pub samples_are : window.samples ≡ window_of span aged logged
