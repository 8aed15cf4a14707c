-- The calls of a window, one after the other.
use Rattle.std.specs.Prelude.{◌≤◌, ℕ, List, [], ◌∷◌}
use Rattle.load_estimate.specs.declared.sample.Sample.{Sample}
use Rattle.load_estimate.specs.Windows.{WindowState, with_sample, without_old}

-- a sample is added, or samples are aged out at a moment
pub data Call : Type 0 where
  Add : Sample → Call
  AgeOut : ℕ → Call

abbrev pub moment_of : Call → ℕ
moment_of (Add sample) = sample.moment
moment_of (AgeOut now) = now

-- moments don't fall from call to call, and the first is not before this one
abbrev pub NeverFall : ℕ → List Call → Type 0
NeverFall latest [] = Unit {0}
NeverFall latest (call ∷ calls) = (latest ≤ moment_of call) × NeverFall (moment_of call) calls

abbrev pub window_after : Call → WindowState → WindowState
window_after (Add sample) window = with_sample sample window
window_after (AgeOut now) window = without_old now window

-- what a window holds after these calls, the first one first
abbrev pub window_after_all : WindowState → List Call → WindowState
window_after_all window [] = window
window_after_all window (call ∷ calls) = window_after_all (window_after call window) calls

-- the samples that were added
abbrev pub samples_added : List Call → List Sample
samples_added [] = []
samples_added (Add sample ∷ calls) = sample ∷ samples_added calls
samples_added (AgeOut now ∷ calls) = samples_added calls

-- the moment at which samples were last aged out, at first this one
abbrev pub last_age_out : ℕ → List Call → ℕ
last_age_out first [] = first
last_age_out first (Add sample ∷ calls) = last_age_out first calls
last_age_out first (AgeOut now ∷ calls) = last_age_out now calls
