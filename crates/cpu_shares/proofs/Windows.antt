-- What a window says of mailed samples.
use Rattle.std.proofs.Common.{◌≡◌, ℕ, zero, suc, ◌-◌, ◌^◌, ◌<◌, ◌≤◌, List, [], ◌∷◌, length, drop, Some, arith}
use Rattle.std.specs.List.{All, slice_get}
use Rattle.std.proofs.lemmas.List.Elements.{All-drop, All-filter, All-map}
use Rattle.std.proofs.lemmas.List.Sorted.{All-permutation}
use Rattle.std.proofs.lemmas.List.Sums.{sum_by-le}
use Rattle.std.proofs.lemmas.Option.{none-some, same_Some}
use Rattle.load_estimate.specs.declared.sample.Sample.{Sample}
use Rattle.load_estimate.specs.Order.{in_order}
use Rattle.load_estimate.specs.Windows.{is_young, times_of, window_of}
use Rattle.load_estimate.proofs.Calls.{length-window_of}
use Rattle.load_estimate.proofs.Order.{IsPermutation-in_order}
use Rattle.cpu_shares.specs.Shares.{IsLoad, IsMailed, load_in}

All-slice_get : (bound : ℕ) (ns : List ℕ) (at n : ℕ) → All (λ m. m < bound) ns → slice_get ns at ≡ Some n → n < bound
All-slice_get bound [] at n all is = absurd (none-some n is)
All-slice_get bound (m ∷ ns) zero n all is =
    let same = same_Some m n is in omega (arith, all 0 0 (omega arith))
All-slice_get bound (m ∷ ns) (suc at) n all is =
    All-slice_get bound ns at n (λ k d lt. all (suc k) d (omega arith)) is

All-window_of : (span now : ℕ) (logged : List Sample) → All IsMailed logged → All IsMailed (window_of span now logged)
All-window_of span now logged all =
    All-filter (is_young span now) IsMailed (drop (length logged - 1024) logged)
    (All-drop IsMailed (length logged - 1024) logged all)

loaded : (samples : List Sample) → length samples ≤ 1024 → All IsMailed samples → IsLoad (load_in samples)
loaded samples few all =
    let count : All (λ (s : Sample). s.count ≤ 2 ^ 24 - 1) samples =
    λ k d lt. let one = (all k d lt).0 in omega arith in
    let times : All (λ t. t < 2 ^ 40) (times_of samples) =
    All-map (λ (t : ℕ). t < 2 ^ 40) (λ (s : Sample). s.time) samples (λ k d lt. (all k d lt).1) in
    record {
      arrivals = let sum = sum_by-le (λ (s : Sample). s.count) (2 ^ 24 - 1) samples count in omega arith;
      median = λ time is.
          All-slice_get (2 ^ 40) (in_order (times_of samples)) _ time
          (All-permutation (λ (t : ℕ). t < 2 ^ 40) (times_of samples) (in_order (times_of samples))
          (IsPermutation-in_order (times_of samples)) times) is;
    }

pub IsLoad-window_of : (span now : ℕ) (logged : List Sample) → All IsMailed logged
    → IsLoad (load_in (window_of span now logged))
IsLoad-window_of span now logged all =
    loaded (window_of span now logged) (length-window_of span now logged) (All-window_of span now logged all)
