-- What a window keeps, with one sample more or less, and at a later moment.
use Rattle.std.proofs.Common.{◌≡◌, ◌∙◌, sym, ap, subst, refl, ℕ, suc, ◌+◌, ◌-◌, ◌^◌, ◌<◌, ◌≤◌, ltb, List, [], ◌∷◌, ◌++◌, length, drop, Some, inl, inr, arith}
use Rattle.std.specs.List.{slice_get}
use Rattle.std.specs.List.Sorted.{IsNonDecreasingBy}
use Rattle.std.proofs.lemmas.Bool.{cases_Bool, lt-ltb, le-ltb}
use Rattle.std.proofs.lemmas.List.{length-append, map-append}
use Rattle.std.proofs.lemmas.List.Elements.{All-push}
use Rattle.std.proofs.lemmas.List.Sorted.{IsNonDecreasingBy-push}
use Rattle.std.proofs.lemmas.List.Sums.{sum_by-append, sum_by-cons}
use Rattle.std.proofs.lemmas.Option.{none-some, same_Some}
use Rattle.circular_buffer.specs.Buffer.{Buffer, buffer, keep_last}
use Rattle.load_estimate.specs.declared.sample.Sample.{Sample}
use Rattle.load_estimate.specs.Order.{insertion, in_order}
use Rattle.load_estimate.specs.Windows.{arrivals_of, times_of, young_of}
use Rattle.load_estimate.specs.Fields.{AreOfSamples}
use Rattle.load_estimate.proofs.Order.{in_order-push}

pub arrivals_of-push : (samples : List Sample) (sample : Sample)
    → arrivals_of (samples ++ sample ∷ []) ≡ arrivals_of samples + sample.count
arrivals_of-push samples sample = omega (arith, sum_by-append (λ (s : Sample). s.count) samples (sample ∷ []))

-- one sample more
newest_kept : (latest : ℕ) (samples : List Sample) (times : List ℕ) (frames : ℕ) (sample : Sample) (n : ℕ)
    → latest ≤ sample.moment → sample.count < 2 ^ 32 → length samples < 1024
    → AreOfSamples latest (buffer samples n) times frames
    → AreOfSamples sample.moment (buffer (samples ++ sample ∷ []) n) (insertion sample.time times)
    (frames + sample.count)
newest_kept latest samples times frames sample n later small room kept =
    record {
      room = kept.room;
      few = simp length-append (omega arith);
      rise =
          IsNonDecreasingBy-push (λ (s : Sample). s.moment) samples sample kept.rise
          (λ d some. omega (arith, kept.past (length samples - 1) d (omega arith)));
      past =
          All-push (λ (s : Sample). s.moment ≤ sample.moment) samples sample
          (λ k d lt. omega (arith, kept.past k d lt)) (omega arith);
      counts = All-push (λ (s : Sample). s.count < 2 ^ 32) samples sample kept.counts small;
      times_are =
          ap (insertion sample.time) kept.times_are
          ∙ sym (in_order-push (times_of samples) sample.time)
          ∙ ap in_order (sym (map-append (λ (s : Sample). s.time) samples (sample ∷ [])));
      frames_are = omega (arith, kept.frames_are, arrivals_of-push samples sample);
    }

pub keep_last-few : (n : ℕ) (xs : List Sample) → length xs ≤ n → keep_last n xs ≡ xs
keep_last-few n xs few = let none : length xs - n ≡ 0 = omega arith in rw none refl

pub AreOfSamples-with_newest : (latest : ℕ) (samples : Buffer Sample) (times : List ℕ) (frames : ℕ) (sample : Sample)
    → latest ≤ sample.moment → sample.count < 2 ^ 32 → length samples.items < 1024
    → AreOfSamples latest samples times frames
    → AreOfSamples sample.moment (buffer (keep_last samples.capacity (samples.items ++ sample ∷ [])) samples.capacity)
    (insertion sample.time times) (frames + sample.count)
AreOfSamples-with_newest latest samples times frames sample later small room kept =
    let few : length (samples.items ++ sample ∷ []) ≤ samples.capacity =
    simp length-append (omega (arith, kept.room)) in
    rw (keep_last-few samples.capacity (samples.items ++ sample ∷ []) few)
    (newest_kept latest samples.items times frames sample samples.capacity later small room kept)

oldest_gone : (latest : ℕ) (first : Sample) (rest : List Sample) (n : ℕ) (times left : List ℕ) (frames : ℕ)
    → ((less : List ℕ) → times ≡ insertion first.time less → left ≡ less)
    → AreOfSamples latest (buffer (first ∷ rest) n) times frames
    → AreOfSamples latest (buffer rest n) left (frames - first.count)
oldest_gone latest first rest n times left frames taken kept =
    record {
      room = kept.room;
      few = let all = kept.few in omega arith;
      rise = λ i j d le lt. kept.rise (suc i) (suc j) d (omega arith) (omega arith);
      past = λ k d lt. kept.past (suc k) d (omega arith);
      counts = λ k d lt. kept.counts (suc k) d (omega arith);
      times_are = taken _ kept.times_are;
      frames_are = omega (arith, kept.frames_are, sum_by-cons (λ (s : Sample). s.count) first rest);
    }

-- the oldest sample less
pub AreOfSamples-without_oldest : (latest : ℕ) (samples : List Sample) (n : ℕ) (times left : List ℕ) (frames : ℕ)
    (oldest : Sample) → slice_get samples 0 ≡ Some oldest
    → ((less : List ℕ) → times ≡ insertion oldest.time less → left ≡ less)
    → AreOfSamples latest (buffer samples n) times frames
    → AreOfSamples latest (buffer (drop 1 samples) n) left (frames - oldest.count)
AreOfSamples-without_oldest latest [] n times left frames oldest is taken kept = absurd (none-some oldest is)
AreOfSamples-without_oldest latest (first ∷ rest) n times left frames oldest is taken kept =
    let same = same_Some first oldest is in
    subst (λ (s : Sample). AreOfSamples latest (buffer rest n) left (frames - s.count)) same
    (oldest_gone latest first rest n times left frames
    (λ less was. taken less (was ∙ ap (λ (s : Sample). insertion s.time less) same)) kept)

behind : (rest : List Sample) (next : Sample) → slice_get rest 0 ≡ Some next → (first : Sample)
    → IsNonDecreasingBy (λ (s : Sample). s.moment) (first ∷ rest) → first.moment ≤ next.moment
behind [] next is first up = absurd (none-some next is)
behind (other ∷ rest) next is first up =
    let up1 = up 0 1 first (omega arith) (omega arith) in
    omega (arith, ap (λ (s : Sample). s.moment) (same_Some other next is))

-- where the oldest sample is young, all are
pub young_of-all : (span now : ℕ) (samples : List Sample) → IsNonDecreasingBy (λ (s : Sample). s.moment) samples
    → ((first : Sample) → slice_get samples 0 ≡ Some first → now - first.moment < span)
    → young_of span now samples ≡ samples
young_of-all span now [] up young = refl
young_of-all span now (first ∷ rest) up young =
    let this = young first refl in
    let more = young_of-all span now rest (λ i j d le lt. up (suc i) (suc j) d (omega arith) (omega arith))
    (λ next is. omega (arith, this, behind rest next is first up)) in
    simp (lt-ltb (now - first.moment) span this) (ap (λ xs. first ∷ xs) more)

-- an old one is not among the young
pub young_of-drop_old : (span now : ℕ) (samples : List Sample) (first : Sample) → slice_get samples 0 ≡ Some first
    → span ≤ now - first.moment → young_of span now (drop 1 samples) ≡ young_of span now samples
young_of-drop_old span now [] first is old = refl
young_of-drop_old span now (other ∷ rest) first is old =
    let age = ap (λ (s : Sample). now - s.moment) (same_Some other first is) in
    simp (le-ltb (now - other.moment) span (omega arith)) refl

pub length-drop_first : (samples : List Sample) (first : Sample) → slice_get samples 0 ≡ Some first
    → length (drop 1 samples) < length samples
length-drop_first [] first is = absurd (none-some first is)
length-drop_first (other ∷ rest) first is = omega arith

length-insertion : (n : ℕ) (ms : List ℕ) → length (insertion n ms) ≡ suc (length ms)
length-insertion n [] = refl
length-insertion n (m ∷ ms) = elim (cases_Bool (ltb n m)) [
  | inl less ↦ rw less refl
  | inr more ↦ rw more (ap suc (length-insertion n ms))
]

pub length-in_order : (samples : List Sample) → length (in_order (times_of samples)) ≡ length samples
length-in_order [] = refl
length-in_order (first ∷ rest) =
    length-insertion first.time (in_order (times_of rest)) ∙ ap suc (length-in_order rest)
