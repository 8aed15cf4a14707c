-- What a window holds after one call more.
use Rattle.std.proofs.Common.{◌≡◌, ◌∙◌, sym, ap, refl, ℕ, suc, ◌+◌, ◌-◌, ◌<◌, ◌≤◌, List, [], ◌∷◌, ◌++◌, length, drop, inl, inr, arith}
use Rattle.std.specs.List.Sorted.{IsNonDecreasingBy}
use Rattle.std.proofs.lemmas.Bool.{cases_lt, lt-ltb, le-ltb}
use Rattle.std.proofs.lemmas.List.{length-append, length-drop, drop-append-le, append_assoc, drop-drop, append-nil}
use Rattle.std.proofs.lemmas.List.Elements.{All-push}
use Rattle.std.proofs.lemmas.List.Sorted.{IsNonDecreasingBy-drop, IsNonDecreasingBy-push}
use Rattle.std.proofs.lemmas.Option.{same_Some}
use Rattle.circular_buffer.specs.Buffer.{keep_last}
use Rattle.load_estimate.specs.declared.sample.Sample.{Sample}
use Rattle.load_estimate.specs.Calls.{Call, Add, AgeOut, NeverFall, last_age_out, samples_added, window_after_all}
use Rattle.load_estimate.specs.Windows.{IsWindowOf, WindowState, without_old, empty_window, with_sample, window_of, young_of}
use Rattle.load_estimate.proofs.Windows.{keep_last-few, young_of-all}

-- who is old at a moment is old at a later one
young_of-young_of : (span m now : ℕ) → m ≤ now → (samples : List Sample)
    → young_of span now (young_of span m samples) ≡ young_of span now samples
young_of-young_of span m now later [] = refl
young_of-young_of span m now later (first ∷ rest) =
    let more = young_of-young_of span m now later rest in
    elim (cases_lt (m - first.moment) span) [
      | inl young ↦ elim (cases_lt (now - first.moment) span) [
        | inl still ↦
            simp (lt-ltb (m - first.moment) span young, lt-ltb (now - first.moment) span still)
            (ap (λ xs. first ∷ xs) more)
        | inr not ↦ simp (lt-ltb (m - first.moment) span young, le-ltb (now - first.moment) span not) more
      ]
      | inr old ↦
          let older : span ≤ now - first.moment = omega arith in
          simp (le-ltb (m - first.moment) span old, le-ltb (now - first.moment) span older) more
    ]

-- a sample that is young is at the end of the young ones
young_of-push : (span m : ℕ) (samples : List Sample) (sample : Sample) → 0 < span → m ≤ sample.moment
    → young_of span m (samples ++ sample ∷ []) ≡ young_of span m samples ++ sample ∷ []
young_of-push span m [] sample some later =
    let young : m - sample.moment < span = omega arith in
    simp (lt-ltb (m - sample.moment) span young) refl
young_of-push span m (first ∷ rest) sample some later =
    let more = young_of-push span m rest sample some later in
    elim (cases_lt (m - first.moment) span) [
      | inl young ↦ simp (lt-ltb (m - first.moment) span young) (ap (λ xs. first ∷ xs) more)
      | inr old ↦ simp (le-ltb (m - first.moment) span old) more
    ]

length-young_of : (span m : ℕ) (samples : List Sample) → length (young_of span m samples) ≤ length samples
length-young_of span m [] = omega arith
length-young_of span m (first ∷ rest) =
    let more = length-young_of span m rest in
    elim (cases_lt (m - first.moment) span) [
      | inl young ↦ simp (lt-ltb (m - first.moment) span young) (omega arith)
      | inr old ↦ simp (le-ltb (m - first.moment) span old) (omega arith)
    ]

-- the last ones with one more: where there were enough, the first of them goes
keep_last-push : (n : ℕ) (xs : List Sample) (x : Sample) → 0 < n
    → keep_last n (xs ++ x ∷ []) ≡ keep_last n (keep_last n xs ++ x ∷ [])
keep_last-push n xs x some = elim (cases_lt (length xs) n) [
  | inl few ↦ ap (λ ys. keep_last n (ys ++ x ∷ [])) (sym (keep_last-few n xs (omega arith)))
  | inr many ↦
      let k = length xs - n in
      let left : length (drop k xs) ≡ n = omega (arith, length-drop k xs) in
      let one : length (drop k xs ++ x ∷ []) - n ≡ 1 = simp length-append (omega arith) in
      let all : length (xs ++ x ∷ []) - n ≡ k + 1 = simp length-append (omega arith) in
      ap (λ j. drop j (xs ++ x ∷ [])) all ∙ sym (drop-drop 1 k (xs ++ x ∷ []))
      ∙ ap (drop 1) (drop-append-le k xs (x ∷ []) (omega arith))
      ∙ sym (ap (λ j. drop j (drop k xs ++ x ∷ [])) one)
]

-- of one more than enough, the first goes
keep_last-one_more : (n : ℕ) (first : Sample) (rest : List Sample) (sample : Sample) → suc (length rest) ≡ n
    → keep_last n ((first ∷ rest) ++ sample ∷ []) ≡ rest ++ sample ∷ []
keep_last-one_more n first rest sample full =
    let one : length ((first ∷ rest) ++ sample ∷ []) - n ≡ 1 = simp length-append (omega arith) in
    ap (λ j. drop j ((first ∷ rest) ++ sample ∷ [])) one

keep_last-young_full : (n span m : ℕ) (samples : List Sample) (sample : Sample) → 0 < n → 0 < span → m ≤ sample.moment
    → length samples ≡ n → IsNonDecreasingBy (λ (s : Sample). s.moment) samples
    → keep_last n (young_of span m samples ++ sample ∷ []) ≡ young_of span m (keep_last n (samples ++ sample ∷ []))
keep_last-young_full n span m [] sample many some later full up = absurd (omega arith)
keep_last-young_full n span m (first ∷ rest) sample many some later full up =
    let right : young_of span m (keep_last n ((first ∷ rest) ++ sample ∷ [])) ≡ young_of span m rest ++ sample ∷ [] =
    ap (young_of span m) (keep_last-one_more n first rest sample full) ∙ young_of-push span m rest sample some later in
    elim (cases_lt (m - first.moment) span) [
      | inl young ↦
          let all : young_of span m (first ∷ rest) ≡ first ∷ rest =
          young_of-all span m (first ∷ rest) up
          (λ other is. omega (arith, ap (λ (s : Sample). m - s.moment) (same_Some first other is))) in
          let unfolds : young_of span m (first ∷ rest) ≡ first ∷ young_of span m rest =
          simp (lt-ltb (m - first.moment) span young) refl in
          let tail : young_of span m rest ≡ rest = ap (drop 1) (sym unfolds ∙ all) in
          ap (λ xs. keep_last n (xs ++ sample ∷ [])) all ∙ keep_last-one_more n first rest sample full
          ∙ ap (λ xs. xs ++ sample ∷ []) (sym tail) ∙ sym right
      | inr old ↦
          let gone : young_of span m (first ∷ rest) ≡ young_of span m rest =
          simp (le-ltb (m - first.moment) span old) refl in
          ap (λ xs. keep_last n (xs ++ sample ∷ [])) gone
          ∙ keep_last-few n (young_of span m rest ++ sample ∷ [])
          (simp length-append (omega (arith, length-young_of span m rest)))
          ∙ sym right
    ]

-- of the young ones of at most n samples and one more, the last n
keep_last-young_of : (n span m : ℕ) (samples : List Sample) (sample : Sample) → 0 < n → 0 < span → m ≤ sample.moment
    → length samples ≤ n → IsNonDecreasingBy (λ (s : Sample). s.moment) samples
    → keep_last n (young_of span m samples ++ sample ∷ []) ≡ young_of span m (keep_last n (samples ++ sample ∷ []))
keep_last-young_of n span m samples sample many some later few up = elim (cases_lt (length samples) n) [
  | inl less ↦
      keep_last-few n (young_of span m samples ++ sample ∷ [])
      (simp length-append (omega (arith, length-young_of span m samples)))
      ∙ sym (young_of-push span m samples sample some later)
      ∙ ap (young_of span m) (sym (keep_last-few n (samples ++ sample ∷ []) (simp length-append (omega arith))))
  | inr full ↦ keep_last-young_full n span m samples sample many some later (omega arith) up
]

-- with one sample more it is the window of one sample more
pub IsWindowOf-with_sample : (span m latest : ℕ) (all : List Sample) (window : WindowState) (sample : Sample) → 0 < span
    → latest ≤ sample.moment → IsWindowOf span m latest all window
    → IsWindowOf span m sample.moment (all ++ sample ∷ []) (with_sample sample window)
IsWindowOf-with_sample span m latest all window sample some later is_window =
    let before : m ≤ sample.moment = omega (arith, is_window.aged_before) in
    record {
      span_is = is_window.span_is;
      latest_is = refl;
      aged_before = before;
      rise =
          IsNonDecreasingBy-push (λ (s : Sample). s.moment) all sample is_window.rise
          (λ d some. omega (arith, is_window.past (length all - 1) d (omega arith)));
      past =
          All-push (λ (s : Sample). s.moment ≤ sample.moment) all sample
          (λ k d lt. omega (arith, is_window.past k d lt)) (omega arith);
      samples_are =
          ap (λ xs. keep_last 1024 (xs ++ sample ∷ [])) is_window.samples_are
          ∙ keep_last-young_of 1024 span m (keep_last 1024 all) sample (omega arith) some before
          (omega (arith, length-drop (length all - 1024) all))
          (IsNonDecreasingBy-drop (λ (s : Sample). s.moment) (length all - 1024) all is_window.rise)
          ∙ ap (young_of span m) (sym (keep_last-push 1024 all sample (omega arith)));
    }

-- at a later moment it is the window of that moment
pub IsWindowOf-without_old : (span m latest now : ℕ) (all : List Sample) (window : WindowState) → latest ≤ now
    → IsWindowOf span m latest all window → IsWindowOf span now now all (without_old now window)
IsWindowOf-without_old span m latest now all window later is_window =
    record {
      span_is = is_window.span_is;
      latest_is = refl;
      aged_before = omega arith;
      rise = is_window.rise;
      past = λ k d lt. omega (arith, is_window.past k d lt);
      samples_are =
          ap (λ s. young_of s now window.samples) is_window.span_is
          ∙ ap (young_of span now) is_window.samples_are
          ∙ young_of-young_of span m now (omega (arith, is_window.aged_before)) (keep_last 1024 all);
    }

calls_after : (span m latest : ℕ) (all : List Sample) (window : WindowState) (calls : List Call) → 0 < span
    → NeverFall latest calls → IsWindowOf span m latest all window
    → (window_after_all window calls).samples ≡ window_of span (last_age_out m calls) (all ++ samples_added calls)
calls_after span m latest all window [] some fall is_window =
    is_window.samples_are ∙ ap (window_of span m) (sym (append-nil all))
calls_after span m latest all window (Add sample ∷ calls) some fall is_window =
    calls_after span m sample.moment (all ++ sample ∷ []) (with_sample sample window) calls some fall.1
    (IsWindowOf-with_sample span m latest all window sample some fall.0 is_window)
    ∙ ap (window_of span (last_age_out m calls)) (append_assoc all (sample ∷ []) (samples_added calls))
calls_after span m latest all window (AgeOut now ∷ calls) some fall is_window =
    calls_after span now now all (without_old now window) calls some fall.1
    (IsWindowOf-without_old span m latest now all window fall.0 is_window)

pub IsWindowOf-empty_window : (span : ℕ) → IsWindowOf span 0 0 [] (empty_window span)
IsWindowOf-empty_window span =
    record {
      span_is = refl;
      latest_is = refl;
      aged_before = omega arith;
      rise = λ i j d le lt. absurd (omega arith);
      past = λ k d lt. absurd (omega arith);
      samples_are = refl;
    }

pub window_after_all-empty : (length : ℕ) (calls : List Call) → 0 < length → NeverFall 0 calls
    → (window_after_all (empty_window length) calls).samples
    ≡ window_of length (last_age_out 0 calls) (samples_added calls)
window_after_all-empty span calls some fall =
    calls_after span 0 0 [] (empty_window span) calls some fall (IsWindowOf-empty_window span)

-- a window has few samples
pub length-window_of : (span now : ℕ) (samples : List Sample) → length (window_of span now samples) ≤ 1024
length-window_of span now samples =
    omega (
      arith,
      length-young_of span now (keep_last 1024 samples),
      length-drop (length samples - 1024) samples,
    )
