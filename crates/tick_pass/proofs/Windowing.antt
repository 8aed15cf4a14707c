-- The windows of all functions: new ones, aged ones, and one that took a sample.
use Rattle.std.proofs.Common.{◌≡◌, ℕ, zero, suc, ◌<◌, ◌≤◌, inl, inr, List, [], ◌∷◌, ◌++◌, length, get_or, refl, sym, ◌∙◌, ap, subst, arith, All, take, drop}
use Rattle.std.specs.Prelude.{◌≢◌, map, slice_set}
use Rattle.std.proofs.lemmas.Bool.Decides.{eqb_tells}
use Rattle.std.proofs.lemmas.List.{length-set, length-map, get_or-set_other}
use Rattle.std.proofs.lemmas.List.Elements.{All-nil, All-push}
use Rattle.std.proofs.lemmas.Grind.{get_or-set_at}
use Rattle.onvm_base.specs.declared.plan.Plan.{Plan}
use Rattle.load_estimate.specs.declared.sample.Sample.{Sample}
use Rattle.load_estimate.specs.Windows.{IsWindowOf, WindowState, empty_window, with_sample, without_old, window_of}
use Rattle.load_estimate.proofs.Calls.{IsWindowOf-empty_window, IsWindowOf-with_sample, IsWindowOf-without_old}
use Rattle.cpu_shares.specs.Shares.{IsLoad, IsMailed, load_in}
use Rattle.cpu_shares.proofs.Windows.{IsLoad-window_of}
use Rattle.onvm_promises.specs.Lines.{function_window, samples_of}
use Rattle.tick_pass.specs.Roles.{AreWindows, HasWindow, IsWindowAt}
use Rattle.tick_pass.specs.Telling.{AreCurrent, AreLoaded}

-- A list of which so many first items were changed

abbrev pub changed_front : {A : Type 0} → (A → A) → ℕ → List A → List A
changed_front f zero xs = xs
changed_front f (suc n) [] = []
changed_front f (suc n) (x ∷ xs) = f x ∷ changed_front f n xs

pub changed_next : {A : Type 0} (f : A → A) (n : ℕ) (xs : List A) (x : A) → n < length xs
    → x ≡ get_or (changed_front f n xs) n x
    → slice_set (changed_front f n xs) n (f x) ≡ changed_front f (suc n) xs
changed_next f zero [] x within is = absurd (omega arith)
changed_next f zero (y ∷ ys) x within is = ap (λ z. f z ∷ ys) is
changed_next f (suc n) [] x within is = absurd (omega arith)
changed_next f (suc n) (y ∷ ys) x within is =
    ap (λ zs. f y ∷ zs) (changed_next f n ys x (omega arith) is)

pub changed_all : {A : Type 0} (f : A → A) (n : ℕ) (xs : List A) → length xs ≤ n → changed_front f n xs ≡ map f xs
changed_all f zero [] all = refl
changed_all f zero (x ∷ xs) all = absurd (omega arith)
changed_all f (suc n) [] all = refl
changed_all f (suc n) (x ∷ xs) all = ap (λ ys. f x ∷ ys) (changed_all f n xs (omega arith))

pub unchanged_there : {A : Type 0} (f : A → A) (n : ℕ) (xs : List A) (d : A)
    → get_or (changed_front f n xs) n d ≡ get_or xs n d
unchanged_there f zero xs d = refl
unchanged_there f (suc n) [] d = refl
unchanged_there f (suc n) (x ∷ xs) d = unchanged_there f n xs d

pub length_changed : {A : Type 0} (f : A → A) (n : ℕ) (xs : List A) → length (changed_front f n xs) ≡ length xs
length_changed f zero xs = refl
length_changed f (suc n) [] = refl
length_changed f (suc n) (x ∷ xs) = ap suc (length_changed f n xs)

-- a list that was written whole in place of one as long
take_front : {A : Type 0} (xs ys : List A) → take (length xs) (xs ++ ys) ≡ xs
take_front [] ys = refl
take_front (x ∷ xs) ys = ap (λ zs. x ∷ zs) (take_front xs ys)

pub written_whole : {A : Type 0} (xs ys : List A) (n : ℕ) → length ys ≡ n → length xs ≡ length ys
    → take n (xs ++ drop (length xs) ys) ≡ xs
written_whole xs ys n long same =
    ap (λ k. take k (xs ++ drop (length xs) ys)) (sym (same ∙ long)) ∙ take_front xs (drop (length xs) ys)

-- Samples of a function

pub samples_append : (f : ℕ) (xs ys : List Sample) → samples_of f (xs ++ ys) ≡ samples_of f xs ++ samples_of f ys
samples_append f [] ys = refl
samples_append f (x ∷ xs) ys = elim (eqb_tells x.function.0 f) [
  | inl met ↦ rw met.0 (ap (λ zs. x ∷ zs) (samples_append f xs ys))
  | inr unmet ↦ rw unmet.0 (samples_append f xs ys)
]

pub samples_own : (f : ℕ) (samples : List Sample) (sample : Sample) → sample.function.0 ≡ f
    → samples_of f (samples ++ sample ∷ []) ≡ samples_of f samples ++ sample ∷ []
samples_own f samples sample own = elim (eqb_tells sample.function.0 f) [
  | inl met ↦
      samples_append f samples (sample ∷ []) ∙ ap (λ ys. samples_of f samples ++ ys) (rw met.0 refl)
  | inr unmet ↦ absurd (unmet.1 own)
]

-- One window

pub window_later : (latest now : ℕ) (samples : List Sample) (window : WindowState) → latest ≤ now
    → HasWindow latest samples window → HasWindow now samples window
window_later latest now samples window later has = record {
  aged = has.aged;
  last = has.last;
  is = has.is;
  before = omega (arith, has.before);
  some = has.some;
  mailed = has.mailed;
}

pub window_took : (now : ℕ) (samples : List Sample) (window : WindowState) (sample : Sample) → sample.moment ≡ now
    → IsMailed sample → HasWindow now samples window
    → HasWindow now (samples ++ sample ∷ []) (with_sample sample window)
window_took now samples window sample moment mailed has = record {
  aged = has.aged;
  last = sample.moment;
  is =
      IsWindowOf-with_sample window.span has.aged has.last samples window sample has.some
      (omega (arith, has.before, moment)) has.is;
  before = omega (arith, moment);
  some = has.some;
  mailed = All-push IsMailed samples sample has.mailed mailed;
}

pub window_aged : (now : ℕ) (samples : List Sample) (window : WindowState) → HasWindow now samples window
    → IsWindowOf window.span now now samples (without_old now window)
window_aged now samples window has =
    IsWindowOf-without_old window.span has.aged has.last now samples window has.before has.is

pub window_kept : (now : ℕ) (samples : List Sample) (window : WindowState) → HasWindow now samples window
    → HasWindow now samples (without_old now window)
window_kept now samples window has = record {
  aged = now;
  last = now;
  is = window_aged now samples window has;
  before = omega arith;
  some = has.some;
  mailed = has.mailed;
}

pub window_empty : (span latest : ℕ) → 0 < span → HasWindow latest [] (empty_window span)
window_empty span latest some = record {
  aged = 0;
  last = 0;
  is = IsWindowOf-empty_window span;
  before = omega arith;
  some = some;
  mailed = All-nil IsMailed;
}

-- All windows

pub windows_later : (plan : Plan) (latest now : ℕ) (samples : List Sample) (windows : List WindowState)
    → latest ≤ now → AreWindows plan latest samples windows → AreWindows plan now samples windows
windows_later plan latest now samples windows later are = record {
  long = are.long;
  each = λ f window known is.
      let at : IsWindowAt plan latest samples f window = are.each f window known is in
      record { span_is = at.span_is; has = window_later latest now (samples_of f samples) window later at.has };
}

-- one function's window took samples, of which there are none of another function
pub windows_moved : (plan : Plan) (now f : ℕ) (samples all : List Sample) (windows : List WindowState)
    (window : WindowState) → f < length plan.functions
    → ((g : ℕ) → g ≢ f → samples_of g all ≡ samples_of g samples)
    → IsWindowAt plan now all f window → AreWindows plan now samples windows
    → AreWindows plan now all (slice_set windows f window)
windows_moved plan now f samples all windows window known others new are = record {
  long = length-set windows f window ∙ are.long;
  each = λ g other less is. elim (eqb_tells g f) [
    | inl met ↦
        let at : other ≡ window = is ∙ get_or-set_at windows f g window other met.1 (omega (arith, known, are.long)) in
        subst (λ (z : ℕ × WindowState). IsWindowAt plan now all z.0 z.1) (λ i. (sym met.1 i, sym at i)) new
    | inr unmet ↦
        let old : IsWindowAt plan now samples g other =
        are.each g other less (is ∙ get_or-set_other windows f g window other unmet.1) in
        record {
          span_is = old.span_is;
          has = subst (λ own. HasWindow now own other) (sym (others g unmet.1)) old.has;
        }
  ];
}

get_or_map : {A : Type 0} (f : A → A) (xs : List A) (n : ℕ) (d e : A) → n < length xs
    → get_or (map f xs) n d ≡ f (get_or xs n e)
get_or_map f [] n d e within = absurd (omega arith)
get_or_map f (x ∷ xs) zero d e within = refl
get_or_map f (x ∷ xs) (suc n) d e within = get_or_map f xs n d e (omega arith)

pub get_or_any : {A : Type 0} (xs : List A) (n : ℕ) (d e : A) → n < length xs → get_or xs n d ≡ get_or xs n e
get_or_any [] n d e within = absurd (omega arith)
get_or_any (x ∷ xs) zero d e within = refl
get_or_any (x ∷ xs) (suc n) d e within = get_or_any xs n d e (omega arith)

module _ (plan : Plan) (now : ℕ) (samples : List Sample) (windows : List WindowState)
    (are : AreWindows plan now samples windows) where
  -- the window at a place
  window_at : (f : ℕ) → f < length plan.functions
      → IsWindowAt plan now samples f (get_or windows f (empty_window 0))
  window_at f known =
      are.each f (get_or windows f (empty_window 0)) known
      (get_or_any windows f (empty_window 0) (get_or windows f (empty_window 0)) (omega (arith, known, are.long)))

  -- the moments of which windows were told
  pub all_earlier : All (λ (window : WindowState). window.latest ≤ now) windows
  all_earlier f d within =
      let known : f < length plan.functions = omega (arith, within, are.long) in
      let window : WindowState = get_or windows f d in
      let at : IsWindowAt plan now samples f window =
      are.each f window known (get_or_any windows f d window within) in
      omega (arith, at.has.is.latest_is, at.has.before)

  -- the windows as they are aged out
  pub windows_aged : AreWindows plan now samples (map (without_old now) windows)
  windows_aged = record {
    long = length-map windows (without_old now) ∙ are.long;
    each = λ f window known is.
        let old : IsWindowAt plan now samples f (get_or windows f (empty_window 0)) = window_at f known in
        let same : window ≡ without_old now (get_or windows f (empty_window 0)) =
        is ∙ get_or_map (without_old now) windows f window (empty_window 0) (omega (arith, known, are.long)) in
        subst (IsWindowAt plan now samples f) (sym same)
        (record {
          span_is = old.span_is;
          has = window_kept now (samples_of f samples) (get_or windows f (empty_window 0)) old.has;
        });
  }

  aged_at : (f : ℕ) → f < length plan.functions
      → (get_or (map (without_old now) windows) f (empty_window 0)).samples ≡ function_window plan samples now f
  aged_at f known =
      let at : IsWindowAt plan now samples f (get_or windows f (empty_window 0)) = window_at f known in
      ap (λ (w : WindowState). w.samples)
      (get_or_map (without_old now) windows f (empty_window 0) (empty_window 0) (omega (arith, known, are.long)))
      ∙ (window_aged now (samples_of f samples) (get_or windows f (empty_window 0)) at.has).samples_are
      ∙ ap (λ span. window_of span now (samples_of f samples)) at.span_is

  pub are_current : AreCurrent plan samples now (map (without_old now) windows)
  are_current f known = ap load_in (aged_at f.0 known)

  pub are_loaded : AreLoaded plan (map (without_old now) windows)
  are_loaded = record {
    long = length-map windows (without_old now) ∙ are.long;
    each = λ f known.
        subst IsLoad (sym (are_current f known))
        (IsLoad-window_of plan.window now (samples_of f.0 samples) (window_at f.0 known).has.mailed);
  }
