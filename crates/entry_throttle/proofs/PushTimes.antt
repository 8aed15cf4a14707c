-- The moments that a feeder keeps tell how old its lanes are, by its log.
use Rattle.std.proofs.Common.{◌≡◌, ◌≢◌, ◌∙◌, sym, ap, refl, ℕ, zero, suc, ◌+◌, ◌-◌, ◌<◌, ◌≤◌, Bool, true, false, List, [], ◌∷◌, ◌++◌, length, inl, inr, arith, length-append}
use Rattle.std.specs.Prelude.{◌==◌, ◌&&◌, nat_le, if◌then◌else◌, get_or}
use Rattle.std.proofs.lemmas.Bool.{cases_Bool, eqb-true, eqb-false}
use Rattle.std.proofs.lemmas.List.{get_or_push}
use Rattle.onvm_base.specs.declared.ids.RingId.{RingId}
use Rattle.onvm_core.specs.declared.step.Act.TheVariants.{Split, Join, Take, Give, Push, Full, Pop, Empty, Look, Post}
use Rattle.onvm_core.specs.Layouts.{same_ring}
use Rattle.onvm_core.specs.Logs.{Setting, Log, push_count}
use Rattle.onvm_core.specs.Marks.{Ages, mark_events, pass_count}
use Rattle.onvm_core.proofs.Lists.{if_met, if_unmet}
use Rattle.onvm_promises.specs.Times.{push_moment, reading_time}
use Rattle.watermark.specs.Moments.{PushMoments, age_of, last_of, no_moments, oldest_of}
use Rattle.watermark.proofs.Moments.{oldest_of-last_of}
use Rattle.entry_throttle.specs.Feeders.{FeederView}
use Rattle.entry_throttle.specs.Lanes.{AreTimely, is_aged}
use Rattle.entry_throttle.specs.Looks.{lane}
use Rattle.entry_throttle.specs.Moments.{KeepsMoments, push_moments}

long_if : (b : Bool) (n m : ℕ) (ms : List ℕ) → length ms ≡ n
    → length (if b then ms ++ m ∷ [] else ms) ≡ (if b then n + 1 else n)
long_if true n m ms e = length-append ms (m ∷ []) ∙ ap (λ (k : ℕ). k + 1) e
long_if false n m ms e = e

pub moments_long : (ring : RingId) (moment : ℕ → ℕ) (log : Log)
    → length (push_moments ring moment log) ≡ push_count ring log
moments_long ring moment [] = refl
moments_long ring moment (Push r item ∷ before) =
    long_if (same_ring r ring) (push_count ring before) (moment (length before)) (push_moments ring moment before)
    (moments_long ring moment before)
moments_long ring moment (Look a b d ∷ before) = moments_long ring moment before
moments_long ring moment (Post a b ∷ before) = moments_long ring moment before
moments_long ring moment (Split a ∷ before) = moments_long ring moment before
moments_long ring moment (Join a ∷ before) = moments_long ring moment before
moments_long ring moment (Take a ∷ before) = moments_long ring moment before
moments_long ring moment (Give a b d ∷ before) = moments_long ring moment before
moments_long ring moment (Full a ∷ before) = moments_long ring moment before
moments_long ring moment (Pop a b ∷ before) = moments_long ring moment before
moments_long ring moment (Empty a ∷ before) = moments_long ring moment before

-- push k, counted from 1, stands at place k - 1

at_if : (b : Bool) (n m k old : ℕ) (ms : List ℕ) → length ms ≡ n → 1 ≤ k → k ≤ (if b then n + 1 else n)
    → (k ≤ n → old ≡ get_or ms (k - 1) 0)
    → (if b && (n + 1 == k) then m else old) ≡ get_or (if b then ms ++ m ∷ [] else ms) (k - 1) 0
at_if false n m k old ms long some few was = was few
at_if true n m k old ms long some few was = elim (cases_Bool (n + 1 == k)) [
  | inl met ↦
      let e : n + 1 ≡ k = eqb-true (n + 1) k met in
      if_met (n + 1 == k) m old met ∙ sym (get_or_push ms m 0 (k - 1) (omega (arith, long, e)))
  | inr unmet ↦
      let ne : n + 1 ≢ k = eqb-false (n + 1) k unmet in
      let le : k ≤ n = omega (arith, ne, few) in
      if_unmet (n + 1 == k) m old unmet ∙ was le
      ∙ sym (append_left ms m (k - 1) (omega (arith, le, some, long)))
]
  where
    append_left : (xs : List ℕ) (x i : ℕ) → i < length xs → get_or (xs ++ x ∷ []) i 0 ≡ get_or xs i 0
    append_left [] x i less = absurd (omega (arith, less))
    append_left (y ∷ ys) x zero less = refl
    append_left (y ∷ ys) x (suc i) less = append_left ys x i (omega (arith, less))

pub moment_at : (ring : RingId) (moment : ℕ → ℕ) (k : ℕ) (log : Log) → 1 ≤ k → k ≤ push_count ring log
    → push_moment ring k moment log ≡ get_or (push_moments ring moment log) (k - 1) 0
moment_at ring moment k [] some few = absurd (omega (arith, some, few))
moment_at ring moment k (Push r item ∷ before) some few =
    at_if (same_ring r ring) (push_count ring before) (moment (length before)) k (push_moment ring k moment before)
    (push_moments ring moment before) (moments_long ring moment before) some few (moment_at ring moment k before some)
moment_at ring moment k (Look a b d ∷ before) some few = moment_at ring moment k before some few
moment_at ring moment k (Post a b ∷ before) some few = moment_at ring moment k before some few
moment_at ring moment k (Split a ∷ before) some few = moment_at ring moment k before some few
moment_at ring moment k (Join a ∷ before) some few = moment_at ring moment k before some few
moment_at ring moment k (Take a ∷ before) some few = moment_at ring moment k before some few
moment_at ring moment k (Give a b d ∷ before) some few = moment_at ring moment k before some few
moment_at ring moment k (Full a ∷ before) some few = moment_at ring moment k before some few
moment_at ring moment k (Pop a b ∷ before) some few = moment_at ring moment k before some few
moment_at ring moment k (Empty a ∷ before) some few = moment_at ring moment k before some few

-- the oldest of the moments that are kept is that of the push at the high mark's place from the back
pub oldest_is : (ring : RingId) (moment : ℕ → ℕ) (high : ℕ) (log : Log) → 1 ≤ high → high ≤ push_count ring log
    → oldest_of (record { high = high; moments = last_of high (push_moments ring moment log) })
    ≡ push_moment ring (push_count ring log - high + 1) moment log
oldest_is ring moment high log some many =
    let ms : List ℕ = push_moments ring moment log in
    let n : ℕ = push_count ring log in
    let long : length ms ≡ n = moments_long ring moment log in
    let at : length ms - high ≡ n - high + 1 - 1 = omega (arith, long) in
    oldest_of-last_of high ms
    ∙ ap (λ (k : ℕ). get_or ms k 0) at
    ∙ sym (moment_at ring moment (n - high + 1) log (omega arith) (omega (arith, some, many)))

-- so the feeder's answers on the age are those of the times of the readings
pub aged_is : (setting : Setting) (feeder : FeederView) (now f : ℕ) (moment : ℕ → ℕ) (log : Log)
    → KeepsMoments moment feeder log → setting.plan.high ≡ feeder.high → 1 ≤ feeder.high → f < length feeder.ages
    → setting.plan.high ≤ push_count (lane f feeder.number) log
    → nat_le setting.plan.age (reading_time setting feeder.number f now moment log) ≡ is_aged setting feeder.ages now f
aged_is setting feeder now f moment log keeps high some inside many =
    let ring : RingId = lane f feeder.number in
    let n : ℕ = push_count ring log in
    ap (λ (k : ℕ). nat_le setting.plan.age (now - push_moment ring (n - k + 1) moment log)) high
    ∙ ap (λ (m : ℕ). nat_le setting.plan.age (now - m))
    (sym (oldest_is ring moment feeder.high log some (omega (arith, many, high))))
    ∙ ap (λ (l : PushMoments). nat_le setting.plan.age (age_of now l)) (sym (keeps f (no_moments 0) inside))

-- any answers that are those of the times in this pass are timely
pub timely_at : (setting : Setting) (aged : Ages) (feeder : FeederView) (now : ℕ) (moment : ℕ → ℕ) (log : Log)
    → KeepsMoments moment feeder log → setting.plan.high ≡ feeder.high → 1 ≤ feeder.high
    → length feeder.ages ≡ setting.layout.functions
    → ((f : ℕ) → f < setting.layout.functions
    → aged (pass_count (mark_events setting feeder.number log)) f
    ≡ nat_le setting.plan.age (reading_time setting feeder.number f now moment log))
    → AreTimely setting feeder.number aged feeder.ages now log
timely_at setting aged feeder now moment log keeps high some long answers f inside many =
    answers f inside ∙ aged_is setting feeder now f moment log keeps high some (omega (arith, inside, long)) many
