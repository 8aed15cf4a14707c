-- Whether a reading was old enough: the answers stay as the log grows.
use Rattle.std.proofs.Common.{◌≡◌, ℕ, ◌+◌, ◌-◌, ◌<◌, Bool, true, if◌then◌else◌, inl, inr, [], ◌∷◌, ◌++◌, length, refl, sym, ◌∙◌, ap, arith}
use Rattle.std.specs.Prelude.{◌==◌, ◌&&◌, nat_le}
use Rattle.std.proofs.lemmas.Bool.{cases_Bool, and_from, and_left, eqb-true, eqb-false, eq-eqb, ne_eqb, le-leb, both_ways}
use Rattle.onvm_base.specs.declared.ids.RingId.{RingId}
use Rattle.onvm_base.specs.declared.ids.RingId.TheVariants.{Lane}
use Rattle.onvm_core.specs.Logs.{Setting, Log, push_count}
use Rattle.onvm_core.specs.Handling.{is_push_on}
use Rattle.onvm_core.specs.Marks.{Ages, AreMarked, mark_events}
use Rattle.onvm_core.proofs.Lists.{if_met, if_unmet}
use Rattle.onvm_core.proofs.Agreeing.{Agree, marked_same, paid_same, passes_by, passes_grow}
use Rattle.onvm_promises.specs.Times.{aged_by, passes_in, push_moment, reading_time}
use Rattle.onvm_promises.specs.Passes.{IsMarksPass}
use Rattle.onvm_promises.specs.Rests.{IsSettledFeeder}

-- Answers

push_same : (ring : RingId) (number : ℕ) (left right : ℕ → ℕ) (log : Log)
    → ((k : ℕ) → k < length log → left k ≡ right k)
    → push_moment ring number left log ≡ push_moment ring number right log
push_same ring number left right [] same = refl
push_same ring number left right (act ∷ before) same =
    ap (λ (m : ℕ).
    if is_push_on ring act && (push_count ring before + 1 == number) then m
    else push_moment ring number left before) (same (length before) (omega arith))
    ∙ ap (λ (m : ℕ).
    if is_push_on ring act && (push_count ring before + 1 == number) then right (length before) else m)
    (push_same ring number left right before (λ k less. same k (omega (arith, less))))

aged_same : (setting : Setting) (feeder : ℕ) (left right : ℕ → ℕ) (log : Log) (pass f : ℕ)
    → ((k : ℕ) → k < length log → left k ≡ right k)
    → aged_by setting feeder left log pass f ≡ aged_by setting feeder right log pass f
aged_same setting feeder left right [] pass f same = refl
aged_same setting feeder left right (act ∷ before) pass f same =
    let earlier : (k : ℕ) → k < length before → left k ≡ right k = λ k less. same k (omega (arith, less)) in
    let lane : RingId = Lane (record { 0 = f }) feeder in
    let time : reading_time setting feeder f (left (length before)) left before
    ≡ reading_time setting feeder f (right (length before)) right before
    = ap (λ (m : ℕ). m - push_moment lane (push_count lane before - setting.plan.high + 1) left before)
    (same (length before) (omega arith))
    ∙ ap (λ (m : ℕ). right (length before) - m)
    (push_same lane (push_count lane before - setting.plan.high + 1) left right before earlier) in
    ap (λ (m : ℕ).
    if (passes_in setting feeder before == pass) && (passes_in setting feeder (act ∷ before) == pass + 1)
    then nat_le setting.plan.age m else aged_by setting feeder left before pass f) time
    ∙ ap (λ (b : Bool).
    if (passes_in setting feeder before == pass) && (passes_in setting feeder (act ∷ before) == pass + 1)
    then nat_le setting.plan.age (reading_time setting feeder f (right (length before)) right before) else b)
    (aged_same setting feeder left right before pass f earlier)

-- what was answered stays
pub aged_stays : (setting : Setting) (feeder : ℕ) (moment later : ℕ → ℕ) (added before : Log) (pass f : ℕ)
    → ((k : ℕ) → k < length before → later k ≡ moment k) → pass < passes_in setting feeder before
    → aged_by setting feeder later (added ++ before) pass f ≡ aged_by setting feeder moment before pass f
aged_stays setting feeder moment later [] before pass f same less =
    aged_same setting feeder later moment before pass f same
aged_stays setting feeder moment later (act ∷ added) before pass f same less =
    if_unmet ((passes_in setting feeder (added ++ before) == pass)
    && (passes_in setting feeder (act ∷ added ++ before) == pass + 1))
    (nat_le setting.plan.age
    (reading_time setting feeder f (later (length (added ++ before))) later (added ++ before)))
    (aged_by setting feeder later (added ++ before) pass f)
    (and_left (passes_in setting feeder (added ++ before) == pass)
    (passes_in setting feeder (act ∷ added ++ before) == pass + 1)
    (ne_eqb (passes_in setting feeder (added ++ before)) pass
    (λ e. omega (arith, e, less, passes_grow setting feeder added before))))
    ∙ aged_stays setting feeder moment later added before pass f same less

-- an age of 0 is always reached
pub aged_at_once : (setting : Setting) (feeder : ℕ) (moment : ℕ → ℕ) (log : Log) (pass f : ℕ)
    → setting.plan.age ≡ 0 → pass < passes_in setting feeder log
    → aged_by setting feeder moment log pass f ≡ true
aged_at_once setting feeder moment [] pass f none less = absurd (omega (arith, less))
aged_at_once setting feeder moment (act ∷ before) pass f none less =
    elim (cases_Bool ((passes_in setting feeder before == pass)
    && (passes_in setting feeder (act ∷ before) == pass + 1))) [
      | inl met ↦
          if_met ((passes_in setting feeder before == pass) && (passes_in setting feeder (act ∷ before) == pass + 1))
          (nat_le setting.plan.age (reading_time setting feeder f (moment (length before)) moment before))
          (aged_by setting feeder moment before pass f) met
          ∙ le-leb setting.plan.age (reading_time setting feeder f (moment (length before)) moment before)
          (omega (arith, none))
      | inr unmet ↦
          let bounds = passes_by setting feeder act before in
          if_unmet ((passes_in setting feeder before == pass) && (passes_in setting feeder (act ∷ before) == pass + 1))
          (nat_le setting.plan.age (reading_time setting feeder f (moment (length before)) moment before))
          (aged_by setting feeder moment before pass f) unmet
          ∙ aged_at_once setting feeder moment before pass f none
          (elim (cases_Bool (passes_in setting feeder before == pass)) [
            | inl here ↦
                absurd
                (both_ways
                ((passes_in setting feeder before == pass) && (passes_in setting feeder (act ∷ before) == pass + 1))
                unmet
                (and_from (passes_in setting feeder before == pass)
                (passes_in setting feeder (act ∷ before) == pass + 1) here
                (eq-eqb (passes_in setting feeder (act ∷ before)) (pass + 1)
                (omega (arith, less, bounds.0, bounds.1, eqb-true (passes_in setting feeder before) pass here)))))
            | inr other ↦
                omega (arith, less, bounds.0, bounds.1, eqb-false (passes_in setting feeder before) pass other)
          ])
    ]

-- Marks under answers that agree

-- marks that are right stay so under the answers of a longer log
pub marked_stays : (setting : Setting) (feeder : ℕ) (moment later : ℕ → ℕ) (added before : Log)
    → ((k : ℕ) → k < length before → later k ≡ moment k)
    → AreMarked setting feeder (aged_by setting feeder moment before) before
    → AreMarked setting feeder (aged_by setting feeder later (added ++ before)) before
marked_stays setting feeder moment later added before same marked =
    marked_same setting feeder (aged_by setting feeder moment before)
    (aged_by setting feeder later (added ++ before)) before
    (λ pass f less. sym (aged_stays setting feeder moment later added before pass f same less)) marked

pub feeder_same : (setting : Setting) (feeder : ℕ) (left right : Ages) (log : Log)
    → Agree left right (passes_in setting feeder log) → IsSettledFeeder setting feeder left log
    → IsSettledFeeder setting feeder right log
feeder_same setting feeder left right log same is =
    record {
      marked = marked_same setting feeder left right log same is.marked;
      ended = is.ended;
      paid = paid_same left right (mark_events setting feeder log) same is.paid;
      paced = is.paced;
    }

pub marks_pass_same : (setting : Setting) (feeder : ℕ) (left right : Ages) (before made : Log)
    → Agree left right (passes_in setting feeder (made ++ before)) → IsMarksPass setting feeder left before made
    → IsMarksPass setting feeder right before made
marks_pass_same setting feeder left right before made same is =
    record {
      marks = is.marks;
      settled = feeder_same setting feeder left right (made ++ before) same is.settled;
      one = is.one;
      none = is.none;
    }
