-- For callers: a marks pass by the moments of the feeder's log.
use Rattle.std.proofs.Common.{◌≡◌, ◌∙◌, sym, ap, refl, subst, ℕ, ◌+◌, ◌<◌, ◌≤◌, Bool, false, true, List, [], ◌∷◌, ◌++◌, length, inl, inr, arith}
use Rattle.std.specs.Prelude.{◌==◌, ◌&&◌, ◌||◌, nat_le, if◌then◌else◌}
use Rattle.std.proofs.lemmas.Bool.{cases_order, eq-eqb, ne_eqb}
use Rattle.onvm_base.specs.declared.ids.RingId.{RingId}
use Rattle.onvm_core.specs.declared.step.Act.{Act}
use Rattle.onvm_core.specs.Logs.{Setting, Log}
use Rattle.onvm_core.specs.Marks.{Ages, MarkLook, looks_of_pass, mark_events}
use Rattle.onvm_core.specs.Potential.{pushed_in}
use Rattle.onvm_core.proofs.Agreeing.{Agree, throttled_same}
use Rattle.onvm_core.proofs.Lists.{if_met, if_unmet}
use Rattle.onvm_board.specs.Tokens.{BoardView, TokenView}
use Rattle.onvm_promises.specs.Acts.{AreMarkSteps, IsMarkStep}
use Rattle.onvm_promises.specs.Acts.IsMarkStep.{ALook, APost}
use Rattle.onvm_promises.specs.Passes.{IsMarksPass}
use Rattle.onvm_promises.specs.Rests.{IsSettledFeeder}
use Rattle.onvm_promises.specs.Times.{aged_by, passes_in, reading_time}
use Rattle.onvm_promises.proofs.Aging.{feeder_same, marks_pass_same}
use Rattle.onvm_promises.proofs.Timing.{aged_later, aged_now}
use Rattle.watermark.specs.declared.mark.Mark.{Mark}
use Rattle.entry_throttle.specs.Feeders.{FeederView, IsReady, MadeMarksPass}
use Rattle.entry_throttle.specs.Lanes.{HasMarks}
use Rattle.entry_throttle.specs.Looks.{lane}
use Rattle.entry_throttle.specs.Moments.{KeepsMoments}
use Rattle.entry_throttle.specs.Throttles.{AreMarksOf}
use Rattle.entry_throttle.proofs.OtherActs.{moments_grown}
use Rattle.entry_throttle.proofs.PushTimes.{timely_at}

-- marks under answers that agree
pub marks_same : (setting : Setting) (feeder : ℕ) (left right : Ages) (marks : List Mark) (posts : ℕ) (log : Log)
    → Agree left right (passes_in setting feeder log) → AreMarksOf setting feeder left marks posts log
    → AreMarksOf setting feeder right marks posts log
marks_same setting feeder left right marks posts log agree was = record {
  long = was.long;
  states = λ f. was.states f ∙ throttled_same left right f (mark_events setting feeder log) agree;
  idle = was.idle;
  counted = was.counted;
  numbered = was.numbered;
}

-- a marks pass pushes nothing

mark_pushes_none : (setting : Setting) (feeder : ℕ) (ring : RingId) (act : Act) → IsMarkStep setting feeder act
    → (before : Log) → pushed_in ring before ≡ [] → pushed_in ring (act ∷ before) ≡ []
mark_pushes_none setting feeder ring act (ALook f at seen known within) before none_before = rw none_before refl
mark_pushes_none setting feeder ring act (APost value) before none_before = rw none_before refl

marks_push_none : (setting : Setting) (feeder : ℕ) (ring : RingId) (made : Log) → AreMarkSteps setting feeder made
    → pushed_in ring made ≡ []
marks_push_none setting feeder ring [] are = refl
marks_push_none setting feeder ring (act ∷ made) are =
    mark_pushes_none setting feeder ring act are.0 made (marks_push_none setting feeder ring made are.1)

pub moments_after_pass : (setting : Setting) (number : ℕ) (moment : ℕ → ℕ) (feeder : FeederView) (made before : Log)
    → AreMarkSteps setting number made → KeepsMoments moment feeder before → KeepsMoments moment feeder (made ++ before)
moments_after_pass setting number moment feeder made before are was =
    moments_grown moment feeder made before (λ f. marks_push_none setting number (lane f feeder.number) made are) was

-- a pass adds one at most
one_most : (setting : Setting) (feeder : ℕ) (aged : Ages) (before made : Log) (looks : List MarkLook)
    → looks_of_pass setting feeder before ≡ looks → IsMarksPass setting feeder aged before made
    → passes_in setting feeder (made ++ before) ≤ passes_in setting feeder before + 1
one_most setting feeder aged before made [] e pass =
    let same : passes_in setting feeder (made ++ before) ≡ passes_in setting feeder before =
    ap (λ (l : Log). passes_in setting feeder (l ++ before)) (pass.none e) in
    omega (arith, same)
one_most setting feeder aged before made (w ∷ ws) e pass =
    let one : passes_in setting feeder (made ++ before) ≡ passes_in setting feeder before + 1 =
    pass.one (λ h. let off : ◌≡◌ {A = List MarkLook} (w ∷ ws) [] = sym e ∙ h in cc) in
    omega (arith, one)

-- where a feeder's marks passes were right by the moments of its log, a pass that is made at one moment is so too. The
-- last premise is the clause `passed` of `marks_pass`
pub pass_by_moments : (setting : Setting) (board : BoardView) (now : ℕ) (moment : ℕ → ℕ) (feeder new : FeederView)
    (before after : TokenView)
    → HasMarks setting board.layout feeder.high feeder.low feeder.age
    → 1 ≤ feeder.high → length feeder.ages ≡ setting.layout.functions
    → IsSettledFeeder setting feeder.number (aged_by setting feeder.number moment before.log) before.log
    → AreMarksOf setting feeder.number (aged_by setting feeder.number moment before.log) feeder.marks
    (length feeder.posts) before.log
    → KeepsMoments moment feeder before.log
    → ((number : ℕ) → length before.log ≤ number → number < length after.log → moment number ≡ now)
    → ((aged : Ages) → IsReady setting aged board now feeder before
    → MadeMarksPass setting aged now feeder new before after)
    → MadeMarksPass setting (aged_by setting feeder.number moment after.log) now feeder new before after
pass_by_moments setting board now moment feeder new before after plan some long settled marks keeps at passes =
    let n : ℕ = feeder.number in
    let count : ℕ = passes_in setting n before.log in
    let was : Ages = aged_by setting n moment before.log in
    let here : ℕ → Bool = λ f. nat_le setting.plan.age (reading_time setting n f now moment before.log) in
    let aged : Ages = λ pass f. if pass == count then here f else was pass f in
    let apart : (pass f : ℕ) → pass < count → aged pass f ≡ was pass f =
    λ pass f less. if_unmet (pass == count) (here f) (was pass f) (ne_eqb pass count (λ e. omega (arith, e, less))) in
    let same : (f : ℕ) → aged count f ≡ here f =
    λ f. if_met (count == count) (here f) (was count f) (eq-eqb count count refl) in
    let old_agree : Agree was aged count = λ pass f less. sym (apart pass f less) in
    let passed : MadeMarksPass setting aged now feeder new before after =
    passes aged (record {
      plan = plan;
      settled = feeder_same setting n was aged before.log old_agree settled;
      marks = marks_same setting n was aged feeder.marks (length feeder.posts) before.log old_agree marks;
      timely = timely_at setting aged feeder now moment before.log keeps plan.high_is some long (λ f inside. same f);
    }) in
    let most : passes_in setting n (passed.made ++ before.log) ≤ count + 1 =
    one_most setting n aged before.log passed.made (looks_of_pass setting n before.log) refl passed.pass in
    let final : Ages = aged_by setting n moment after.log in
    let is_final : (pass f : ℕ) → final pass f ≡ aged_by setting n moment (passed.made ++ before.log) pass f =
    λ pass f. ap (λ (l : Log). aged_by setting n moment l pass f) passed.grew in
    let agree : Agree aged final (passes_in setting n (passed.made ++ before.log)) =
    λ pass f less. elim (cases_order pass count) [
      | inl e ↦
          subst (λ (p : ℕ). aged p f ≡ final p f) (sym e)
          (same f
          ∙ sym (aged_now setting n f now moment passed.made before.log passed.pass.marks
          (λ number from below. at number from (subst (λ (l : Log). number < length l) (sym passed.grew) below))
          (omega (arith, less, e)))
          ∙ sym (is_final count f))
      | inr (inl lower) ↦
          apart pass f lower
          ∙ sym (aged_later setting n moment passed.made before.log pass f lower)
          ∙ sym (is_final pass f)
      | inr (inr upper) ↦ absurd (omega (arith, less, most, upper))
    ] in record {
      made = passed.made;
      grew = passed.grew;
      posts = passed.posts;
      pass = marks_pass_same setting n aged final before.log passed.made agree passed.pass;
      marks =
          marks_same setting n aged final new.marks (length new.posts) after.log
          (subst (λ (l : Log). Agree aged final (passes_in setting n l)) (sym passed.grew) agree) passed.marks;
    }
