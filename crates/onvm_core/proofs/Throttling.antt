-- Each throttle is earned.
use Rattle.std.proofs.Common.{◌≡◌, ℕ, ◌/◌, ◌^◌, true, inl, inr, [], ◌∷◌, refl, sym, ◌∙◌, ap, subst, Some}
use Rattle.onvm_base.specs.declared.ids.FnId.{FnId}
use Rattle.onvm_base.specs.declared.outcome.Record.{Record}
use Rattle.onvm_base.specs.declared.outcome.Outcome.{Outcome}
use Rattle.onvm_base.specs.declared.outcome.Outcome.TheVariants.{Throttled}
use Rattle.onvm_core.specs.declared.entry.Entry.{Entry}
use Rattle.onvm_core.specs.declared.layout.Word.{Word}
use Rattle.onvm_core.specs.declared.layout.Word.TheVariants.{Post as PostWord}
use Rattle.onvm_core.specs.declared.step.Act.TheVariants.{Look}
use Rattle.onvm_core.specs.declared.step.Step.{Step}
use Rattle.onvm_core.specs.Layouts.{IsFeeder}
use Rattle.onvm_core.specs.History.{History}
use Rattle.onvm_core.specs.Lawful.{AllowsAct, IsLawful}
use Rattle.onvm_core.specs.Records.{records_of_act}
use Rattle.onvm_core.specs.Words.{value_of}
use Rattle.onvm_core.specs.Logs.{Setting, log_of, entry_after}
use Rattle.onvm_core.specs.Receiving.{IsThrottleRecord}
use Rattle.onvm_core.specs.Blocks.{AllOfBlocks}
use Rattle.onvm_core.specs.Marks.{MarkEvents, Ages, AreMarked, has_bit, last_post, mark_events, mark_phase}
use Rattle.onvm_core.specs.Earned.{Clears, ClearsAtOnce, IsEarnedThrottle}
use Rattle.onvm_core.proofs.Earning.{Gives, told_by, not_throttled_empty}
use Rattle.onvm_core.proofs.Marked.{bit_of_set, cleared, cleared_at_once, marks_paid, paid_in_pass, posted_is, raised_now}

-- the frame is the port's, its record is a look's at the feeder's word, and the throttle is earned
abbrev pub TellsThrottle : Setting → Ages → Step → History → Record → (feeder post function : ℕ) → Type 0
TellsThrottle setting aged step before told feeder post function =
    (e : Entry) × (done : ℕ) × (entry_after setting step.role done ≡ Some e) × (told.frame ≡ e.frame)
    × (step.act ≡ Look (PostWord feeder) (value_of setting.layout before (PostWord feeder)) (Some told))
    × IsEarnedThrottle setting aged before e told feeder post function

throttle_parts : (k n p m : ℕ) (f g : FnId) → ◌≡◌ {A = Outcome} (Throttled k n f) (Throttled p m g)
    → (k ≡ p) × (n ≡ m) × (f ≡ g)
throttle_parts k n p m f g e = (cc, cc, cc)

look_earned : (setting : Setting) (aged : Ages) (step : Step) (before : History) (told : Record) (k seen : ℕ)
    (e : Entry)
    → IsLawful setting.layout (step ∷ before) → AreMarked setting k aged (log_of k before)
    → step.act ≡ Look (PostWord k) seen (Some told) → (held : IsThrottleRecord setting e k seen told)
    → (step.act ≡ Look (PostWord k) (value_of setting.layout before (PostWord k)) (Some told))
    × IsEarnedThrottle setting aged before e told k (seen / 2 ^ 32) held.function
look_earned setting aged step before told k seen e lawful marked acts held =
    let allowed : AllowsAct setting.layout before step.role (Look (PostWord k) seen (Some told)) =
    subst (AllowsAct setting.layout before step.role) acts lawful.0.allowed in
    let known : IsFeeder setting.layout k = allowed.known in
    let shows : seen ≡ value_of setting.layout before (PostWord k) = allowed.true_value in
    let events : MarkEvents = mark_events setting k (log_of k before) in
    let last : seen ≡ last_post events = shows ∙ posted_is setting k before known lawful.1 in
    let bit : has_bit (last_post events) held.function ≡ true =
    subst (λ (n : ℕ). has_bit n held.function ≡ true) last (bit_of_set seen held.function held.raised.bit) in (
      acts ∙ ap (λ (n : ℕ). Look (PostWord k) n (Some told)) shows,
      record {
        seen = seen;
        shown = sym shows;
        number = refl;
        held = held;
        names = refl;
        raised =
            raised_now aged held.function (mark_phase setting k (log_of k before))
            (marks_paid setting k aged (log_of k before) marked)
            (paid_in_pass setting k aged (log_of k before) marked) bit;
      },
    )

named_so : (setting : Setting) (aged : Ages) (step : Step) (before : History) (told : Record) (k n p m : ℕ)
    (f g : FnId)
    → ◌≡◌ {A = Outcome} (Throttled k n f) (Throttled p m g) → TellsThrottle setting aged step before told k n f.0
    → TellsThrottle setting aged step before told p m g.0
named_so setting aged step before told k n p m f g e h =
    let parts : (k ≡ p) × (n ≡ m) × (f ≡ g) = throttle_parts k n p m f g e in
    subst (λ (x : ℕ). TellsThrottle setting aged step before told x m g.0) parts.0
    (subst (λ (x : ℕ). TellsThrottle setting aged step before told k x g.0) parts.1
    (subst (λ (x : FnId). TellsThrottle setting aged step before told k n x.0) parts.2 h))

-- each throttle is earned
pub earned_throttle : (setting : Setting) (aged : Ages) (step : Step) (before : History) (told : Record)
    (feeder post : ℕ) (function : FnId)
    → IsLawful setting.layout (step ∷ before) → AllOfBlocks setting (step ∷ before)
    → AreMarked setting feeder aged (log_of feeder before) → records_of_act step.act ≡ told ∷ []
    → told.outcome ≡ Throttled feeder post function
    → TellsThrottle setting aged step before told feeder post function.0
earned_throttle setting aged step before told feeder post function lawful blocks marked e is =
    elim (told_by setting step before told blocks e) [
      | inl (b, outcome, parcel, acts, of, gives, kind) ↦ absurd (subst Gives (sym of ∙ is) gives)
      | inr (word, seen, acts, (entry, done, found, inl (k, at, held))) ↦
          let outcome_is : ◌≡◌ {A = Outcome} (Throttled k (seen / 2 ^ 32) (record { 0 = held.function }))
          (Throttled feeder post function)
          = sym (ap (λ (r : Record). r.outcome) held.told_is) ∙ is in
          let look : step.act ≡ Look (PostWord k) seen (Some told) =
          acts ∙ ap (λ (w : Word). Look w seen (Some told)) at in
          let earned : (step.act ≡ Look (PostWord k) (value_of setting.layout before (PostWord k)) (Some told))
          × IsEarnedThrottle setting aged before entry told k (seen / 2 ^ 32) held.function
          = look_earned setting aged step before told k seen entry lawful
          (subst (λ (p : ℕ). AreMarked setting p aged (log_of p before))
          (sym (throttle_parts k (seen / 2 ^ 32) feeder post (record { 0 = held.function }) function outcome_is).0)
          marked)
          look held in
          named_so setting aged step before told k (seen / 2 ^ 32) feeder post
          (record { 0 = held.function }) function outcome_is
          (entry, done, found, ap (λ (r : Record). r.frame) held.told_is, earned.0, earned.1)
      | inr (word, seen, acts, (entry, done, found, inr (k, at, lost, ends))) ↦
          absurd (not_throttled_empty told feeder post function is (ap (λ (r : Record). r.outcome) lost.told_is))
    ]

-- each mark is cleared by the pass that doesn't find low
pub marks_cleared : (setting : Setting) (aged : Ages) (past : History) (feeder f : ℕ)
    → AreMarked setting feeder aged (log_of feeder past)
    → Clears f (mark_events setting feeder (log_of feeder past))
marks_cleared setting aged past feeder f marked =
    cleared aged f (mark_events setting feeder (log_of feeder past))
    (marks_paid setting feeder aged (log_of feeder past) marked)

pub marks_cleared_at_once : (setting : Setting) (aged : Ages) (past : History) (feeder f : ℕ)
    → AreMarked setting feeder aged (log_of feeder past)
    → ClearsAtOnce setting feeder f (log_of feeder past)
marks_cleared_at_once setting aged past feeder f marked =
    cleared_at_once setting feeder aged f (log_of feeder past) marked

-- the word has the last post
pub word_posted : (setting : Setting) (past : History) (feeder : ℕ)
    → IsLawful setting.layout past → IsFeeder setting.layout feeder
    → value_of setting.layout past (PostWord feeder) ≡ last_post (mark_events setting feeder (log_of feeder past))
word_posted setting past feeder lawful known = posted_is setting feeder past known lawful
