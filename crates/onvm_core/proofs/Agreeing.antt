-- Answers on the age matter below the number of passes alone: marks under answers that agree there.
use Rattle.std.proofs.Common.{◌≡◌, ℕ, ◌+◌, ◌<◌, ◌≤◌, Bool, true, false, if◌then◌else◌, inl, inr, List, [], ◌∷◌, ◌++◌, refl, sym, ◌∙◌, ap, arith}
use Rattle.std.specs.Prelude.{◌==◌, ◌&&◌, ◌||◌}
use Rattle.onvm_base.specs.declared.limits.TheConstants.{LAST_POST}
use Rattle.onvm_base.specs.declared.ids.RingId.TheVariants.{Lane}
use Rattle.onvm_core.specs.declared.layout.Word.TheVariants.{Cell}
use Rattle.onvm_core.specs.declared.step.Act.{Act}
use Rattle.onvm_core.specs.declared.step.Act.TheVariants.{Look, Post}
use Rattle.onvm_core.specs.Logs.{Log, Setting}
use Rattle.onvm_core.specs.Marks.{Ages, AreMarked, IsOwed, IsPaid, IsSettled, MarkEvents, MarkLook, MarkPhase, MayMark, Pass, events_in, finds, is_throttled, looks_of_pass, mark_after, mark_after_look, mark_events, mark_phase, pass_count, posts_so_far}
use Rattle.onvm_core.specs.Marks.MarkEvent.{Passed, Posted}
use Rattle.onvm_core.specs.Marks.MarkPhase.{AtRest, InPass}

-- Passes never get fewer, and an act adds at most one

look_passes : (looks : List MarkLook) (seen : ℕ) (found : Pass) (events : MarkEvents)
    → (pass_count events ≤ pass_count (events_in (mark_after_look looks seen found events)))
    × (pass_count (events_in (mark_after_look looks seen found events)) ≤ pass_count events + 1)
look_passes [] seen found events = (omega arith, omega arith)
look_passes (look ∷ []) seen found events = (omega arith, omega arith)
look_passes (look ∷ next ∷ later) seen found events = (omega arith, omega arith)

phase_passes : (setting : Setting) (feeder : ℕ) (before : Log) (phase : MarkPhase) (act : Act)
    → (pass_count (events_in phase) ≤ pass_count (events_in (mark_after setting feeder before phase act)))
    × (pass_count (events_in (mark_after setting feeder before phase act)) ≤ pass_count (events_in phase) + 1)
phase_passes setting feeder before (AtRest events) (Look (Cell (Lane f p) at) seen told) =
    look_passes (looks_of_pass setting feeder before) seen [] events
phase_passes setting feeder before (InPass next later found events) (Look (Cell (Lane f p) at) seen told) =
    look_passes (next ∷ later) seen found events
phase_passes setting feeder before (AtRest events) (Post word value) = (omega arith, omega arith)
phase_passes setting feeder before (InPass next later found events) (Post word value) = (omega arith, omega arith)
phase_passes setting feeder before phase act = (omega arith, omega arith)

pub passes_by : (setting : Setting) (feeder : ℕ) (act : Act) (before : Log)
    → (pass_count (mark_events setting feeder before) ≤ pass_count (mark_events setting feeder (act ∷ before)))
    × (pass_count (mark_events setting feeder (act ∷ before)) ≤ pass_count (mark_events setting feeder before) + 1)
passes_by setting feeder act before = phase_passes setting feeder before (mark_phase setting feeder before) act

pub passes_grow : (setting : Setting) (feeder : ℕ) (added before : Log)
    → pass_count (mark_events setting feeder before) ≤ pass_count (mark_events setting feeder (added ++ before))
passes_grow setting feeder [] before = omega arith
passes_grow setting feeder (act ∷ added) before =
    omega (arith, passes_grow setting feeder added before, (passes_by setting feeder act (added ++ before)).0)

-- the answers agree on so many passes
abbrev pub Agree : Ages → Ages → ℕ → Type 0
Agree left right n = (pass f : ℕ) → pass < n → left pass f ≡ right pass f

pub agree_less : (left right : Ages) (n m : ℕ) → n ≤ m → Agree left right m → Agree left right n
agree_less left right n m le same k f less = same k f (omega (arith, less, le))

turned : (left right : Ages) (n : ℕ) → Agree left right n → Agree right left n
turned left right n same k f less = sym (same k f less)

pub throttled_same : (left right : Ages) (f : ℕ) (events : MarkEvents) → Agree left right (pass_count events)
    → is_throttled left f events ≡ is_throttled right f events
throttled_same left right f [] same = refl
throttled_same left right f (Posted value ∷ before) same = throttled_same left right f before same
throttled_same left right f (Passed pass ∷ before) same =
    ap (λ (b : Bool). finds false f pass && ((finds true f pass && b) || is_throttled left f before))
    (same (pass_count before) f (omega arith))
    ∙ ap (λ (b : Bool). finds false f pass && ((finds true f pass && right (pass_count before) f) || b))
    (throttled_same left right f before (λ k g less. same k g (omega (arith, less))))

settled_same : (left right : Ages) (events : MarkEvents) → Agree left right (pass_count events)
    → IsSettled left events
    → IsSettled right events
settled_same left right events same settled f = settled f ∙ throttled_same left right f events same

pub paid_same : (left right : Ages) (events : MarkEvents) → Agree left right (pass_count events) → IsPaid left events
    → IsPaid right events
paid_same left right events same (inl settled) = inl (settled_same left right events same settled)
paid_same left right events same (inr late) = inr late

pub owed_same : (left right : Ages) (events : MarkEvents) (value : ℕ) → Agree left right (pass_count events)
    → IsOwed left events value
    → IsOwed right events value
owed_same left right events value same owed =
    record {
      more = owed.more;
      unsettled = λ settled.
          owed.unsettled (settled_same right left events (turned left right (pass_count events) same) settled);
      number = owed.number;
      bits = λ f.
          owed.bits f
          ∙ ap (λ (b : Bool). if posts_so_far events + 1 == LAST_POST then false else b)
          (throttled_same left right f events same);
    }

may_same : (setting : Setting) (feeder : ℕ) (left right : Ages) (before : Log) (phase : MarkPhase) (act : Act)
    → Agree left right (pass_count (events_in phase)) → MayMark setting feeder left before phase act
    → MayMark setting feeder right before phase act
may_same setting feeder left right before (AtRest events) (Look (Cell (Lane f p) at) seen told) same may =
    (may.0, paid_same left right events same may.1)
may_same setting feeder left right before (AtRest events) (Post word value) same may =
    owed_same left right events value same may
may_same setting feeder left right before (AtRest events) act same may = paid_same left right events same may
may_same setting feeder left right before (InPass next later found events) (Look (Cell (Lane f p) at) seen told) same
    may =
    (may.0, paid_same left right events same may.1)
may_same setting feeder left right before (InPass next later found events) act same may = absurd may

pub marked_same : (setting : Setting) (feeder : ℕ) (left right : Ages) (log : Log)
    → Agree left right (pass_count (mark_events setting feeder log)) → AreMarked setting feeder left log
    → AreMarked setting feeder right log
marked_same setting feeder left right [] same marked = tt
marked_same setting feeder left right (act ∷ before) same marked =
    let earlier : Agree left right (pass_count (mark_events setting feeder before)) =
    agree_less left right (pass_count (mark_events setting feeder before))
    (pass_count (mark_events setting feeder (act ∷ before))) (passes_by setting feeder act before).0 same in (
      may_same setting feeder left right before (mark_phase setting feeder before) act earlier marked.0,
      marked_same setting feeder left right before earlier marked.1,
    )
