-- A post with a function's bit stands only while the passes say so.
use Rattle.std.proofs.Common.{◌≡◌, ℕ, ◌+◌, ◌/◌, ◌%◌, ◌^◌, ◌<◌, ◌≤◌, Bool, true, false, inl, inr, List, [], ◌∷◌, refl, sym, ◌∙◌, ap, subst, arith}
use Rattle.std.specs.Prelude.{if◌then◌else◌, ◌==◌, ◌&&◌, ◌⊎◌, IsBitSet}
use Rattle.std.proofs.lemmas.Bool.{cases_Bool, and_parts, or_cases, eqb-true, eqb-false, eq-eqb, ne_eqb}
use Rattle.std.proofs.lemmas.Nat.{bit_set_by_shift}
use Rattle.std.proofs.lemmas.Nat.Bits.{shr_and_one, bit_at-zero}
use Rattle.onvm_base.specs.declared.limits.TheConstants.{LAST_POST}
use Rattle.onvm_base.specs.declared.ids.RingId.TheVariants.{Lane}
use Rattle.onvm_core.specs.declared.layout.Layout.{Layout}
use Rattle.onvm_core.specs.declared.layout.Word.{Word}
use Rattle.onvm_core.specs.declared.layout.Word.TheVariants.{Cell, Post as PostWord, Weight}
use Rattle.onvm_core.specs.declared.step.Act.{Act}
use Rattle.onvm_core.specs.declared.step.Act.TheVariants.{Look, Post}
use Rattle.onvm_core.specs.Layouts.{IsFeeder}
use Rattle.onvm_core.specs.History.{History, posted_on, post_or}
use Rattle.onvm_core.specs.Lawful.{AllowsAct, AllowsPost, IsLawful}
use Rattle.onvm_core.specs.Logs.{Setting, Log, log_of}
use Rattle.onvm_core.specs.Marks.{MarkLook, Pass, MarkEvents, Ages, MarkPhase, pass_count, posts_so_far, last_post, finds, is_throttled, has_bit, IsSettled, IsPaid, IsOwed, looks_of_pass, IsResting, events_in, mark_after_look, mark_after, mark_phase, mark_events, MayMark, AreMarked}
use Rattle.onvm_core.specs.Marks.MarkEvent.{Passed, Posted}
use Rattle.onvm_core.specs.Marks.MarkPhase.{AtRest, InPass}
use Rattle.onvm_core.specs.Earned.{IsRaised, IsRaisedBeforeDue, IsRaisedUpToNow, Clears, ClearsAtOnce, IsDue, IsPostWithout, IsLaneLook}
use Rattle.onvm_core.specs.Earned.IsRaised.{ByPost, ByAnotherPost, ByPass}
use Rattle.onvm_core.proofs.Lists.{if_met, if_unmet}

-- Bits

pub bit_of_set : (value f : ℕ) → IsBitSet (value % 2 ^ 32) f → has_bit value f ≡ true
bit_of_set value f set =
    let one : value % 2 ^ 32 / 2 ^ f % 2 ≡ 1 =
    sym (shr_and_one (value % 2 ^ 32) f) ∙ (bit_set_by_shift (value % 2 ^ 32) f).1 set in
    eq-eqb (value % 2 ^ 32 / 2 ^ f % 2) 1 one

pub no_bit : (f : ℕ) → has_bit 0 f ≡ false
no_bit f = ap (λ (n : ℕ). n == 1) (bit_at-zero f)

not_both : (b : Bool) → b ≡ false → b ≡ true → ⊥
not_both b one two = let off : false ≡ true = sym one ∙ two in cc

never : (b y : Bool) → y ≡ false → (if b then false else y) ≡ false
never b y e = elim (cases_Bool b) [ inl met ↦ if_met b false y met | inr unmet ↦ if_unmet b false y unmet ∙ e ]

not_and : (a b : Bool) → a ≡ false → (a && b) ≡ false
not_and a b e = rw e refl

-- Marks: where a pass begins no post is owed, and each post was owed

abbrev pub ArePaid : Ages → MarkEvents → Type 0
ArePaid aged [] = Unit {0}
ArePaid aged (Passed pass ∷ before) = IsPaid aged before × ArePaid aged before
ArePaid aged (Posted value ∷ before) = IsOwed aged before value × ArePaid aged before

-- the post with the last number has no bit
late_bit : (aged : Ages) (f : ℕ) (events : MarkEvents) → ArePaid aged events → LAST_POST ≤ posts_so_far events
    → has_bit (last_post events) f ≡ false
late_bit aged f [] are late = no_bit f
late_bit aged f (Passed pass ∷ before) are late = late_bit aged f before are.1 late
late_bit aged f (Posted value ∷ before) are late =
    let last : posts_so_far before + 1 ≡ LAST_POST = omega (arith, are.0.more, late) in
    are.0.bits f
    ∙ if_met (posts_so_far before + 1 == LAST_POST) false (is_throttled aged f before)
    (eq-eqb (posts_so_far before + 1) LAST_POST last)

not_late : (aged : Ages) (f : ℕ) (events : MarkEvents) → ArePaid aged events → has_bit (last_post events) f ≡ true
    → ¬ (LAST_POST ≤ posts_so_far events)
not_late aged f events are bit late = not_both (has_bit (last_post events) f) (late_bit aged f events are late) bit

post_settles : (aged : Ages) (value : ℕ) (before : MarkEvents) → IsOwed aged before value
    → posts_so_far before + 1 < LAST_POST
    → IsSettled aged (Posted value ∷ before)
post_settles aged value before owed more f =
    owed.bits f
    ∙ if_unmet (posts_so_far before + 1 == LAST_POST) false (is_throttled aged f before)
    (ne_eqb (posts_so_far before + 1) LAST_POST (λ e. omega (arith, e, more)))

post_pays : (aged : Ages) (value : ℕ) (before : MarkEvents) → IsOwed aged before value
    → IsPaid aged (Posted value ∷ before)
post_pays aged value before owed =
    elim (cases_Bool (posts_so_far before + 1 == LAST_POST)) [
      | inl met ↦ inr (omega (arith, eqb-true (posts_so_far before + 1) LAST_POST met))
      | inr unmet ↦
          inl (post_settles aged value before owed
          (omega (arith, owed.more, eqb-false (posts_so_far before + 1) LAST_POST unmet)))
    ]

-- Throttled after a pass

found_low : (aged : Ages) (f : ℕ) (pass : Pass) (before : MarkEvents)
    → is_throttled aged f (Passed pass ∷ before) ≡ true
    → finds false f pass ≡ true
found_low aged f pass before throttled = (and_parts (finds false f pass) _ throttled).0

found_high : (aged : Ages) (f : ℕ) (pass : Pass) (before : MarkEvents)
    → is_throttled aged f (Passed pass ∷ before) ≡ true → is_throttled aged f before ≡ false
    → (finds true f pass ≡ true) × (aged (pass_count before) f ≡ true)
found_high aged f pass before throttled fresh =
    elim (or_cases _ (is_throttled aged f before) (and_parts (finds false f pass) _ throttled).1) [
      | inl high ↦ and_parts (finds true f pass) (aged (pass_count before) f) high
      | inr again ↦ absurd (not_both (is_throttled aged f before) fresh again)
    ]

not_throttled : (aged : Ages) (f : ℕ) (pass : Pass) (before : MarkEvents) → finds false f pass ≡ false
    → is_throttled aged f (Passed pass ∷ before) ≡ false
not_throttled aged f pass before none = not_and (finds false f pass) _ none

-- a pass that leaves no post owed found low for each function with a bit
paid_low : (aged : Ages) (f : ℕ) (pass : Pass) (before : MarkEvents)
    → ArePaid aged (Passed pass ∷ before) → IsPaid aged (Passed pass ∷ before) → has_bit (last_post before) f ≡ true
    → finds false f pass ≡ true
paid_low aged f pass before are paid bit =
    elim paid [
      | inl settled ↦ found_low aged f pass before (sym (settled f) ∙ bit)
      | inr late ↦ absurd (not_late aged f (Passed pass ∷ before) are bit late)
    ]

-- where a posted bit is from the pass directly before: it found high and low, or the mark was raised already
raised_post : (aged : Ages) (f value : ℕ) (pass : Pass) (before : MarkEvents)
    → IsOwed aged (Passed pass ∷ before) value → IsPaid aged before → has_bit value f ≡ true
    → (has_bit (last_post before) f ≡ true → IsRaised aged f before)
    → IsRaised aged f (Posted value ∷ Passed pass ∷ before)
raised_post aged f value pass before owed paid bit earlier =
    let chose : (if posts_so_far before + 1 == LAST_POST then false else is_throttled aged f (Passed pass ∷ before))
    ≡ true
    = sym (owed.bits f) ∙ bit in
    let more : posts_so_far before < LAST_POST = owed.more in
    elim (cases_Bool (posts_so_far before + 1 == LAST_POST)) [
      | inl met ↦
          absurd
          (not_both (if posts_so_far before + 1 == LAST_POST then false else is_throttled aged f (Passed pass ∷ before))
          (if_met (posts_so_far before + 1 == LAST_POST) false (is_throttled aged f (Passed pass ∷ before)) met)
          chose)
      | inr unmet ↦
          let throttled : is_throttled aged f (Passed pass ∷ before) ≡ true =
          sym
          (if_unmet (posts_so_far before + 1 == LAST_POST) false (is_throttled aged f (Passed pass ∷ before)) unmet)
          ∙ chose in
          let low : finds false f pass ≡ true = found_low aged f pass before throttled in
          let settled : IsSettled aged before =
          elim paid [ inl h ↦ h | inr late ↦ absurd (omega (arith, late, more)) ] in
          elim (cases_Bool (is_throttled aged f before)) [
            | inl already ↦
                ByAnotherPost value (Passed pass ∷ before) bit (ByPass pass before low (earlier (settled f ∙ already)))
            | inr fresh ↦
                let high : (finds true f pass ≡ true) × (aged (pass_count before) f ≡ true) =
                found_high aged f pass before throttled fresh in
                ByPost value pass before bit (settled f ∙ fresh) high.0 low high.1
          ]
    ]

-- where no post is owed and the last one has the bit, the mark is raised and not cleared
raised : (aged : Ages) (f : ℕ) (events : MarkEvents)
    → ArePaid aged events → IsPaid aged events → has_bit (last_post events) f ≡ true
    → IsRaised aged f events
raised aged f [] are paid bit = absurd (not_both (has_bit 0 f) (no_bit f) bit)
raised aged f (Passed pass ∷ before) are paid bit =
    ByPass pass before (paid_low aged f pass before are paid bit) (raised aged f before are.1 are.0 bit)
raised aged f (Posted value ∷ []) are paid bit = absurd (are.0.unsettled no_bit)
raised aged f (Posted value ∷ Posted other ∷ before) are paid bit =
    absurd (are.0.unsettled (post_settles aged other before are.1.0 are.0.more))
raised aged f (Posted value ∷ Passed pass ∷ before) are paid bit =
    raised_post aged f value pass before are.0 are.1.0 bit (λ was. raised aged f before are.1.1 are.1.0 was)

not_paid : (aged : Ages) (f : ℕ) (pass : Pass) (before : MarkEvents)
    → ArePaid aged (Passed pass ∷ before) → has_bit (last_post before) f ≡ true → finds false f pass ≡ false
    → ¬ IsPaid aged (Passed pass ∷ before)
not_paid aged f pass before are bit none paid =
    not_both (finds false f pass) none (paid_low aged f pass before are paid bit)

-- the same at rest, but for a pass whose post is due
raised_resting : (aged : Ages) (f : ℕ) (events : MarkEvents) → ArePaid aged events → has_bit (last_post events) f ≡ true
    → IsRaised aged f events ⊎ IsRaisedBeforeDue aged f events
raised_resting aged f [] are bit = absurd (not_both (has_bit 0 f) (no_bit f) bit)
raised_resting aged f (Posted value ∷ before) are bit =
    inl (raised aged f (Posted value ∷ before) are (post_pays aged value before are.0) bit)
raised_resting aged f (Passed pass ∷ before) are bit =
    let was : IsRaised aged f before = raised aged f before are.1 are.0 bit in
    elim (cases_Bool (finds false f pass)) [
      | inl low ↦ inl (ByPass pass before low was)
      | inr none ↦ inr (record {
        pass = pass;
        before = before;
        newest = refl;
        due = not_paid aged f pass before are bit none;
        raised = was;
      })
    ]

-- no post is owed in a pass
abbrev pub IsPaidInPass : Ages → MarkPhase → Type 0
IsPaidInPass aged (AtRest events) = Unit {0}
IsPaidInPass aged (InPass next later found events) = IsPaid aged events

-- the same at each moment, but for the pass that the feeder is in
pub raised_now : (aged : Ages) (f : ℕ) (phase : MarkPhase) → ArePaid aged (events_in phase) → IsPaidInPass aged phase
    → has_bit (last_post (events_in phase)) f ≡ true
    → IsRaisedUpToNow aged f phase
raised_now aged f (AtRest events) are paid bit = raised_resting aged f events are bit
raised_now aged f (InPass next later found events) are paid bit = raised aged f events are paid bit

-- A post that is due

due_paid : (aged : Ages) (f : ℕ) (events : MarkEvents) → ArePaid aged events → IsDue f events → ¬ IsPaid aged events
due_paid aged f [] are due paid = due
due_paid aged f (Posted value ∷ before) are due paid = due
due_paid aged f (Passed pass ∷ before) are due paid = not_paid aged f pass before are due.0 due.1 paid

due_post : (aged : Ages) (f value : ℕ) (events : MarkEvents) → IsOwed aged events value → IsDue f events
    → has_bit value f ≡ false
due_post aged f value [] owed due = absurd due
due_post aged f value (Posted other ∷ before) owed due = absurd due
due_post aged f value (Passed pass ∷ before) owed due =
    owed.bits f
    ∙ never (posts_so_far before + 1 == LAST_POST) (is_throttled aged f (Passed pass ∷ before))
    (not_throttled aged f pass before due.1)

-- a mark is cleared by the pass that doesn't find low
pub cleared : (aged : Ages) (f : ℕ) (events : MarkEvents) → ArePaid aged events → Clears f events
cleared aged f [] are = tt
cleared aged f (Passed pass ∷ before) are =
    ((λ due. absurd (due_paid aged f before are.1 due are.0)), cleared aged f before are.1)
cleared aged f (Posted value ∷ before) are =
    ((λ due. due_post aged f value before are.0 due), cleared aged f before are.1)

-- Marks read off a log

look_paid : (aged : Ages) (looks : List MarkLook) (seen : ℕ) (found : Pass) (events : MarkEvents)
    → ArePaid aged events → IsPaid aged events
    → ArePaid aged (events_in (mark_after_look looks seen found events))
look_paid aged [] seen found events are paid = are
look_paid aged (look ∷ []) seen found events are paid = (paid, are)
look_paid aged (look ∷ next ∷ later) seen found events are paid = are

paid_step : (setting : Setting) (feeder : ℕ) (aged : Ages) (before : Log) (phase : MarkPhase) (act : Act)
    → ArePaid aged (events_in phase) → MayMark setting feeder aged before phase act
    → ArePaid aged (events_in (mark_after setting feeder before phase act))
paid_step setting feeder aged before (AtRest events) (Look (Cell (Lane f p) at) seen told) are may =
    look_paid aged (looks_of_pass setting feeder before) seen [] events are may.1
paid_step setting feeder aged before (AtRest events) (Post word value) are may = (may, are)
paid_step setting feeder aged before (AtRest events) act are may = are
paid_step setting feeder aged before (InPass next later found events) (Look (Cell (Lane f p) at) seen told) are may =
    look_paid aged (next ∷ later) seen found events are may.1
paid_step setting feeder aged before (InPass next later found events) act are may = absurd may

look_in_pass : (aged : Ages) (looks : List MarkLook) (seen : ℕ) (found : Pass) (events : MarkEvents)
    → IsPaid aged events
    → IsPaidInPass aged (mark_after_look looks seen found events)
look_in_pass aged [] seen found events paid = tt
look_in_pass aged (look ∷ []) seen found events paid = tt
look_in_pass aged (look ∷ next ∷ later) seen found events paid = paid

in_pass_step : (setting : Setting) (feeder : ℕ) (aged : Ages) (before : Log) (phase : MarkPhase) (act : Act)
    → MayMark setting feeder aged before phase act
    → IsPaidInPass aged (mark_after setting feeder before phase act)
in_pass_step setting feeder aged before (AtRest events) (Look (Cell (Lane f p) at) seen told) may =
    look_in_pass aged (looks_of_pass setting feeder before) seen [] events may.1
in_pass_step setting feeder aged before (AtRest events) (Post word value) may = tt
in_pass_step setting feeder aged before (AtRest events) act may = tt
in_pass_step setting feeder aged before (InPass next later found events) (Look (Cell (Lane f p) at) seen told) may =
    look_in_pass aged (next ∷ later) seen found events may.1
in_pass_step setting feeder aged before (InPass next later found events) act may = absurd may

pub paid_in_pass : (setting : Setting) (feeder : ℕ) (aged : Ages) (log : Log) → AreMarked setting feeder aged log
    → IsPaidInPass aged (mark_phase setting feeder log)
paid_in_pass setting feeder aged [] marked = tt
paid_in_pass setting feeder aged (act ∷ before) marked =
    in_pass_step setting feeder aged before (mark_phase setting feeder before) act marked.0

pub marks_paid : (setting : Setting) (feeder : ℕ) (aged : Ages) (log : Log) → AreMarked setting feeder aged log
    → ArePaid aged (mark_events setting feeder log)
marks_paid setting feeder aged [] marked = tt
marks_paid setting feeder aged (act ∷ before) marked =
    paid_step setting feeder aged before (mark_phase setting feeder before) act
    (marks_paid setting feeder aged before marked.1) marked.0

-- in a pass only its looks follow, and a post that is due is the next act
once_step : (setting : Setting) (feeder : ℕ) (aged : Ages) (f : ℕ) (before : Log) (phase : MarkPhase) (act : Act)
    → ArePaid aged (events_in phase) → MayMark setting feeder aged before phase act
    → (¬ IsResting phase → IsLaneLook act) × (IsDue f (events_in phase) → IsPostWithout f act)
once_step setting feeder aged f before (AtRest events) (Look (Cell (Lane g p) at) seen told) are may =
    ((λ moving. absurd (moving tt)), λ due. absurd (due_paid aged f events are due may.1))
once_step setting feeder aged f before (AtRest events) (Post word value) are may =
    ((λ moving. absurd (moving tt)), λ due. due_post aged f value events may due)
once_step setting feeder aged f before (AtRest events) act are may =
    ((λ moving. absurd (moving tt)), λ due. absurd (due_paid aged f events are due may))
once_step setting feeder aged f before (InPass next later found events) (Look (Cell (Lane g p) at) seen told) are may =
    ((λ moving. tt), λ due. absurd (due_paid aged f events are due may.1))
once_step setting feeder aged f before (InPass next later found events) act are may = absurd may

pub cleared_at_once : (setting : Setting) (feeder : ℕ) (aged : Ages) (f : ℕ) (log : Log)
    → AreMarked setting feeder aged log
    → ClearsAtOnce setting feeder f log
cleared_at_once setting feeder aged f [] marked = tt
cleared_at_once setting feeder aged f (act ∷ before) marked =
    let step : (¬ IsResting (mark_phase setting feeder before) → IsLaneLook act)
    × (IsDue f (mark_events setting feeder before) → IsPostWithout f act)
    = once_step setting feeder aged f before (mark_phase setting feeder before) act
    (marks_paid setting feeder aged before marked.1) marked.0 in
    (step.0, step.1, cleared_at_once setting feeder aged f before marked.1)

-- The word's value is the last post in its one writer's log

look_posts : (looks : List MarkLook) (seen : ℕ) (found : Pass) (events : MarkEvents)
    → last_post events ≡ last_post (events_in (mark_after_look looks seen found events))
look_posts [] seen found events = refl
look_posts (look ∷ []) seen found events = refl
look_posts (look ∷ next ∷ later) seen found events = refl

post_shown : (layout : Layout) (feeder : ℕ) (before : History) (word : Word) (value n : ℕ)
    → IsFeeder layout feeder → AllowsPost layout before feeder word value
    → post_or (PostWord feeder) (Post word value) n ≡ value
post_shown layout feeder before (PostWord x) value n known allowed =
    if_met (x == feeder) value n (eq-eqb x feeder (sym allowed.1))
post_shown layout feeder before (Weight g) value n known allowed = absurd (omega (arith, known, allowed.1))
post_shown layout feeder before word value n known allowed = absurd allowed

own_post : (setting : Setting) (feeder : ℕ) (before : History) (log : Log) (phase : MarkPhase) (act : Act) (n : ℕ)
    → IsFeeder setting.layout feeder → AllowsAct setting.layout before feeder act → n ≡ last_post (events_in phase)
    → post_or (PostWord feeder) act n ≡ last_post (events_in (mark_after setting feeder log phase act))
own_post setting feeder before log (AtRest events) (Look (Cell (Lane f p) at) seen told) n known allowed e =
    e ∙ look_posts (looks_of_pass setting feeder log) seen [] events
own_post setting feeder before log (AtRest events) (Post word value) n known allowed e =
    post_shown setting.layout feeder before word value n known allowed
own_post setting feeder before log (InPass next later found events) (Look (Cell (Lane f p) at) seen told) n known
    allowed e =
    e ∙ look_posts (next ∷ later) seen found events
own_post setting feeder before log (InPass next later found events) (Post word value) n known allowed e =
    post_shown setting.layout feeder before word value n known allowed
own_post setting feeder before log phase act n known allowed e = e

other_post : (layout : Layout) (role feeder : ℕ) (before : History) (act : Act) (n : ℕ)
    → AllowsAct layout before role act → (role == feeder) ≡ false
    → post_or (PostWord feeder) act n ≡ n
other_post layout role feeder before (Post (PostWord x) value) n allowed foreign =
    if_unmet (x == feeder) value n (subst (λ (r : ℕ). (r == feeder) ≡ false) allowed.1 foreign)
other_post layout role feeder before act n allowed foreign = refl

pub posted_is : (setting : Setting) (feeder : ℕ) (past : History)
    → IsFeeder setting.layout feeder → IsLawful setting.layout past
    → posted_on (PostWord feeder) past ≡ last_post (mark_events setting feeder (log_of feeder past))
posted_is setting feeder [] known lawful = refl
posted_is setting feeder (step ∷ before) known lawful =
    let earlier : posted_on (PostWord feeder) before ≡ last_post (mark_events setting feeder (log_of feeder before)) =
    posted_is setting feeder before known lawful.1 in
    elim (cases_Bool (step.role == feeder)) [
      | inl met ↦
          let allowed : AllowsAct setting.layout before feeder step.act =
          subst (λ (r : ℕ). AllowsAct setting.layout before r step.act)
          (eqb-true step.role feeder met) lawful.0.allowed in
          rw met (own_post setting feeder before (log_of feeder before) (mark_phase setting feeder
          (log_of feeder before)) step.act (posted_on (PostWord feeder) before) known allowed earlier)
      | inr unmet ↦
          rw unmet
          (other_post setting.layout step.role feeder before step.act
          (posted_on (PostWord feeder) before) lawful.0.allowed unmet
          ∙ earlier)
    ]
