-- A session that has ended is accounted for: what its roles' logs and the closed board say makes up the headline.
use Rattle.std.proofs.Common.{◌≡◌, ℕ, zero, suc, ◌+◌, ◌*◌, ◌<◌, ◌≤◌, Bool, true, false, inl, inr, List, [], ◌∷◌, ◌++◌, length, refl, sym, ◌∙◌, ap, subst, arith, Some}
use Rattle.std.specs.Prelude.{◌==◌, ◌/◌, ◌^◌, not}
use Rattle.std.proofs.lemmas.Bool.{cases_Bool, cases_order, ne_eqb, both_ways}
use Rattle.onvm_base.specs.declared.frame.SentFrame.{SentFrame}
use Rattle.onvm_base.specs.declared.ids.FnId.{FnId}
use Rattle.onvm_base.specs.declared.ids.RingId.{RingId}
use Rattle.onvm_base.specs.declared.ids.RingId.TheVariants.{Mail}
use Rattle.onvm_base.specs.declared.outcome.Record.{Record}
use Rattle.onvm_core.specs.declared.layout.Layout.{Layout}
use Rattle.onvm_core.specs.declared.place.Place.{Place}
use Rattle.onvm_core.specs.declared.step.Act.{Act}
use Rattle.onvm_core.specs.declared.step.Step.{Step}
use Rattle.onvm_base.specs.declared.limits.TheConstants.{MAIL_RING}
use Rattle.onvm_core.specs.declared.layout.Word.{Word}
use Rattle.onvm_core.specs.declared.layout.Word.TheVariants.{Post as PostWord}
use Rattle.onvm_core.specs.declared.step.Act.TheVariants.{Look}
use Rattle.onvm_base.specs.declared.outcome.Outcome.{Outcome}
use Rattle.onvm_base.specs.declared.outcome.Outcome.TheVariants.{Throttled, PoolEmpty}
use Rattle.onvm_core.proofs.Balance.{blocks_before}
use Rattle.onvm_core.proofs.Complete.{all_back, all_ended, one_each}
use Rattle.onvm_core.proofs.Contents.{content_bounded}
use Rattle.onvm_core.proofs.Dropping.{is_dropped}
use Rattle.onvm_core.proofs.Earning.{Gives, told_by, earned_empty, earned_full, is_sent}
use Rattle.onvm_core.proofs.Marked.{cleared, cleared_at_once, marks_paid}
use Rattle.onvm_core.proofs.Once.{stands_once}
use Rattle.onvm_core.proofs.Short.{few_frames, traced_by_few}
use Rattle.onvm_core.proofs.Sums.{sum_extend, sum_same}
use Rattle.onvm_core.proofs.Throttling.{earned_throttle}
use Rattle.onvm_core.proofs.Told.{foreign_log, gathered_is, no_log_behind, own_log, records_gathered, sent_gathered}
use Rattle.onvm_core.specs.Blocks.{IsOfBlocks, AllOfBlocks}
use Rattle.onvm_core.specs.Frames.{AllInPool}
use Rattle.onvm_core.specs.History.{History, content_of, place_of}
use Rattle.onvm_core.specs.Journals.{Handling, GoesThrough, journal}
use Rattle.onvm_core.specs.Lawful.{AllowsAct, IsLawful}
use Rattle.onvm_core.specs.Layouts.{IsLayout, IsFeeder, core_role, first_role, tick_role, ring_size}
use Rattle.onvm_core.specs.Logs.{Setting, Log, IsNumbered, log_of}
use Rattle.onvm_core.specs.Marks.{Ages, AreMarked, AllMarked, mark_events}
use Rattle.onvm_core.specs.Places.{StandsOnce, numbers_below, how_many, one_if}
use Rattle.onvm_core.specs.Records.{gathered, gathered_of_log, records_of_act, records_in, sent_frames_in, sent_frames_of_act}
use Rattle.onvm_core.specs.Settings.{HasFewFrames, IsSetting, frame_count}
use Rattle.onvm_core.specs.Words.{is_pool}
use Rattle.onvm_promises.proofs.Aging.{aged_at_once}
use Rattle.onvm_promises.specs.Kept.{kept_at, records_by, sent_by}
use Rattle.onvm_promises.specs.Passes.{IsDrained, IsTickPass}
use Rattle.onvm_promises.specs.Stretches.{log_until, stretch}
use Rattle.onvm_session.proofs.Closing.{all_taken}
use Rattle.onvm_session.proofs.Leading.{led, led_blocks, led_sends, led_tells}
use Rattle.onvm_session.proofs.Peeling.{NoneSplit, turns_none, phases_none, turn_off}
use Rattle.onvm_session.proofs.Reading.{others_are, serial_one, turns_read}
use Rattle.onvm_session.specs.Accounts.{RunView, Always, AtEachStep, AreMoments, IsDrop, IsSend, IsOverflow, IsThrottle, IsTrue, AreShares, IsAccounted, aged_of}
use Rattle.onvm_session.specs.Endings.{IsClosed, AreViewMoments, HasEnded, HasLists}
use Rattle.onvm_session.specs.Lists.{all_told}
use Rattle.onvm_session.specs.Moments.{moment_in}
use Rattle.onvm_session.specs.Turns.{Turn, turns, turns_of, joined_count, turn_steps, role_steps}
use Rattle.onvm_session.specs.Views.{FinalView, IsHistoryOf, IsLead, turns_in, turn_of}

-- What holds at each step

pub always_once : (layout : Layout) (past : History) → IsLawful layout past
    → Always (λ now. (buf : ℕ) → buf < layout.ports * layout.buffers → StandsOnce layout now buf) past
always_once layout [] lawful = λ buf known. stands_once layout [] lawful buf known
always_once layout (step ∷ before) lawful =
    ((λ buf known. stands_once layout (step ∷ before) lawful buf known), always_once layout before lawful.1)

marked_before : (setting : Setting) (aged : ℕ → Ages) (step : Step) (before : History)
    → AllMarked setting aged (step ∷ before)
    → AllMarked setting aged before
marked_before setting aged step before marked feeder known =
    elim (cases_Bool (step.role == feeder)) [
      | inl met ↦
          let own : AreMarked setting feeder (aged feeder) (step.act ∷ log_of feeder before) =
          subst (AreMarked setting feeder (aged feeder)) (own_log feeder step before met) (marked feeder known) in
          own.1
      | inr unmet ↦
          subst (AreMarked setting feeder (aged feeder)) (foreign_log feeder step before unmet) (marked feeder known)
    ]

each_drop : (setting : Setting) (past : History) → IsLawful setting.layout past → AllOfBlocks setting past
    → AtEachStep (IsDrop setting) past
each_drop setting [] lawful blocks = tt
each_drop setting (step ∷ before) lawful blocks = (
  (λ b f why parcel acts. is_dropped setting step before b f why parcel lawful.1 blocks acts),
  each_drop setting before lawful.1 (blocks_before setting step before blocks),
)

each_send : (setting : Setting) (past : History) → IsLawful setting.layout past → AllOfBlocks setting past
    → AtEachStep (IsSend setting) past
each_send setting [] lawful blocks = tt
each_send setting (step ∷ before) lawful blocks = (
  (λ b q parcel acts. is_sent setting step before b q parcel blocks acts),
  each_send setting before lawful.1 (blocks_before setting step before blocks),
)

each_overflow : (setting : Setting) (past : History) → IsLawful setting.layout past → AllOfBlocks setting past
    → AtEachStep (IsOverflow setting) past
each_overflow setting [] lawful blocks = tt
each_overflow setting (step ∷ before) lawful blocks = (
  (λ told e. (
    (λ ring is. earned_full setting step before told ring blocks e is),
    λ is. (earned_empty setting step before told blocks e is).0,
  )),
  each_overflow setting before lawful.1 (blocks_before setting step before blocks),
)

-- the feeder that a throttle names is one
throttle_feeder : (setting : Setting) (step : Step) (before : History) (told : Record) (feeder post : ℕ)
    (function : FnId)
    → IsLawful setting.layout (step ∷ before) → AllOfBlocks setting (step ∷ before)
    → records_of_act step.act ≡ told ∷ [] → told.outcome ≡ Throttled feeder post function
    → IsFeeder setting.layout feeder
throttle_feeder setting step before told feeder post function lawful blocks e is =
    elim (told_by setting step before told blocks e) [
      | inl (b, outcome, parcel, acts, of, gives, kind) ↦ absurd (subst Gives (sym of ∙ is) gives)
      | inr (word, seen, acts, (entry, done, found, inl (k, at, held))) ↦
          let outcome_is : ◌≡◌ {A = Outcome} (Throttled k (seen / 2 ^ 32) (record { 0 = held.function }))
          (Throttled feeder post function)
          = sym (ap (λ (r : Record). r.outcome) held.told_is) ∙ is in
          let same : k ≡ feeder = cc in
          let look : step.act ≡ Look (PostWord feeder) seen (Some told) =
          acts ∙ ap (λ (w : Word). Look w seen (Some told)) (at ∙ ap PostWord same) in
          (subst (AllowsAct setting.layout before step.role) look lawful.0.allowed).known
      | inr (word, seen, acts, (entry, done, found, inr (k, at, lost, ends))) ↦
          let outcome_is : ◌≡◌ {A = Outcome} PoolEmpty (Throttled feeder post function) =
          sym (ap (λ (r : Record). r.outcome) lost.told_is) ∙ is in
          absurd (cc)
    ]

each_throttle : (setting : Setting) (aged : ℕ → Ages) (past : History)
    → IsLawful setting.layout past → AllOfBlocks setting past → AllMarked setting aged past
    → AtEachStep (IsThrottle setting aged) past
each_throttle setting aged [] lawful blocks marked = tt
each_throttle setting aged (step ∷ before) lawful blocks marked =
    let earlier : AllMarked setting aged before = marked_before setting aged step before marked in (
      (λ told feeder post function e is.
          let earned = earned_throttle setting (aged feeder) step before told feeder post function lawful blocks
          (earlier feeder (throttle_feeder setting step before told feeder post function lawful blocks e is)) e is in
          (earned.0, earned.1, earned.2, earned.3, earned.5)),
      each_throttle setting aged before lawful.1 (blocks_before setting step before blocks) earlier,
    )

each_true : (setting : Setting) (past : History) → IsNumbered setting → HasFewFrames setting
    → IsLawful setting.layout past → AllOfBlocks setting past
    → AtEachStep (IsTrue setting) past
each_true setting [] numbered few lawful blocks = tt
each_true setting (step ∷ before) numbered few lawful blocks = (
  (λ parcel names. traced_by_few setting step before parcel numbered lawful blocks few names),
  each_true setting before numbered few lawful.1 (blocks_before setting step before blocks),
)

always_bounded : (layout : Layout) (past : History) → IsLawful layout past
    → Always (λ now. (ring : RingId) → length (content_of ring now) ≤ ring_size layout ring) past
always_bounded layout [] lawful = content_bounded layout [] lawful
always_bounded layout (step ∷ before) lawful =
    (content_bounded layout (step ∷ before) lawful, always_bounded layout before lawful.1)

-- What the logs say, said of the history

pub blocks_of : (serial : Bool) (setting : Setting) (final : FinalView) (past : History)
    → IsHistoryOf setting.layout final past → IsLead serial setting.layout final.lead
    → ((role : ℕ) → role < first_role setting.layout → IsOfBlocks setting role (final.logs role))
    → AllOfBlocks setting past
blocks_of serial setting final past is lead blocks role =
    elim (cases_order role (first_role setting.layout)) [
      | inl same ↦
          subst (λ (r : ℕ). IsOfBlocks setting r (log_of r past)) (sym same)
          (subst (IsOfBlocks setting (first_role setting.layout)) is.lead
          (led_blocks setting final.lead (led serial setting.layout final.lead lead)))
      | inr (inl less) ↦ subst (IsOfBlocks setting role) (is.logs role less) (blocks role less)
      | inr (inr more) ↦
          subst (IsOfBlocks setting role) (sym (no_log_behind setting.layout past role is.lawful more)) tt
    ]

feeder_first : (layout : Layout) (feeder : ℕ) → IsFeeder layout feeder → feeder < first_role layout
feeder_first layout feeder known = omega (arith, known)

-- what acts tell without their moments
pub log_told : {A : Type 0} (tell : Act → List A) (moment : ℕ → ℕ) (log : Log)
    → kept_at (λ m. tell) moment log ≡ gathered_of_log tell log
log_told tell moment [] = refl
log_told tell moment (act ∷ before) = ap (λ xs. xs ++ tell act) (log_told tell moment before)

all_counted : {A : Type 0} (xs : List A) → how_many (λ x. true) xs ≡ length xs
all_counted [] = refl
all_counted (x ∷ xs) = omega (arith, all_counted xs)

-- what the roles tell together is what the history tells
gathered_of : {A : Type 0} (test : A → Bool) (tell : Act → List A) (setting : Setting)
    (moments : ℕ → ℕ → ℕ) (final : FinalView) (past : History)
    → IsHistoryOf setting.layout final past
    → kept_at (λ m. tell) (moments (first_role setting.layout)) final.lead ≡ []
    → how_many test (gathered tell past)
    ≡ all_told test (λ m. tell) moments final.logs (first_role setting.layout)
gathered_of test tell setting moments final past is quiet =
    let none : how_many test (gathered_of_log tell (log_of (first_role setting.layout) past)) ≡ 0
    = ap (λ (log : Log). how_many test (gathered_of_log tell log)) (sym is.lead)
    ∙ ap (how_many test) (sym (log_told tell (moments (first_role setting.layout)) final.lead) ∙ quiet) in
    gathered_is test tell setting.layout past is.lawful
    ∙ sum_extend (λ role. how_many test (gathered_of_log tell (log_of role past)))
    (first_role setting.layout) (first_role setting.layout + 1) (omega arith)
    (λ role behind. elim (cases_order role (first_role setting.layout)) [
      | inl same ↦ ap (λ (r : ℕ). how_many test (gathered_of_log tell (log_of r past))) same ∙ none
      | inr (inl less) ↦ absurd (omega (arith, less, behind))
      | inr (inr more) ↦
          ap (λ (log : Log). how_many test (gathered_of_log tell log))
          (no_log_behind setting.layout past role is.lawful more)
    ])
    ∙ sum_same (λ role. how_many test (gathered_of_log tell (log_of role past)))
    (λ role. how_many test (kept_at (λ m. tell) (moments role) (final.logs role))) (first_role setting.layout)
    (λ role less.
    ap (λ (log : Log). how_many test (gathered_of_log tell log)) (sym (is.logs role less))
    ∙ ap (how_many test) (sym (log_told tell (moments role) (final.logs role))))

pub many_of : (serial : Bool) (setting : Setting) (moments : ℕ → ℕ → ℕ) (final : FinalView) (past : History)
    → IsHistoryOf setting.layout final past → IsLead serial setting.layout final.lead
    → (test : Record → Bool)
    → how_many test (records_in past) ≡ all_told test records_by moments final.logs (first_role setting.layout)
many_of serial setting moments final past is lead test =
    ap (how_many test) (records_gathered past)
    ∙ gathered_of test records_of_act setting moments final past is
    (led_tells (moments (first_role setting.layout)) final.lead (led serial setting.layout final.lead lead))

pub sent_of : (serial : Bool) (setting : Setting) (moments : ℕ → ℕ → ℕ) (final : FinalView) (past : History)
    → IsHistoryOf setting.layout final past → IsLead serial setting.layout final.lead
    → (test : SentFrame → Bool)
    → how_many test (sent_frames_in past) ≡ all_told test sent_by moments final.logs (first_role setting.layout)
sent_of serial setting moments final past is lead test =
    ap (how_many test) (sent_gathered past)
    ∙ gathered_of test sent_frames_of_act setting moments final past is
    (led_sends (moments (first_role setting.layout)) final.lead (led serial setting.layout final.lead lead))

head_below : (n : ℕ) (t : Turn) (ts all : List Turn) (role count : ℕ) (others_before : List Turn)
    → all ≡ record { role = role; count = count } ∷ others_before → all ≡ t ∷ ts → role < n
    → t.role < n
head_below n t ts all role count others_before one two less =
    let same : record { role = role; count = count } ∷ others_before ≡ t ∷ ts = sym one ∙ two in
    let head : ◌≡◌ {A = Turn} (record { role = role; count = count }) t = cc in
    subst (λ (u : Turn). u.role < n) head less

-- behind which the last turn was made, and no role is split there
closed_behind : (serial : Bool) (layout : Layout) (lead : Log) → IsLead serial layout lead
    → (seen : ℕ) × (rest : Log) × (lead ≡ turn_of (tick_role layout) seen ++ rest) × NoneSplit rest
closed_behind true layout lead is = (is.seen, is.rounds, is.closed, turns_none layout is.rounds is.turns)
closed_behind false layout lead is = (is.seen, is.phases, is.closed, phases_none layout is.phases is.are)

taken_of : (serial : Bool) (setting : Setting) (final : FinalView) (past : History) (f : FnId)
    → IsLayout setting.layout → f.0 < setting.layout.functions
    → IsHistoryOf setting.layout final past → IsLead serial setting.layout final.lead
    → ((t : Turn) (ts : List Turn) → turns_in final ≡ t ∷ ts
    → IsTickPass setting t.role (log_until (joined_count t.role ts) (final.logs t.role))
    (stretch (joined_count t.role ts) t.count (final.logs t.role)))
    → content_of (Mail f) past ≡ []
taken_of serial setting final past f ranges known is lead closing =
    let behind = closed_behind serial setting.layout final.lead lead in
    let off = turn_off setting.layout past (tick_role setting.layout) behind.0 behind.1 is.lawful
    (sym is.lead ∙ behind.2) behind.3
    (ne_eqb (tick_role setting.layout) (first_role setting.layout) (λ e. omega (arith, e))) in
    let read : turns_in final ≡ turns_of past =
    ap (λ (log : Log). turns log final.counts) is.lead
    ∙ ap (turns (log_of (first_role setting.layout) past)) is.counts
    ∙ turns_read setting.layout past is.lawful in
    all_taken setting.layout past behind.0 behind.1 f ranges known is.lawful (sym is.lead ∙ behind.2) behind.3
    (λ t ts are.
    subst (λ (log : Log). IsDrained (Mail f) MAIL_RING (stretch (joined_count t.role ts) t.count log))
    (is.logs t.role (head_below (first_role setting.layout) t ts (turns_of past) (tick_role setting.layout)
    (length (log_of (tick_role setting.layout) past)) (turns_of off.before) off.turns are (omega arith)))
    ((closing t ts (read ∙ are)).drained f known))

-- no buffer of the layout is out of the pool
none_below : (setting : Setting) (past : History) (n : ℕ) → n ≤ setting.layout.ports * setting.layout.buffers
    → AllInPool setting past → how_many (λ buf. not (is_pool (place_of buf past))) (numbers_below n) ≡ 0
none_below setting past zero within pooled = refl
none_below setting past (suc n) within pooled =
    let out : one_if (not (is_pool (place_of n past))) ≡ 0 =
    ap (λ (there : Place). one_if (not (is_pool there))) (pooled n (omega (arith, within))) in
    omega (arith, out, none_below setting past n (omega (arith, within)) pooled)

pub none_left : (setting : Setting) (past : History) → AllInPool setting past
    → how_many (λ buf. not (is_pool (place_of buf past)))
    (numbers_below (setting.layout.ports * setting.layout.buffers))
    ≡ 0
none_left setting past pooled =
    none_below setting past (setting.layout.ports * setting.layout.buffers) (omega arith) pooled

moments_of : (serial : Bool) (may_tell : ℕ → Type 0) (setting : Setting) (final : FinalView) (past : History)
    (moments : ℕ → ℕ → ℕ)
    → IsHistoryOf setting.layout final past → IsLead serial setting.layout final.lead
    → AreViewMoments serial may_tell setting final moments
    → AreMoments serial may_tell setting final past moments
moments_of true may_tell setting final past moments is lead timed =
    let one = serial_one setting.layout final.lead lead in
    λ role number less. timed role number less
    ∙ ap (λ (steps : History). moment_in setting.layout steps role number)
    (sym (others_are setting.layout final past is one.0 one.1))
moments_of false may_tell setting final past moments is lead timed = timed

order_of : (serial : Bool) (setting : Setting) (final : FinalView) (past : History)
    → IsHistoryOf setting.layout final past → IsLead serial setting.layout final.lead → serial ≡ true
    → role_steps setting.layout past ≡ turn_steps final.logs (turns_in final)
order_of true setting final past is lead e =
    let one = serial_one setting.layout final.lead lead in
    others_are setting.layout final past is one.0 one.1
order_of false setting final past is lead e = absurd (both_ways false refl e)

-- The headline

pub accounted : {S : Type 0} (serial : Bool) (may_tell : ℕ → Type 0) (cost_may_take : ℕ → ℕ → Type 0)
    (acts : ℕ → S → Handling → S → Type 0) (start : ℕ → S) (setting : Setting)
    (moments : ℕ → ℕ → ℕ) (run : RunView)
    → IsLayout setting.layout → IsSetting setting
    → (closed : IsClosed setting run)
    → HasEnded serial may_tell acts start setting moments run
    → HasLists setting moments run
    → AreShares serial may_tell cost_may_take setting moments run
    → IsAccounted serial may_tell cost_may_take acts start setting run
accounted serial may_tell cost_may_take acts start setting moments run ranges is_setting closed ended lists shares =
    let numbered : IsNumbered setting = is_setting.numbered in
    let aged : ℕ → Ages = aged_of setting moments run.final.logs in
    let past : History = closed.past in
    let is : IsHistoryOf setting.layout run.final past = closed.history in
    let lawful : IsLawful setting.layout past = is.lawful in
    let blocks : AllOfBlocks setting past = blocks_of serial setting run.final past is ended.lead ended.blocks in
    let many : length (records_in past) ≡ frame_count setting =
    sym (all_counted (records_in past))
    ∙ many_of serial setting moments run.final past is ended.lead (λ told. true)
    ∙ ended.recorded in
    let pooled : AllInPool setting past = all_back setting past numbered lawful blocks many in
    let marked : AllMarked setting aged past =
    λ feeder known.
    subst (AreMarked setting feeder (aged feeder)) (is.logs feeder (feeder_first setting.layout feeder known))
    (ended.feeders feeder known).marked in
    record {
      past = past;
      moments = moments;
      interleaving = record {
        history = is;
        blocks = blocks;
        lead = ended.lead;
        one_by_one = λ e.
            record { order = order_of serial setting run.final past is ended.lead e; whole = ended.whole e };
      };
      timed = moments_of serial may_tell setting run.final past moments is ended.lead ended.timed;
      one_place = always_once setting.layout past lawful;
      bounded = always_bounded setting.layout past lawful;
      all_return = (
        pooled,
        closed.left ∙ none_left setting past pooled,
      );
      ended = all_ended setting past numbered lawful blocks many;
      one_record = one_each setting past numbered lawful blocks many;
      sends = each_send setting past lawful blocks;
      dropped = each_drop setting past lawful blocks;
      overflowed = each_overflow setting past lawful blocks;
      bytes = each_true setting past numbered (few_frames setting ranges is_setting) lawful blocks;
      journals = λ f known.
          let core : core_role setting.layout f.0 < first_role setting.layout =
          omega (
            arith,
            ranges.core_of f.0 0 (omega (arith, ranges.places, ranges.functions.1, known)),
          ) in
          let has = ended.journals f known in (
            has.0,
            subst (λ (log : Log). GoesThrough (acts f.0) (start f.0) (journal f log) has.0)
                (is.logs (core_role setting.layout f.0) core) has.1,
          );
      throttled = each_throttle setting aged past lawful blocks marked;
      marks = λ feeder known.
          let log : Log = run.final.logs feeder in
          let settled = ended.feeders feeder known in
          record {
            marked = settled.marked;
            paced = settled.paced;
            at_once = λ none pass f less. aged_at_once setting feeder (moments feeder) log pass f none less;
            cleared = λ f. (
              cleared (aged feeder) f (mark_events setting feeder log)
                  (marks_paid setting feeder (aged feeder) log settled.marked),
              cleared_at_once setting feeder (aged feeder) f log settled.marked,
            );
          };
      shares = shares;
      all_taken = λ f known. taken_of serial setting run.final past f ranges known is ended.lead ended.closing;
      lists = record {
        records = record {
          just = λ test.
              lists.records test ∙ sym (many_of serial setting moments run.final past is ended.lead test);
          ascends = lists.records_ascend;
        };
        sent = record {
          just = λ test. lists.sent test ∙ sym (sent_of serial setting moments run.final past is ended.lead test);
          ascends = lists.sent_ascend;
        };
        posts = lists.posts;
        yields = lists.yields;
        lost = lists.lost;
      };
    }
