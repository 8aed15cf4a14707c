-- What a run that is done says of its frames, its buffers and its lists: the headline, each part by its name.
use Rattle.std.specs.Prelude.{ℕ, ◌≡◌, ◌+◌, ◌<◌, ◌≤◌, Bool, true, false, List, [], ◌∷◌, length, Some, slice_get}
use Rattle.onvm_base.specs.declared.frame.SentFrame.{SentFrame}
use Rattle.onvm_base.specs.declared.ids.BufId.{BufId}
use Rattle.onvm_base.specs.declared.ids.FnId.{FnId}
use Rattle.onvm_base.specs.declared.ids.RingId.{RingId}
use Rattle.onvm_base.specs.declared.ids.RingId.TheVariants.{Mail}
use Rattle.onvm_base.specs.declared.outcome.Outcome.TheVariants.{Sent, Dropped, Throttled, RingFull, PoolEmpty}
use Rattle.onvm_base.specs.declared.outcome.Record.{Record}
use Rattle.onvm_base.specs.declared.outcome.Why.{Why}
use Rattle.onvm_base.specs.declared.post.Post.{Post}
use Rattle.onvm_core.specs.declared.entry.Entry.{Entry}
use Rattle.onvm_core.specs.declared.parcel.Parcel.{Parcel}
use Rattle.onvm_core.specs.declared.step.Act.TheVariants.{Give}
use Rattle.onvm_core.specs.declared.step.Step.{Step}
use Rattle.onvm_core.specs.Layouts.{IsBuffer, IsFeeder, core_role, first_role, tick_role, ring_size}
use Rattle.onvm_core.specs.History.{History, content_of}
use Rattle.onvm_core.specs.Places.{StandsOnce}
use Rattle.onvm_core.specs.Records.{records_of_act, records_in, sent_frames_in}
use Rattle.onvm_core.specs.Logs.{Setting, Log, log_of, entry_after}
use Rattle.onvm_core.specs.Blocks.{RoleKind, kind_of, AllOfBlocks}
use Rattle.onvm_core.specs.Blocks.RoleKind.{Receives, Sends, Handles, Ticks, Leads}
use Rattle.onvm_core.specs.Frames.{AllEnded, AllInPool, HasOneRecordEach}
use Rattle.onvm_core.specs.Journals.{Handling, IsTraced, GoesThrough, Names, journal_of}
use Rattle.onvm_core.specs.Marks.{Ages, AreMarked, mark_events}
use Rattle.onvm_core.specs.Pace.{IsPaced}
use Rattle.onvm_core.specs.Earned.{Clears, ClearsAtOnce, IsDropped, IsEarnedEmpty, IsEarnedFull, IsEarnedThrottle, IsSent}
use Rattle.load_estimate.specs.declared.sample.Sample.{Sample}
use Rattle.load_estimate.specs.declared.tick.Tick.{Tick}
use Rattle.onvm_promises.specs.Kept.{at_most_64_bits, is_lost, is_yield, kept_at, posts_by, samples_by}
use Rattle.onvm_promises.specs.Passes.{IsCorePass, IsReceivePass, IsSendPass, IsTickPass}
use Rattle.onvm_promises.specs.Sampling.{IsSampled}
use Rattle.onvm_promises.specs.Stretches.{log_until, stretch}
use Rattle.onvm_promises.specs.Ticks.{AreAllTicks, NeverFall}
use Rattle.onvm_promises.specs.Times.{aged_by, passes_in}
use Rattle.onvm_session.specs.Lists.{IsInOrder, all_acts, all_kept}
use Rattle.onvm_session.specs.Moments.{moment_in}
use Rattle.onvm_session.specs.SerialTicks.{AreSerialTicks}
use Rattle.onvm_session.specs.Turns.{Turn, joined_count, role_steps, turn_steps}
use Rattle.onvm_session.specs.Views.{FinalView, IsHistoryOf, IsLead, turns_in}

-- what a run hands back
pub record RunView : Type 0 where
  pub records : List Record
  pub sent : List SentFrame
  pub posts : List Post
  pub samples : List Sample
  pub ticks : List Tick
  pub yields : ℕ
  pub lost : ℕ
  -- buffers that are out of the pool
  pub left : ℕ
  pub final : FinalView

-- after each step, and at the start
abbrev pub Always : (History → Type 0) → History → Type 0
Always holds [] = holds []
Always holds (step ∷ before) = holds (step ∷ before) × Always holds before

-- of each step and the steps before it
abbrev pub AtEachStep : (Step → History → Type 0) → History → Type 0
AtEachStep holds [] = Unit {0}
AtEachStep holds (step ∷ before) = holds step before × AtEachStep holds before

-- Answers on the age, of each feeder by its moments and its log
abbrev pub aged_of : Setting → (ℕ → ℕ → ℕ) → (ℕ → Log) → ℕ → Ages
aged_of setting moments logs feeder = aged_by setting feeder (moments feeder) (logs feeder)

-- Interleaving

-- what a role of this kind adds in a turn is a whole pass
abbrev pub IsWhole : Setting → (ℕ → Ages) → ℕ → RoleKind → (before added : Log) → Type 0
IsWhole setting aged role Receives before added = IsReceivePass setting role (aged role) before added
IsWhole setting aged role Sends before added = IsSendPass setting role (aged role) before added
IsWhole setting aged role Handles before added = IsCorePass setting role before added
IsWhole setting aged role Ticks before added = IsTickPass setting role before added
IsWhole setting aged role Leads before added = ⊥

abbrev pub AreWhole : Setting → (ℕ → Ages) → (ℕ → Log) → List Turn → Type 0
AreWhole setting aged logs [] = Unit {0}
AreWhole setting aged logs (t ∷ ts) =
    IsWhole setting aged t.role (kind_of setting.layout t.role) (log_until (joined_count t.role ts) (logs t.role))
    (stretch (joined_count t.role ts) t.count (logs t.role))
    × AreWhole setting aged logs ts

-- in a serial run the turns are whole passes, one after another as the first token's log tells
pub record IsSerialOrder (setting : Setting) (aged : ℕ → Ages) (final : FinalView) (past : History) : Type 0 where
  pub order : role_steps setting.layout past ≡ turn_steps final.logs (turns_in final)
  pub whole : AreWhole setting aged final.logs (turns_in final)

pub record IsInterleaving (serial : Bool) (setting : Setting) (aged : ℕ → Ages) (final : FinalView)
    (past : History) : Type 0 where
  pub history : IsHistoryOf setting.layout final past
  pub blocks : AllOfBlocks setting past
  pub lead : IsLead serial setting.layout final.lead
  pub one_by_one : serial ≡ true → IsSerialOrder setting aged final past

-- the moments of acts, by their roles and their numbers in the roles' logs: in a serial run the order tells them, in
-- another each is one that the clock may tell
abbrev pub AreMoments : Bool → (may_tell : ℕ → Type 0) → Setting → FinalView → History → (ℕ → ℕ → ℕ) → Type 0
AreMoments true may_tell setting final past moments =
    (role number : ℕ) → number < length (final.logs role)
    → moments role number ≡ moment_in setting.layout (role_steps setting.layout past) role number
AreMoments false may_tell setting final past moments =
    (role number : ℕ) → number < length (final.logs role) → may_tell (moments role number)

-- Causes

abbrev pub IsDrop : Setting → Step → History → Type 0
IsDrop setting step before = (b : BufId) (f : FnId) (why : Why) (parcel : Parcel)
    → step.act ≡ Give b (Dropped f why) parcel
    → IsDropped setting parcel f why

abbrev pub IsSend : Setting → Step → History → Type 0
IsSend setting step before = (b : BufId) (q : ℕ) (parcel : Parcel) → step.act ≡ Give b (Sent q) parcel
    → IsSent setting parcel q

abbrev pub IsOverflow : Setting → Step → History → Type 0
IsOverflow setting step before = (told : Record) → records_of_act step.act ≡ told ∷ []
    → ((ring : RingId) → told.outcome ≡ RingFull ring → IsEarnedFull (log_of step.role before) ring)
    × (told.outcome ≡ PoolEmpty → IsEarnedEmpty setting step.role (log_of step.role before) step.act)

abbrev pub IsThrottle : Setting → (ℕ → Ages) → Step → History → Type 0
IsThrottle setting aged step before =
    (told : Record) (feeder post : ℕ) (function : FnId) → records_of_act step.act ≡ told ∷ []
    → told.outcome ≡ Throttled feeder post function
    → (e : Entry) × (done : ℕ) × (entry_after setting step.role done ≡ Some e) × (told.frame ≡ e.frame)
    × IsEarnedThrottle setting (aged feeder) before e told feeder post function.0

-- the parcel that a step names has the bytes that its functions gave, the first of them the captured ones
abbrev pub IsTrue : Setting → Step → History → Type 0
IsTrue setting step before = (parcel : Parcel) → Names step.act parcel → IsTraced setting (step ∷ before) parcel

-- Marks

-- the marks passes of a feeder are right, and a mark is cleared at once
pub record AreMarks (setting : Setting) (aged : Ages) (feeder : ℕ) (log : Log) : Type 0 where
  pub marked : AreMarked setting feeder aged log
  pub paced : IsPaced setting feeder log
  -- an age of 0 is always reached
  pub at_once : setting.plan.age ≡ 0 → (pass f : ℕ) → pass < passes_in setting feeder log → aged pass f ≡ true
  pub cleared : (f : ℕ) → Clears f (mark_events setting feeder log) × ClearsAtOnce setting feeder f log

-- Shares

-- what cores mailed, what the tick role took, and the ticks over it
pub record AreShares (serial : Bool) (may_tell : ℕ → Type 0) (cost_may_take : ℕ → ℕ → Type 0) (setting : Setting)
    (moments : ℕ → ℕ → ℕ) (run : RunView) : Type 0 where
  pub mailed : (f : FnId) → f.0 < setting.layout.functions
      → IsSampled cost_may_take setting.plan f (run.final.logs (core_role setting.layout f.0))
  pub samples : run.samples
      ≡ kept_at samples_by (moments (tick_role setting.layout)) (run.final.logs (tick_role setting.layout))
  pub never_fall : NeverFall 0 run.samples
  -- the moment from which the first tick is due: in a serial run 0
  pub first : ℕ
  pub ticks : AreAllTicks setting.plan setting.layout.functions first run.samples run.ticks
      (run.final.logs (tick_role setting.layout))
  pub serial_ticks : serial ≡ true
      → (first ≡ 0) × ((rounds : ℕ) × AreSerialTicks setting.plan rounds run.samples run.ticks)
  pub told_ticks : serial ≡ false → (at : ℕ) (t : Tick) → slice_get run.ticks at ≡ Some t → may_tell t.moment

-- The lists are those of the history

pub record AreLists (setting : Setting) (moments : ℕ → ℕ → ℕ) (run : RunView) (past : History) : Type 0 where
  pub records : IsInOrder (λ told. told.frame) run.records (records_in past)
  pub sent : IsInOrder (λ frame. frame.frame) run.sent (sent_frames_in past)
  pub posts : run.posts
      ≡ all_kept posts_by moments run.final.logs (setting.layout.ports + setting.layout.transmit)
  pub yields : run.yields ≡ at_most_64_bits (all_acts is_yield run.final.logs (first_role setting.layout))
  pub lost : run.lost ≡ at_most_64_bits (all_acts is_lost run.final.logs (first_role setting.layout))

-- The whole

pub record IsAccounted {S : Type 0} (serial : Bool) (may_tell : ℕ → Type 0) (cost_may_take : ℕ → ℕ → Type 0)
    (acts : ℕ → S → Handling → S → Type 0) (start : ℕ → S) (setting : Setting) (run : RunView) : Type 0 where
  pub past : History
  pub moments : ℕ → ℕ → ℕ
  pub interleaving : IsInterleaving serial setting (aged_of setting moments run.final.logs) run.final past
  pub timed : AreMoments serial may_tell setting run.final past moments
  -- at every step each buffer is in one place, and no ring holds more than its size
  pub one_place : Always (λ now. (buf : ℕ) → IsBuffer setting.layout buf → StandsOnce setting.layout now buf) past
  pub bounded : Always (λ now. (ring : RingId) → length (content_of ring now) ≤ ring_size setting.layout ring) past
  pub all_return : AllInPool setting past × (run.left ≡ 0)
  -- each frame's block has ended, and it has one record
  pub ended : AllEnded setting past
  pub one_record : HasOneRecordEach setting past
  pub sends : AtEachStep (IsSend setting) past
  pub dropped : AtEachStep (IsDrop setting) past
  pub overflowed : AtEachStep (IsOverflow setting) past
  pub bytes : AtEachStep (IsTrue setting) past
  pub journals : (f : FnId) → f.0 < setting.layout.functions
      → (end : S) × GoesThrough (acts f.0) (start f.0) (journal_of setting past f) end
  pub throttled : AtEachStep (IsThrottle setting (aged_of setting moments run.final.logs)) past
  pub marks : (feeder : ℕ) → IsFeeder setting.layout feeder
      → AreMarks setting (aged_of setting moments run.final.logs feeder) feeder (run.final.logs feeder)
  pub shares : AreShares serial may_tell cost_may_take setting moments run
  -- every sample that was mailed was taken
  pub all_taken : (f : FnId) → f.0 < setting.layout.functions → content_of (Mail f) past ≡ []
  pub lists : AreLists setting moments run past
