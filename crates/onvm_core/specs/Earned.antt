-- What each record tells, and that it is true: throttles and overflows are earned, drops and sends are the move's.
use Rattle.std.specs.Prelude.{ℕ, zero, suc, ◌≡◌, ◌+◌, ◌*◌, ◌/◌, ◌^◌, ◌≤◌, ◌⊎◌, true, false, [], ◌∷◌, Some, None}
use Rattle.onvm_base.specs.declared.limits.TheConstants.{WORD_BITS}
use Rattle.onvm_base.specs.declared.ids.FnId.{FnId}
use Rattle.onvm_base.specs.declared.ids.RingId.{RingId}
use Rattle.onvm_base.specs.declared.ids.RingId.TheVariants.{Lane}
use Rattle.onvm_base.specs.declared.moves.Move.TheVariants.{Leave, End}
use Rattle.onvm_base.specs.declared.outcome.Outcome.{Outcome}
use Rattle.onvm_base.specs.declared.outcome.Outcome.TheVariants.{Sent, Dropped, Throttled, RingFull, PoolEmpty}
use Rattle.onvm_base.specs.declared.outcome.Record.{Record}
use Rattle.onvm_base.specs.declared.outcome.Why.{Why}
use Rattle.onvm_base.specs.Moves.{enter}
use Rattle.onvm_core.specs.declared.entry.Entry.{Entry}
use Rattle.onvm_core.specs.declared.layout.Word.TheVariants.{Pool as PoolWord, Cell, Post as PostWord}
use Rattle.onvm_core.specs.declared.parcel.Crumb.{Crumb}
use Rattle.onvm_core.specs.declared.parcel.Parcel.{Parcel}
use Rattle.onvm_core.specs.declared.step.Act.{Act}
use Rattle.onvm_core.specs.declared.step.Act.TheVariants.{Give, Full, Look, Post}
use Rattle.onvm_core.specs.History.{History}
use Rattle.onvm_core.specs.Words.{value_of}
use Rattle.onvm_core.specs.Logs.{Setting, Log, log_of, last_crumb}
use Rattle.onvm_core.specs.Receiving.{IsThrottleRecord}
use Rattle.onvm_core.specs.Sending.{IsNext}
use Rattle.onvm_core.specs.Marks.{MarkEvent, MarkEvents, MarkPhase, Pass, Ages, IsPaid, pass_count, IsResting, finds, has_bit, last_post, mark_events, mark_phase}
use Rattle.onvm_core.specs.Marks.MarkEvent.{Passed, Posted}
use Rattle.onvm_core.specs.Marks.MarkPhase.{AtRest, InPass}

-- Throttles

-- the function's mark is raised and not cleared: of the run of last posts that have its bit, the pass of the first
-- found high and low in time, and each pass from that one on found low
pub data IsRaised (aged : Ages) (f : ℕ) : MarkEvents → Type 0 where
  -- the first post of the run, and its pass
  ByPost : (value : ℕ) (pass : Pass) (before : MarkEvents)
      → has_bit value f ≡ true → has_bit (last_post before) f ≡ false
      → finds true f pass ≡ true → finds false f pass ≡ true → aged (pass_count before) f ≡ true
      → IsRaised aged f (Posted value ∷ Passed pass ∷ before)
  ByAnotherPost : (value : ℕ) (before : MarkEvents) → has_bit value f ≡ true → IsRaised aged f before
      → IsRaised aged f (Posted value ∷ before)
  ByPass : (pass : Pass) (before : MarkEvents) → finds false f pass ≡ true → IsRaised aged f before
      → IsRaised aged f (Passed pass ∷ before)

-- the newest pass's post is due, and the mark was raised before this pass
pub record IsRaisedBeforeDue (aged : Ages) (f : ℕ) (events : MarkEvents) : Type 0 where
  pub pass : Pass
  pub before : MarkEvents
  pub newest : events ≡ Passed pass ∷ before
  pub due : ¬ IsPaid aged events
  pub raised : IsRaised aged f before

-- the same up to now, but for a pass that the feeder is in: its looks aren't all made, or they are and its post is due
abbrev pub IsRaisedUpToNow : Ages → ℕ → MarkPhase → Type 0
IsRaisedUpToNow aged f (InPass next later found events) = IsRaised aged f events
IsRaisedUpToNow aged f (AtRest events) = IsRaised aged f events ⊎ IsRaisedBeforeDue aged f events

-- a frame that a look recorded as throttled after these steps: the feeder's word had this post, with the bit of this
-- function, the lowest of the frame's chain, and the function's mark was raised and not cleared
pub record IsEarnedThrottle (setting : Setting) (aged : Ages) (past : History) (e : Entry) (told : Record)
    (feeder post function : ℕ) : Type 0 where
  pub seen : ℕ
  pub shown : value_of setting.layout past (PostWord feeder) ≡ seen
  pub number : seen / 2 ^ 32 ≡ post
  pub held : IsThrottleRecord setting e feeder seen told
  pub names : held.function ≡ function
  pub raised : IsRaisedUpToNow aged function (mark_phase setting feeder (log_of feeder past))

-- the newest pass didn't find low, though the last post has the bit
abbrev pub IsDue : ℕ → MarkEvents → Type 0
IsDue f [] = ⊥
IsDue f (Posted value ∷ before) = ⊥
IsDue f (Passed pass ∷ before) = (has_bit (last_post before) f ≡ true) × (finds false f pass ≡ false)

-- a post without the function's bit
abbrev pub IsWithout : ℕ → MarkEvent → Type 0
IsWithout f (Posted value) = has_bit value f ≡ false
IsWithout f (Passed pass) = ⊥

-- a mark is cleared by the pass that doesn't find low: a post without its bit follows at once
abbrev pub Clears : ℕ → MarkEvents → Type 0
Clears f [] = Unit {0}
Clears f (event ∷ before) = (IsDue f before → IsWithout f event) × Clears f before

-- The same in the log: a pass is made without a break, and the post that clears a mark is the very next act

abbrev pub IsPostWithout : ℕ → Act → Type 0
IsPostWithout f (Post word value) = has_bit value f ≡ false
IsPostWithout f _ = ⊥

abbrev pub IsLaneLook : Act → Type 0
IsLaneLook (Look (Cell (Lane f p) at) seen told) = Unit {0}
IsLaneLook _ = ⊥

abbrev pub ClearsAtOnce : Setting → (feeder function : ℕ) → Log → Type 0
ClearsAtOnce setting feeder f [] = Unit {0}
ClearsAtOnce setting feeder f (act ∷ before) =
    (¬ IsResting (mark_phase setting feeder before) → IsLaneLook act)
    × (IsDue f (mark_events setting feeder before) → IsPostWithout f act)
    × ClearsAtOnce setting feeder f before

-- Overflows

-- the log ends with looks at so many first words of the port's part, in order, next to one another, each of value 0
abbrev pub EndsWithLooks : (port count : ℕ) → Log → Type 0
EndsWithLooks port zero log = Unit {0}
EndsWithLooks port (suc k) [] = ⊥
EndsWithLooks port (suc k) (act ∷ before) =
    (act ≡ Look (PoolWord (record { 0 = port }) k) 0 None)
    × EndsWithLooks port k before

-- no buffer was free: the recording look is at the last word of the part, and with the looks before it each word was 0
pub record IsEarnedEmpty (setting : Setting) (role : ℕ) (log : Log) (act : Act) : Type 0 where
  pub index : ℕ
  pub told : Record
  pub look : act ≡ Look (PoolWord (record { 0 = role }) index) 0 (Some told)
  pub last : setting.layout.buffers ≤ WORD_BITS * (index + 1)
  pub earlier : EndsWithLooks role index log

-- the ring was full: the role found the lane full directly before it gave the buffer back
pub record IsEarnedFull (log : Log) (ring : RingId) : Type 0 where
  pub function : FnId
  pub feeder : ℕ
  pub lane : ring ≡ Lane function feeder
  pub before : Log
  pub full : log ≡ Full ring ∷ before

-- Drops and sends

-- the last crumb is of this function, and its verdict ends the way for this cause
pub record IsDropped (setting : Setting) (parcel : Parcel) (function : FnId) (why : Why) : Type 0 where
  pub crumb : Crumb
  pub last : last_crumb parcel.trail ≡ Some crumb
  pub by : crumb.function ≡ function
  pub ends : IsNext setting parcel (End why)

-- the frame leaves by this port from the entry, without a crumb, or by the verdict of its last crumb
abbrev pub IsSent : Setting → Parcel → ℕ → Type 0
IsSent setting parcel q =
    ((parcel.trail ≡ []) × (enter setting.plan parcel.chain parcel.hash ≡ Leave q))
    ⊎ IsNext setting parcel (Leave q)

-- Which act records what: a look throttles and an empty pool, a give all else

abbrev pub MayRecord : Act → Outcome → Type 0
MayRecord (Look word seen told) (Throttled feeder post function) = Unit {0}
MayRecord (Look word seen told) PoolEmpty = Unit {0}
MayRecord (Give b outcome parcel) (Sent q) = Unit {0}
MayRecord (Give b outcome parcel) (Dropped function why) = Unit {0}
MayRecord (Give b outcome parcel) (RingFull ring) = Unit {0}
MayRecord _ _ = ⊥
