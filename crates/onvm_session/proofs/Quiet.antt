-- What a role of a kind doesn't tell: cores and the tick role have no records, feeders and the tick role count nothing.
use Rattle.std.proofs.Common.{◌≡◌, ℕ, false, inl, inr, List, [], ◌∷◌, ◌++◌, refl, ap, arith, Some, None}
use Rattle.onvm_base.specs.declared.ids.RingId.{RingId}
use Rattle.onvm_base.specs.declared.ids.RingId.TheVariants.{Lane, Output, Mail}
use Rattle.onvm_core.specs.declared.entry.Entry.{Entry}
use Rattle.onvm_core.specs.declared.layout.Word.{Word}
use Rattle.onvm_core.specs.declared.layout.Word.TheVariants.{Cell, Pool as PoolWord, Post as PostWord}
use Rattle.onvm_core.specs.declared.step.Act.{Act}
use Rattle.onvm_core.specs.declared.step.Act.TheVariants.{Full, Give, Look}
use Rattle.onvm_core.proofs.Hands.{IsKind}
use Rattle.onvm_core.specs.Blocks.{MayTick}
use Rattle.onvm_core.specs.Blocks.RoleKind.{Receives, Sends, Handles, Ticks}
use Rattle.onvm_core.specs.Handling.{MayHandle}
use Rattle.onvm_core.specs.Logs.{Setting, Log}
use Rattle.onvm_core.specs.Places.{how_many, one_if}
use Rattle.onvm_core.specs.Receiving.{IsMarkAct, MayReceiveFor, ReceivePhase, receive_phase}
use Rattle.onvm_core.specs.Receiving.ReceivePhase.{Asks, Barred, Between, Seeks, Sees, Took}
use Rattle.onvm_core.specs.Records.{records_of_act, sent_frames_of_act}
use Rattle.onvm_core.specs.Sending.{MaySend, SendPhase, send_phase}
use Rattle.onvm_core.specs.Sending.SendPhase.{Free, Moves, TurnsBack}
use Rattle.onvm_promises.specs.Kept.{is_lost, is_yield, kept_at}

-- Records and sent frames

abbrev TellsNone : Act → Type 0
TellsNone act = (records_of_act act ≡ []) × (sent_frames_of_act act ≡ [])

core_tells_none : (setting : Setting) (role : ℕ) (before : Log) (act : Act) → MayHandle setting role before act
    → TellsNone act
core_tells_none setting role before (Give b outcome parcel) may = absurd may
core_tells_none setting role before (Look word seen None) may = (refl, refl)
core_tells_none setting role before (Look word seen (Some told)) may =
    absurd (let off : Some told ≡ None = may.1 in cc)
core_tells_none setting role before act may = (refl, refl)

tick_tells_none : (setting : Setting) (act : Act) → MayTick setting act → TellsNone act
tick_tells_none setting (Give b outcome parcel) may = absurd may
tick_tells_none setting (Look word seen told) may = absurd may
tick_tells_none setting act may = (refl, refl)

none_more : {A : Type 0} (xs ys : List A) → xs ≡ [] → ys ≡ [] → xs ++ ys ≡ []
none_more {A} [] [] e f = refl
none_more {A} [] (y ∷ ys) e f = f
none_more {A} (x ∷ xs) ys e f = absurd (let off : ◌≡◌ {A = List A} (x ∷ xs) [] = e in cc)

abbrev LogTellsNone : (ℕ → ℕ) → Log → Type 0
LogTellsNone moment log =
    (kept_at (λ m. records_of_act) moment log ≡ []) × (kept_at (λ m. sent_frames_of_act) moment log ≡ [])

tells_none_more : (moment : ℕ → ℕ) (act : Act) (before : Log) → TellsNone act → LogTellsNone moment before
    → LogTellsNone moment (act ∷ before)
tells_none_more moment act before now earlier = (
  none_more (kept_at (λ m. records_of_act) moment before) (records_of_act act) earlier.0 now.0,
  none_more (kept_at (λ m. sent_frames_of_act) moment before) (sent_frames_of_act act) earlier.1 now.1,
)

pub core_log_tells_none : (setting : Setting) (role : ℕ) (moment : ℕ → ℕ) (log : Log)
    → IsKind setting role Handles log
    → LogTellsNone moment log
core_log_tells_none setting role moment [] is = (refl, refl)
core_log_tells_none setting role moment (act ∷ before) is =
    tells_none_more moment act before (core_tells_none setting role before act is.0)
    (core_log_tells_none setting role moment before is.1)

pub tick_log_tells_none : (setting : Setting) (role : ℕ) (moment : ℕ → ℕ) (log : Log)
    → IsKind setting role Ticks log
    → LogTellsNone moment log
tick_log_tells_none setting role moment [] is = (refl, refl)
tick_log_tells_none setting role moment (act ∷ before) is =
    tells_none_more moment act before (tick_tells_none setting act is.0)
    (tick_log_tells_none setting role moment before is.1)

-- Counts

abbrev CountsNone : Act → Type 0
CountsNone act = (is_yield act ≡ false) × (is_lost act ≡ false)

mark_counts_none : (setting : Setting) (feeder : ℕ) (act : Act) → IsMarkAct setting feeder act → CountsNone act
mark_counts_none setting feeder (Look (Cell (Output f) at) seen told) may = absurd may
mark_counts_none setting feeder (Full (Mail f)) may = absurd may
mark_counts_none setting feeder act may = (refl, refl)

receive_counts_none : (setting : Setting) (port : ℕ) (e : Entry) (phase : ReceivePhase) (act : Act)
    → MayReceiveFor setting port e phase act
    → CountsNone act
receive_counts_none setting port e (Between done) (Look (Cell (Output f) at) seen None) may =
    absurd (let off : ◌≡◌ {A = Word} (Cell (Output f) at) (PostWord 0) = may.0 in cc)
receive_counts_none setting port e (Between done) (Look (Cell (Output f) at) seen (Some told)) may =
    absurd (let off : ◌≡◌ {A = Word} (Cell (Output f) at) (PostWord 0) = may.0 in cc)
receive_counts_none setting port e (Asks done k) (Look (Cell (Output f) at) seen None) may =
    absurd (let off : ◌≡◌ {A = Word} (Cell (Output f) at) (PostWord k) = may.0 in cc)
receive_counts_none setting port e (Asks done k) (Look (Cell (Output f) at) seen (Some told)) may =
    absurd (let off : ◌≡◌ {A = Word} (Cell (Output f) at) (PostWord k) = may.0 in cc)
receive_counts_none setting port e (Seeks done k) (Look (Cell (Output f) at) seen None) may =
    absurd (let off : ◌≡◌ {A = Word} (Cell (Output f) at) (PoolWord (record { 0 = port }) k) = may.0 in cc)
receive_counts_none setting port e (Seeks done k) (Look (Cell (Output f) at) seen (Some told)) may =
    absurd (let off : ◌≡◌ {A = Word} (Cell (Output f) at) (PoolWord (record { 0 = port }) k) = may.0 in cc)
receive_counts_none setting port e (Sees done index seen) (Look (Cell (Output f) at) v told) may = absurd may
receive_counts_none setting port e (Took done buf) (Look (Cell (Output f) at) v told) may = absurd may
receive_counts_none setting port e (Barred done buf ring) (Look (Cell (Output f) at) v told) may = absurd may
receive_counts_none setting port e (Between done) (Full (Mail f)) may = absurd may
receive_counts_none setting port e (Asks done k) (Full (Mail f)) may = absurd may
receive_counts_none setting port e (Seeks done k) (Full (Mail f)) may = absurd may
receive_counts_none setting port e (Sees done index seen) (Full (Mail f)) may = absurd may
receive_counts_none setting port e (Took done buf) (Full (Mail f)) may =
    absurd (let off : ◌≡◌ {A = RingId} (Mail f) (Lane may.function port) = may.lane in cc)
receive_counts_none setting port e (Barred done buf ring) (Full (Mail f)) may = absurd may
receive_counts_none setting port e phase act may = (refl, refl)

send_counts_none : (setting : Setting) (role : ℕ) (phase : SendPhase) (act : Act) → MaySend setting role phase act
    → CountsNone act
send_counts_none setting role Free (Look (Cell (Output f) at) seen told) may = absurd may
send_counts_none setting role (Moves hand) (Look (Cell (Output f) at) seen told) may = absurd may
send_counts_none setting role (TurnsBack hand ring) (Look (Cell (Output f) at) seen told) may = absurd may
send_counts_none setting role Free (Full (Mail f)) may = absurd may
send_counts_none setting role (Moves hand) (Full (Mail f)) may =
    absurd (let off : ◌≡◌ {A = RingId} (Mail f) (Lane may.1.function role) = may.1.lane in cc)
send_counts_none setting role (TurnsBack hand ring) (Full (Mail f)) may = absurd may
send_counts_none setting role phase act may = (refl, refl)

tick_counts_none : (setting : Setting) (act : Act) → MayTick setting act → CountsNone act
tick_counts_none setting (Look word seen told) may = absurd may
tick_counts_none setting (Full ring) may = absurd may
tick_counts_none setting act may = (refl, refl)

abbrev LogCountsNone : Log → Type 0
LogCountsNone log = (how_many is_yield log ≡ 0) × (how_many is_lost log ≡ 0)

counts_none_more : (act : Act) (before : Log) → CountsNone act → LogCountsNone before → LogCountsNone (act ∷ before)
counts_none_more act before now earlier = (
  omega (arith, ap one_if now.0, earlier.0),
  omega (arith, ap one_if now.1, earlier.1),
)

pub receive_log_counts_none : (setting : Setting) (port : ℕ) (log : Log) → IsKind setting port Receives log
    → LogCountsNone log
receive_log_counts_none setting port [] is = (refl, refl)
receive_log_counts_none setting port (act ∷ before) is =
    counts_none_more act before (elim is.0 [
      | inl mark ↦ mark_counts_none setting port act mark.1
      | inr block ↦ receive_counts_none setting port block.0 (receive_phase setting before) act block.2
    ])
    (receive_log_counts_none setting port before is.1)

pub send_log_counts_none : (setting : Setting) (role : ℕ) (log : Log) → IsKind setting role Sends log
    → LogCountsNone log
send_log_counts_none setting role [] is = (refl, refl)
send_log_counts_none setting role (act ∷ before) is =
    counts_none_more act before (send_counts_none setting role (send_phase before) act is.0)
    (send_log_counts_none setting role before is.1)

pub tick_log_counts_none : (setting : Setting) (role : ℕ) (log : Log) → IsKind setting role Ticks log
    → LogCountsNone log
tick_log_counts_none setting role [] is = (refl, refl)
tick_log_counts_none setting role (act ∷ before) is =
    counts_none_more act before (tick_counts_none setting act is.0) (tick_log_counts_none setting role before is.1)
