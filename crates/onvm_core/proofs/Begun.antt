-- What frames an act begins: those that a receive role takes or records, and no other.
use Rattle.std.proofs.Common.{◌≡◌, ℕ, ◌+◌, ◌⊎◌, inl, inr, ◌∷◌, refl, ◌∙◌, ap, Some, None}
use Rattle.std.specs.Prelude.{◌==◌}
use Rattle.std.proofs.lemmas.Bool.{cases_Bool}
use Rattle.onvm_base.specs.declared.ids.FrameId.{FrameId}
use Rattle.onvm_core.specs.declared.step.Act.{Act}
use Rattle.onvm_core.specs.declared.step.Act.TheVariants.{Take, Look}
use Rattle.onvm_core.specs.Places.{one_if}
use Rattle.onvm_core.specs.Layouts.{feeder_count}
use Rattle.onvm_core.specs.Logs.{Setting, Log, entry_after, IsNumbered}
use Rattle.onvm_core.specs.Receiving.{ReceivePhase, phase_after_ask, phase_after_seek, receive_after, receive_phase, done_count, IsBetween, IsMarkAct, MayReceive}
use Rattle.onvm_core.specs.Sending.{SendPhase, send_phase, MaySend}
use Rattle.onvm_core.specs.Blocks.{RoleKind, MayFollow}
use Rattle.onvm_core.specs.Frames.{block_frame, same_frame, begun_count}
use Rattle.onvm_base.specs.declared.outcome.Record.{Record}
use Rattle.onvm_base.specs.declared.ids.RingId.TheVariants.{Lane, Output, Mail}
use Rattle.onvm_core.specs.declared.layout.Word.TheVariants.{Pool as PoolWord, Cell, Post as PostWord, Weight}
use Rattle.onvm_core.specs.declared.entry.Entry.{Entry}
use Rattle.onvm_core.specs.Receiving.ReceivePhase.{Between}
use Rattle.onvm_core.specs.Sending.SendPhase.{Free, Moves as Sending, TurnsBack}
use Rattle.onvm_core.specs.Blocks.RoleKind.{Receives, Sends, Handles, Ticks, Leads}
use Rattle.onvm_core.proofs.InBlock.{InBlock, in_block}
use Rattle.onvm_core.proofs.InBlock.InBlock.{AsksFirst, AsksOn, SeeksOn, Takes, Enters, FindsFull, Leaves, GivesBack}

-- how many frames like this one an act begins
abbrev pub starts : FrameId → FrameId → Act → ℕ
starts fresh frame (Take b) = one_if (same_frame fresh frame)
starts fresh frame (Look word seen (Some told)) = one_if (same_frame told.frame frame)
starts fresh frame _ = 0

abbrev pub Begins : FrameId → ℕ → ℕ → ℕ → ℕ → Type 0
Begins frame port was now begun =
    ((now ≡ was) × (begun ≡ 0))
    ⊎ ((now ≡ was + 1) × (begun ≡ one_if (same_frame (record { port = record { 0 = port }; number = was + 1 }) frame)))

asked_begun : (setting : Setting) (done k : ℕ) → begun_count (phase_after_ask setting done k None) ≡ done
asked_begun setting done k =
    elim (cases_Bool (k + 1 == feeder_count setting.layout)) [ inl met ↦ rw met refl | inr unmet ↦ rw unmet refl ]

sought_begun : (done k seen : ℕ) → begun_count (phase_after_seek done k seen None) ≡ done
sought_begun done k seen = elim (cases_Bool (seen == 0)) [ inl met ↦ rw met refl | inr unmet ↦ rw unmet refl ]

told_begins : (frame : FrameId) (setting : Setting) (port done : ℕ) (e : Entry) (told : Record)
    → IsNumbered setting → entry_after setting port done ≡ Some e → told.frame ≡ e.frame
    → one_if (same_frame told.frame frame)
    ≡ one_if (same_frame (record { port = record { 0 = port }; number = done + 1 }) frame)
told_begins frame setting port done e told numbered found same =
    ap (λ (f : FrameId). one_if (same_frame f frame)) (same ∙ numbered port done e found)

receive_begins : (setting : Setting) (port : ℕ) (e : Entry) (phase : ReceivePhase) (act : Act) (frame : FrameId)
    → IsNumbered setting → entry_after setting port (done_count phase) ≡ Some e → InBlock setting port e phase act
    → Begins frame port (begun_count phase) (begun_count (receive_after setting phase act))
    (starts (record { port = record { 0 = port }; number = done_count phase + 1 }) frame act)
receive_begins setting port e phase act frame numbered found (AsksFirst done f v None may) =
    inl (asked_begun setting done 0, refl)
receive_begins setting port e phase act frame numbered found (AsksFirst done f v (Some told) may) =
    inr (refl, told_begins frame setting port done e told numbered found (ap (λ (r : Record). r.frame) may.1.told_is))
receive_begins setting port e phase act frame numbered found (AsksOn done k w v None may) =
    inl (asked_begun setting done k, refl)
receive_begins setting port e phase act frame numbered found (AsksOn done k w v (Some told) may) =
    inr (refl, told_begins frame setting port done e told numbered found (ap (λ (r : Record). r.frame) may.1.told_is))
receive_begins setting port e phase act frame numbered found (SeeksOn done k w v None may) =
    inl (sought_begun done k v, refl)
receive_begins setting port e phase act frame numbered found (SeeksOn done k w v (Some told) may) =
    inr (refl, told_begins frame setting port done e told numbered found (ap (λ (r : Record). r.frame) may.1.told_is))
receive_begins setting port e phase act frame numbered found (Takes done index seen b may) = inr (refl, refl)
receive_begins setting port e phase act frame numbered found (Enters done buf ring b parcel may) = inl (refl, refl)
receive_begins setting port e phase act frame numbered found (FindsFull done buf ring may) = inl (refl, refl)
receive_begins setting port e phase act frame numbered found (Leaves done buf b q parcel may) = inl (refl, refl)
receive_begins setting port e phase act frame numbered found (GivesBack done buf ring b outcome parcel may) =
    inl (refl, refl)

mark_starts : (setting : Setting) (feeder : ℕ) (act : Act) (fresh frame : FrameId) → IsMarkAct setting feeder act
    → starts fresh frame act ≡ 0
mark_starts setting feeder (Look (Cell (Lane f p) at) v (Some told)) fresh frame may =
    absurd (let off : Some told ≡ None = may.3 in cc)
mark_starts setting feeder (Look (Cell (Output f) at) v told) fresh frame may = absurd may
mark_starts setting feeder (Look (Cell (Mail f) at) v told) fresh frame may = absurd may
mark_starts setting feeder (Look (PostWord f) v told) fresh frame may = absurd may
mark_starts setting feeder (Look (PoolWord f g) v told) fresh frame may = absurd may
mark_starts setting feeder (Look (Weight f) v told) fresh frame may = absurd may
mark_starts setting feeder (Take b) fresh frame may = absurd may
mark_starts setting feeder act fresh frame may = refl

pub mark_begins : (setting : Setting) (port : ℕ) (phase : ReceivePhase) (act : Act)
    → IsBetween phase → IsMarkAct setting port act
    → begun_count (receive_after setting phase act) ≡ begun_count phase
mark_begins setting port (Between done) (Look (PostWord f) v told) between may = absurd may
mark_begins setting port (Between done) act between may = refl
mark_begins setting port phase act between may = absurd between

pub own_begins : (setting : Setting) (port : ℕ) (log : Log) (act : Act) (frame : FrameId)
    → IsNumbered setting → MayReceive setting port log act
    → Begins frame port (begun_count (receive_phase setting log)) (begun_count (receive_phase setting (act ∷ log)))
    (starts (block_frame setting port log) frame act)
own_begins setting port log act frame numbered may =
    elim may [
      | inl mark ↦
          inl (
            mark_begins setting port (receive_phase setting log) act mark.0 mark.1,
            mark_starts setting port act (block_frame setting port log) frame mark.1,
          )
      | inr block ↦ receive_begins setting port block.0 (receive_phase setting log) act frame numbered block.1
          (in_block setting port block.0 (receive_phase setting log) act block.2)
    ]

send_starts : (setting : Setting) (feeder : ℕ) (phase : SendPhase) (act : Act) (fresh frame : FrameId)
    → MaySend setting feeder phase act
    → starts fresh frame act ≡ 0
send_starts setting feeder Free (Take b) fresh frame may = absurd may
send_starts setting feeder Free (Look w v (Some told)) fresh frame may =
    mark_starts setting feeder (Look w v (Some told)) fresh frame may
send_starts setting feeder (Sending hand) (Take b) fresh frame may = absurd may
send_starts setting feeder (Sending hand) (Look w v (Some told)) fresh frame may = absurd may
send_starts setting feeder (TurnsBack hand ring) (Take b) fresh frame may = absurd may
send_starts setting feeder (TurnsBack hand ring) (Look w v (Some told)) fresh frame may = absurd may
send_starts setting feeder phase act fresh frame may = refl

-- no other kind of role begins a frame
pub other_starts : (setting : Setting) (role : ℕ) (kind : RoleKind) (log : Log) (act : Act) (fresh frame : FrameId)
    → (kind ≡ Receives → ⊥) → MayFollow setting role kind log act
    → starts fresh frame act ≡ 0
other_starts setting role Receives log act fresh frame other may = absurd (other refl)
other_starts setting role Sends log act fresh frame other may =
    send_starts setting role (send_phase log) act fresh frame may
other_starts setting role Handles log (Take b) fresh frame other may = absurd may
other_starts setting role Handles log (Look w v (Some told)) fresh frame other may =
    absurd (let off : Some told ≡ None = may.1 in cc)
other_starts setting role Ticks log (Take b) fresh frame other may = absurd may
other_starts setting role Ticks log (Look w v (Some told)) fresh frame other may = absurd may
other_starts setting role Leads log (Take b) fresh frame other may = absurd may
other_starts setting role Leads log (Look w v (Some told)) fresh frame other may =
    absurd (let off : Some told ≡ None = may in cc)
other_starts setting role kind log act fresh frame other may = refl
