-- What the log of a receive role ends with, and that of a transmit role: looks that found no buffer, or a full ring.
use Rattle.std.proofs.Common.{◌≡◌, ℕ, ◌+◌, add-one, inl, inr, [], ◌∷◌, refl, ◌∙◌, ap, Option, Some, None}
use Rattle.std.specs.Prelude.{◌==◌}
use Rattle.std.proofs.lemmas.Bool.{cases_Bool, eqb-true}
use Rattle.onvm_base.specs.declared.ids.RingId.{RingId}
use Rattle.onvm_base.specs.declared.ids.RingId.TheVariants.{Output}
use Rattle.onvm_base.specs.declared.outcome.Record.{Record}
use Rattle.onvm_core.specs.declared.entry.Entry.{Entry}
use Rattle.onvm_core.specs.declared.layout.Word.{Word}
use Rattle.onvm_core.specs.declared.layout.Word.TheVariants.{Pool as PoolWord, Post as PostWord}
use Rattle.onvm_core.specs.declared.parcel.Parcel.{Parcel}
use Rattle.onvm_core.specs.declared.step.Item.TheVariants.{Buffer}
use Rattle.onvm_core.specs.declared.step.Act.{Act}
use Rattle.onvm_core.specs.declared.step.Act.TheVariants.{Split, Give, Push, Full, Pop, Look}
use Rattle.onvm_core.specs.Layouts.{feeder_count}
use Rattle.onvm_core.specs.Logs.{Setting, Log}
use Rattle.onvm_core.specs.Receiving.{ReceivePhase, phase_after_ask, phase_after_seek, receive_after, receive_phase, IsBetween, MaySeek, EntersBy}
use Rattle.onvm_core.specs.Receiving.ReceivePhase.{Between, Seeks, Barred}
use Rattle.onvm_core.specs.Sending.{SendPhase, send_after, send_phase, MaySend, GoesBy}
use Rattle.onvm_core.specs.Sending.SendPhase.{Free, Moves as Sending, TurnsBack}
use Rattle.onvm_core.specs.Blocks.RoleKind.{Receives, Sends}
use Rattle.onvm_core.specs.Earned.{EndsWithLooks, IsEarnedFull}
use Rattle.onvm_core.proofs.Hands.{IsKind}
use Rattle.onvm_core.proofs.InBlock.{InBlock, in_block}
use Rattle.onvm_core.proofs.InBlock.InBlock.{AsksFirst, AsksOn, SeeksOn, Takes, Enters, FindsFull, Leaves, GivesBack}

-- What the log of a receive role ends with: the looks at the part's words, or the ring that was found full

abbrev pub EndsSo : ℕ → Log → ReceivePhase → Type 0
EndsSo port log (Seeks done k) = EndsWithLooks port k log
EndsSo port log (Barred done buf ring) = IsEarnedFull log ring
EndsSo port log phase = Unit {0}

asked_so : (setting : Setting) (port done k : ℕ) (told : Option Record) (log : Log)
    → EndsSo port log (phase_after_ask setting done k told)
asked_so setting port done k None log =
    elim (cases_Bool (k + 1 == feeder_count setting.layout)) [ inl met ↦ rw met tt | inr unmet ↦ rw unmet tt ]
asked_so setting port done k (Some told) log = tt

sought_so : (setting : Setting) (port done k seen : ℕ) (word : Word) (e : Entry) (told : Option Record) (before : Log)
    → MaySeek setting port e k word seen told → EndsWithLooks port k before
    → EndsSo port (Look word seen told ∷ before) (phase_after_seek done k seen told)
sought_so setting port done k seen word e None before may h =
    elim (cases_Bool (seen == 0)) [
      | inl met ↦ let word_is : word ≡ PoolWord (record { 0 = port }) k = may.0 in
          let zero_is : seen ≡ 0 = eqb-true seen 0 met in
          let look : Look word seen None ≡ Look (PoolWord (record { 0 = port }) k) 0 None =
          ap (λ (w : Word). Look w seen None) word_is
          ∙ ap (λ (n : ℕ). Look (PoolWord (record { 0 = port }) k) n None) zero_is in
          rw (met, add-one) (look, h)
      | inr unmet ↦ rw unmet tt
    ]
sought_so setting port done k seen word e (Some told) before may h = tt

between_so : (setting : Setting) (port done : ℕ) (act : Act) (log : Log)
    → EndsSo port log (receive_after setting (Between done) act)
between_so setting port done (Look (PostWord f) seen told) log = asked_so setting port done 0 told log
between_so setting port done act log = tt

entered_full : (setting : Setting) (port : ℕ) (e : Entry) (ring : RingId) (before : Log) → EntersBy setting port e ring
    → IsEarnedFull (Full ring ∷ before) ring
entered_full setting port e ring before enters =
    record { function = enters.function; feeder = port; lane = enters.lane; before = before; full = refl }

receive_so : (setting : Setting) (port : ℕ) (e : Entry) (phase : ReceivePhase) (act : Act) (before : Log)
    → EndsSo port before phase → InBlock setting port e phase act
    → EndsSo port (act ∷ before) (receive_after setting phase act)
receive_so setting port e phase act before h (AsksFirst done f v t may) =
    asked_so setting port done 0 t (Look (PostWord f) v t ∷ before)
receive_so setting port e phase act before h (AsksOn done k w v t may) =
    asked_so setting port done k t (Look w v t ∷ before)
receive_so setting port e phase act before h (SeeksOn done k w v t may) =
    sought_so setting port done k v w e t before may h
receive_so setting port e phase act before h (Takes done index seen b may) = tt
receive_so setting port e phase act before h (Enters done buf ring b parcel may) = tt
receive_so setting port e phase act before h (FindsFull done buf ring may) = entered_full setting port e ring before may
receive_so setting port e phase act before h (Leaves done buf b q parcel may) = tt
receive_so setting port e phase act before h (GivesBack done buf ring b outcome parcel may) = tt

mark_so : (setting : Setting) (port : ℕ) (phase : ReceivePhase) (act : Act) (log : Log) → IsBetween phase
    → EndsSo port log (receive_after setting phase act)
mark_so setting port (Between done) act log h = between_so setting port done act log
mark_so setting port phase act log h = absurd h

pub receive_ends : (setting : Setting) (port : ℕ) (log : Log) → IsKind setting port Receives log
    → EndsSo port log (receive_phase setting log)
receive_ends setting port [] kind = tt
receive_ends setting port (act ∷ before) kind =
    elim kind.0 [
      | inl mark ↦ mark_so setting port (receive_phase setting before) act (act ∷ before) mark.0
      | inr block ↦
          receive_so setting port block.0 (receive_phase setting before) act before
          (receive_ends setting port before kind.1)
          (in_block setting port block.0 (receive_phase setting before) act block.2)
    ]

-- What the log of a transmit role ends with: the ring that was found full

abbrev pub SendsSo : Log → SendPhase → Type 0
SendsSo log (TurnsBack hand ring) = IsEarnedFull log ring
SendsSo log Free = Unit {0}
SendsSo log (Sending hand) = Unit {0}

goes_full : (setting : Setting) (feeder cursor : ℕ) (parcel : Parcel) (ring : RingId) (before : Log)
    → GoesBy setting feeder parcel cursor ring
    → IsEarnedFull (Full ring ∷ before) ring
goes_full setting feeder cursor parcel ring before goes =
    record { function = goes.function; feeder = feeder; lane = goes.lane; before = before; full = refl }

send_so : (setting : Setting) (feeder : ℕ) (phase : SendPhase) (act : Act) (before : Log)
    → MaySend setting feeder phase act
    → SendsSo (act ∷ before) (send_after phase act)
send_so setting feeder Free (Split a) before may = tt
send_so setting feeder Free (Pop (Output f) (Buffer b parcel)) before may = tt
send_so setting feeder Free act before may = tt
send_so setting feeder (Sending hand) (Give a b c) before may = tt
send_so setting feeder (Sending hand) (Push a b) before may = tt
send_so setting feeder (Sending hand) (Full a) before may = goes_full setting feeder may.0 hand.parcel a before may.1
send_so setting feeder (TurnsBack hand ring) (Give a b c) before may = tt
send_so setting feeder phase act before may = absurd may

pub send_ends : (setting : Setting) (role : ℕ) (log : Log) → IsKind setting role Sends log
    → SendsSo log (send_phase log)
send_ends setting role [] kind = tt
send_ends setting role (act ∷ before) kind = send_so setting role (send_phase before) act before kind.0
