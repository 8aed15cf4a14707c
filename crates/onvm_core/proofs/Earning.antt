-- Each overflow is earned, and each drop and send is the move's.
use Rattle.std.proofs.Common.{◌≡◌, ℕ, zero, suc, ◌⊎◌, inl, inr, List, [], ◌∷◌, refl, sym, ◌∙◌, ap, subst, Option, Some, None}
use Rattle.std.specs.Prelude.{slice_get, ◌==◌, ◌^◌, ◌/◌}
use Rattle.std.proofs.lemmas.Bool.{cases_Bool, eqb-true}
use Rattle.onvm_base.specs.declared.ids.RingId.{RingId}
use Rattle.onvm_base.specs.declared.ids.RingId.TheVariants.{Lane}
use Rattle.onvm_base.specs.declared.ids.BufId.{BufId}
use Rattle.onvm_base.specs.declared.ids.FnId.{FnId}
use Rattle.onvm_base.specs.declared.moves.Move.TheVariants.{Leave}
use Rattle.onvm_base.specs.declared.outcome.Record.{Record}
use Rattle.onvm_base.specs.declared.outcome.Outcome.{Outcome}
use Rattle.onvm_base.specs.declared.outcome.Outcome.TheVariants.{Sent, Dropped, Throttled, RingFull, PoolEmpty}
use Rattle.onvm_base.specs.Moves.{enter}
use Rattle.onvm_core.specs.declared.entry.Entry.{Entry}
use Rattle.onvm_core.specs.declared.layout.Word.{Word}
use Rattle.onvm_core.specs.declared.layout.Word.TheVariants.{Pool as PoolWord, Cell, Post as PostWord}
use Rattle.onvm_core.specs.declared.parcel.Parcel.{Parcel}
use Rattle.onvm_core.specs.declared.step.Act.{Act}
use Rattle.onvm_core.specs.declared.step.Act.TheVariants.{Give, Look}
use Rattle.onvm_core.specs.declared.step.Step.{Step}
use Rattle.onvm_core.specs.History.{History}
use Rattle.onvm_core.specs.Records.{records_of_act}
use Rattle.onvm_core.specs.Logs.{Setting, Log, log_of, entries_of_port, entry_after, entry_parcel}
use Rattle.onvm_core.specs.Receiving.{ReceivePhase, receive_phase, done_count, IsMarkAct, IsPoolEmptyRecord, IsThrottleRecord, MayReceiveFor}
use Rattle.onvm_core.specs.Receiving.ReceivePhase.{Between, Asks, Seeks, Took, Barred}
use Rattle.onvm_core.specs.Sending.{SendPhase, send_phase, MaySend, IsNext}
use Rattle.onvm_core.specs.Sending.SendPhase.{Free, Moves as Sending, TurnsBack}
use Rattle.onvm_core.specs.Blocks.{RoleKind, kind_of, MayFollow, IsOfBlocks, AllOfBlocks}
use Rattle.onvm_core.specs.Blocks.RoleKind.{Receives, Sends, Handles, Ticks, Leads}
use Rattle.onvm_core.specs.Earned.{EndsWithLooks, IsEarnedEmpty, IsEarnedFull, IsSent, MayRecord}
use Rattle.onvm_core.proofs.Hands.{IsKind, is_kind}
use Rattle.onvm_core.proofs.Balance.{own_blocks}
use Rattle.onvm_core.proofs.Loads.{Each}
use Rattle.onvm_core.proofs.Endings.{EndsSo, SendsSo, receive_ends, send_ends}

-- What a record says of the log before it

one_record : (a b : Record) → ◌≡◌ {A = List Record} (a ∷ []) (b ∷ []) → a ≡ b
one_record a b e = cc

no_record : (told : Record) → ◌≡◌ {A = List Record} [] (told ∷ []) → ⊥
no_record told e = cc

same_full : (r ring : RingId) → ◌≡◌ {A = Outcome} (RingFull r) (RingFull ring) → r ≡ ring
same_full r ring e = cc

is_full : (r ring : RingId) (outcome : Outcome) (log : Log)
    → outcome ≡ RingFull r → outcome ≡ RingFull ring → IsEarnedFull log r
    → IsEarnedFull log ring
is_full r ring outcome log one two h = subst (IsEarnedFull log) (same_full r ring (sym one ∙ two)) h

receive_full : (setting : Setting) (port : ℕ) (e : Entry) (phase : ReceivePhase) (b : BufId) (outcome : Outcome)
    (parcel : Parcel) (ring : RingId) (log : Log)
    → outcome ≡ RingFull ring → EndsSo port log phase → MayReceiveFor setting port e phase (Give b outcome parcel)
    → IsEarnedFull log ring
receive_full setting port e (Took done buf) b (Sent q) parcel ring log is h may =
    absurd (let off : ◌≡◌ {A = Outcome} (Sent q) (RingFull ring) = is in cc)
receive_full setting port e (Took done buf) b (Dropped g w) parcel ring log is h may = absurd may
receive_full setting port e (Took done buf) b (Throttled x y z) parcel ring log is h may = absurd may
receive_full setting port e (Took done buf) b (RingFull r) parcel ring log is h may = absurd may
receive_full setting port e (Took done buf) b PoolEmpty parcel ring log is h may = absurd may
receive_full setting port e (Barred done buf r) b outcome parcel ring log is h may =
    is_full r ring outcome log may.1 is h
receive_full setting port e phase b outcome parcel ring log is h may = absurd may

send_full : (setting : Setting) (feeder : ℕ) (phase : SendPhase) (b : BufId) (outcome : Outcome) (parcel : Parcel)
    (ring : RingId) (log : Log)
    → outcome ≡ RingFull ring → SendsSo log phase → MaySend setting feeder phase (Give b outcome parcel)
    → IsEarnedFull log ring
send_full setting feeder (Sending hand) b (Sent q) parcel ring log is h may =
    absurd (let off : ◌≡◌ {A = Outcome} (Sent q) (RingFull ring) = is in cc)
send_full setting feeder (Sending hand) b (Dropped g w) parcel ring log is h may =
    absurd (let off : ◌≡◌ {A = Outcome} (Dropped g w) (RingFull ring) = is in cc)
send_full setting feeder (TurnsBack hand r) b outcome parcel ring log is h may = is_full r ring outcome log may.1 is h
send_full setting feeder phase b outcome parcel ring log is h may = absurd may

give_full : (setting : Setting) (role : ℕ) (kind : RoleKind) (log : Log) (b : BufId) (outcome : Outcome)
    (parcel : Parcel) (ring : RingId) → IsKind setting role kind (Give b outcome parcel ∷ log) → outcome ≡ RingFull ring
    → IsEarnedFull log ring
give_full setting role Receives log b outcome parcel ring kind is =
    elim kind.0 [
      | inl mark ↦ absurd mark.1
      | inr block ↦
          receive_full setting role block.0 (receive_phase setting log) b outcome parcel ring log is
          (receive_ends setting role log kind.1) block.2
    ]
give_full setting role Sends log b outcome parcel ring kind is =
    send_full setting role (send_phase log) b outcome parcel ring log is (send_ends setting role log kind.1) kind.0
give_full setting role Handles log b outcome parcel ring kind is = absurd kind.0
give_full setting role Ticks log b outcome parcel ring kind is = absurd kind.0
give_full setting role Leads log b outcome parcel ring kind is = absurd kind.0

-- A look records that a frame was throttled, or that the pool was empty

-- the look is of a block of the port's next frame, at a post word, or at the last word of the part
abbrev pub LookTells : Setting → ℕ → Log → Word → ℕ → Record → Type 0
LookTells setting port log word seen told =
    (e : Entry) × (done : ℕ) × (entry_after setting port done ≡ Some e)
    × (((k : ℕ) × (word ≡ PostWord k) × IsThrottleRecord setting e k seen told)
    ⊎ ((k : ℕ) × (word ≡ PoolWord (record { 0 = port }) k) × IsPoolEmptyRecord setting e k seen told
    × EndsWithLooks port k log))

receive_tells : (setting : Setting) (port : ℕ) (e : Entry) (phase : ReceivePhase) (word : Word) (seen : ℕ)
    (told : Record) (log : Log)
    → entry_after setting port (done_count phase) ≡ Some e → EndsSo port log phase
    → MayReceiveFor setting port e phase (Look word seen (Some told))
    → LookTells setting port log word seen told
receive_tells setting port e (Between done) word seen told log found h may = (e, done, found, inl (0, may.0, may.1))
receive_tells setting port e (Asks done k) word seen told log found h may = (e, done, found, inl (k, may.0, may.1))
receive_tells setting port e (Seeks done k) word seen told log found h may = (e, done, found, inr (k, may.0, may.1, h))
receive_tells setting port e phase word seen told log found h may = absurd may

mark_untold : (setting : Setting) (feeder : ℕ) (word : Word) (seen : ℕ) (told : Record)
    → IsMarkAct setting feeder (Look word seen (Some told))
    → ⊥
mark_untold setting feeder (Cell (Lane f p) at) seen told may =
    let off : ◌≡◌ {A = Option Record} (Some told) None = may.3 in cc
mark_untold setting feeder word seen told may = may

send_untold : (setting : Setting) (feeder : ℕ) (phase : SendPhase) (word : Word) (seen : ℕ) (told : Record)
    → MaySend setting feeder phase (Look word seen (Some told))
    → ⊥
send_untold setting feeder Free word seen told may = mark_untold setting feeder word seen told may
send_untold setting feeder (Sending hand) word seen told may = may
send_untold setting feeder (TurnsBack hand ring) word seen told may = may

look_tells : (setting : Setting) (role : ℕ) (kind : RoleKind) (log : Log) (word : Word) (seen : ℕ) (told : Record)
    → IsKind setting role kind (Look word seen (Some told) ∷ log)
    → LookTells setting role log word seen told
look_tells setting role Receives log word seen told kind =
    elim kind.0 [
      | inl mark ↦ absurd (mark_untold setting role word seen told mark.1)
      | inr block ↦
          receive_tells setting role block.0 (receive_phase setting log) word seen told log block.1
          (receive_ends setting role log kind.1) block.2
    ]
look_tells setting role Sends log word seen told kind =
    absurd (send_untold setting role (send_phase log) word seen told kind.0)
look_tells setting role Handles log word seen told kind =
    absurd (let off : ◌≡◌ {A = Option Record} (Some told) None = kind.0.1 in cc)
look_tells setting role Ticks log word seen told kind = absurd kind.0
look_tells setting role Leads log word seen told kind =
    absurd (let off : ◌≡◌ {A = Option Record} (Some told) None = kind.0 in cc)

-- A give records that a frame was sent, dropped, or barred by a full ring

abbrev pub Gives : Outcome → Type 0
Gives (Throttled feeder post function) = ⊥
Gives PoolEmpty = ⊥
Gives outcome = Unit {0}

full_gives : (ring : RingId) (outcome : Outcome) → outcome ≡ RingFull ring → Gives outcome
full_gives ring outcome is = subst Gives (sym is) tt

receive_gives : (setting : Setting) (port : ℕ) (e : Entry) (phase : ReceivePhase) (b : BufId) (outcome : Outcome)
    (parcel : Parcel) → MayReceiveFor setting port e phase (Give b outcome parcel)
    → Gives outcome
receive_gives setting port e (Took done buf) b (Sent q) parcel may = tt
receive_gives setting port e (Took done buf) b (Dropped g w) parcel may = absurd may
receive_gives setting port e (Took done buf) b (Throttled x y z) parcel may = absurd may
receive_gives setting port e (Took done buf) b (RingFull r) parcel may = absurd may
receive_gives setting port e (Took done buf) b PoolEmpty parcel may = absurd may
receive_gives setting port e (Barred done buf r) b outcome parcel may = full_gives r outcome may.1
receive_gives setting port e phase b outcome parcel may = absurd may

send_gives : (setting : Setting) (feeder : ℕ) (phase : SendPhase) (b : BufId) (outcome : Outcome) (parcel : Parcel)
    → MaySend setting feeder phase (Give b outcome parcel)
    → Gives outcome
send_gives setting feeder (Sending hand) b (Sent q) parcel may = tt
send_gives setting feeder (Sending hand) b (Dropped g w) parcel may = tt
send_gives setting feeder (TurnsBack hand r) b outcome parcel may = full_gives r outcome may.1
send_gives setting feeder phase b outcome parcel may = absurd may

give_gives : (setting : Setting) (role : ℕ) (kind : RoleKind) (log : Log) (b : BufId) (outcome : Outcome)
    (parcel : Parcel)
    → MayFollow setting role kind log (Give b outcome parcel)
    → Gives outcome
give_gives setting role Receives log b outcome parcel may =
    elim may [
      | inl mark ↦ absurd mark.1
      | inr block ↦ receive_gives setting role block.0 (receive_phase setting log) b outcome parcel block.2
    ]
give_gives setting role Sends log b outcome parcel may = send_gives setting role (send_phase log) b outcome parcel may
give_gives setting role kind log b outcome parcel may = absurd may

-- the log of the acting role, with the step's act
pub acting : (setting : Setting) (step : Step) (before : History) (act : Act)
    → step.act ≡ act → AllOfBlocks setting (step ∷ before)
    → IsKind setting step.role (kind_of setting.layout step.role) (act ∷ log_of step.role before)
acting setting step before act acts blocks =
    let log : Log = log_of step.role before in
    let own : IsOfBlocks setting step.role (act ∷ log) =
    subst (λ (a : Act). IsOfBlocks setting step.role (a ∷ log)) acts (own_blocks setting step before blocks) in
    is_kind setting step.role (act ∷ log) (kind_of setting.layout step.role) refl own

-- Each record is one of a give or of a look

abbrev pub ToldBy : Setting → ℕ → Log → Record → Act → Type 0
ToldBy setting role log told act =
    ((b : BufId) × (outcome : Outcome) × (parcel : Parcel) × (act ≡ Give b outcome parcel) × (told.outcome ≡ outcome)
    × Gives outcome × IsKind setting role (kind_of setting.layout role) (Give b outcome parcel ∷ log))
    ⊎ ((word : Word) × (seen : ℕ) × (act ≡ Look word seen (Some told)) × LookTells setting role log word seen told)

told_by_act : (setting : Setting) (role : ℕ) (log : Log) (told : Record) (act : Act)
    → records_of_act act ≡ told ∷ [] → IsKind setting role (kind_of setting.layout role) (act ∷ log)
    → ToldBy setting role log told act
told_by_act setting role log told (Give b outcome parcel) e kind =
    let same : record { frame = parcel.frame; outcome = outcome } ≡ told =
    one_record (record { frame = parcel.frame; outcome = outcome }) told e in
    inl (
      b,
      outcome,
      parcel,
      refl,
      sym (ap (λ (r : Record). r.outcome) same),
      give_gives setting role (kind_of setting.layout role) log b outcome parcel kind.0,
      kind,
    )
told_by_act setting role log told (Look word seen (Some other)) e kind =
    let same : other ≡ told = one_record other told e in
    inr (
      word,
      seen,
      ap (λ (r : Record). Look word seen (Some r)) same,
      subst (LookTells setting role log word seen) same
          (look_tells setting role (kind_of setting.layout role) log word seen other kind),
    )
told_by_act setting role log told act e kind = absurd (no_record told e)

pub told_by : (setting : Setting) (step : Step) (before : History) (told : Record)
    → AllOfBlocks setting (step ∷ before) → records_of_act step.act ≡ told ∷ []
    → ToldBy setting step.role (log_of step.role before) told step.act
told_by setting step before told blocks e =
    told_by_act setting step.role (log_of step.role before) told step.act e
    (acting setting step before step.act refl blocks)

not_throttled_full : (told : Record) (k n : ℕ) (f : FnId) (ring : RingId)
    → told.outcome ≡ Throttled k n f → told.outcome ≡ RingFull ring
    → ⊥
not_throttled_full told k n f ring one two =
    let off : ◌≡◌ {A = Outcome} (Throttled k n f) (RingFull ring) = sym one ∙ two in cc

not_empty_full : (told : Record) (ring : RingId) → told.outcome ≡ PoolEmpty → told.outcome ≡ RingFull ring → ⊥
not_empty_full told ring one two = let off : ◌≡◌ {A = Outcome} PoolEmpty (RingFull ring) = sym one ∙ two in cc

pub not_throttled_empty : (told : Record) (k n : ℕ) (f : FnId)
    → told.outcome ≡ Throttled k n f → told.outcome ≡ PoolEmpty
    → ⊥
not_throttled_empty told k n f one two = let off : ◌≡◌ {A = Outcome} (Throttled k n f) PoolEmpty = sym one ∙ two in cc

-- each act records its own outcomes

give_records : (b : BufId) (o : Outcome) (parcel : Parcel) (outcome : Outcome) → Gives outcome
    → MayRecord (Give b o parcel) outcome
give_records b o parcel (Throttled x y z) gives = absurd gives
give_records b o parcel PoolEmpty gives = absurd gives
give_records b o parcel outcome gives = tt

pub may_record : (setting : Setting) (step : Step) (before : History) (told : Record)
    → AllOfBlocks setting (step ∷ before) → records_of_act step.act ≡ told ∷ []
    → MayRecord step.act told.outcome
may_record setting step before told blocks e =
    elim (told_by setting step before told blocks e) [
      | inl (b, outcome, parcel, acts, of, gives, kind) ↦
          subst (λ (a : Act). MayRecord a told.outcome) (sym acts)
          (give_records b outcome parcel told.outcome (subst Gives (sym of) gives))
      | inr (word, seen, acts, (entry, done, found, inl (k, at, held))) ↦
          subst (λ (a : Act). MayRecord a told.outcome) (sym acts)
          (subst (MayRecord (Look word seen (Some told))) (sym (ap (λ (r : Record). r.outcome) held.told_is)) tt)
      | inr (word, seen, acts, (entry, done, found, inr (k, at, lost, ends))) ↦
          subst (λ (a : Act). MayRecord a told.outcome) (sym acts)
          (subst (MayRecord (Look word seen (Some told))) (sym (ap (λ (r : Record). r.outcome) lost.told_is)) tt)
    ]

-- each overflow of a ring is earned
pub earned_full : (setting : Setting) (step : Step) (before : History) (told : Record) (ring : RingId)
    → AllOfBlocks setting (step ∷ before) → records_of_act step.act ≡ told ∷ [] → told.outcome ≡ RingFull ring
    → IsEarnedFull (log_of step.role before) ring
earned_full setting step before told ring blocks e is =
    elim (told_by setting step before told blocks e) [
      | inl (b, outcome, parcel, acts, of, gives, kind) ↦
          give_full setting step.role (kind_of setting.layout step.role)
          (log_of step.role before) b outcome parcel ring kind (sym of ∙ is)
      | inr (word, seen, acts, (entry, done, found, inl (k, at, held))) ↦
          absurd (not_throttled_full told k (seen / 2 ^ 32) (record { 0 = held.function }) ring
          (ap (λ (r : Record). r.outcome) held.told_is) is)
      | inr (word, seen, acts, (entry, done, found, inr (k, at, lost, ends))) ↦
          absurd (not_empty_full told ring (ap (λ (r : Record). r.outcome) lost.told_is) is)
    ]

-- the frames of a port are of the port
ports_are : (port : ℕ) (es : List Entry) → Each (λ (e : Entry). e.frame.port.0 ≡ port) (entries_of_port port es)
ports_are port [] = tt
ports_are port (e ∷ es) =
    elim (cases_Bool (e.frame.port.0 == port)) [
      | inl met ↦ rw met (eqb-true e.frame.port.0 port met, ports_are port es)
      | inr unmet ↦ rw unmet (ports_are port es)
    ]

each_at : {A : Type 0} (P : A → Type 0) (xs : List A) (k : ℕ) (x : A) → slice_get xs k ≡ Some x → Each P xs → P x
each_at P [] k x e h = absurd (cc)
each_at P (y ∷ xs) zero x e h = let same : y ≡ x = cc in subst P same h.0
each_at P (y ∷ xs) (suc k) x e h = each_at P xs k x e h.1

pub port_is : (setting : Setting) (port done : ℕ) (e : Entry) → entry_after setting port done ≡ Some e
    → e.frame.port.0 ≡ port
port_is setting port done e found =
    each_at (λ (e : Entry). e.frame.port.0 ≡ port) (entries_of_port port setting.entries) done e found
    (ports_are port setting.entries)

-- each overflow of a pool is earned
pub earned_empty : (setting : Setting) (step : Step) (before : History) (told : Record)
    → AllOfBlocks setting (step ∷ before) → records_of_act step.act ≡ told ∷ [] → told.outcome ≡ PoolEmpty
    → IsEarnedEmpty setting step.role (log_of step.role before) step.act × (told.frame.port.0 ≡ step.role)
earned_empty setting step before told blocks e is =
    elim (told_by setting step before told blocks e) [
      | inl (b, outcome, parcel, acts, of, gives, kind) ↦ absurd (subst Gives (sym of ∙ is) gives)
      | inr (word, seen, acts, (entry, done, found, inl (k, at, held))) ↦
          absurd (not_throttled_empty told k (seen / 2 ^ 32) (record { 0 = held.function })
          (ap (λ (r : Record). r.outcome) held.told_is) is)
      | inr (word, seen, acts, (entry, done, found, inr (k, at, lost, ends))) ↦ (
        record {
          index = k;
          told = told;
          look =
              acts
              ∙ ap (λ (w : Word). Look w seen (Some told)) at
              ∙ ap (λ (n : ℕ). Look (PoolWord (record { 0 = step.role }) k) n (Some told)) lost.none;
          last = lost.last;
          earlier = ends;
        },
        ap (λ (r : Record). r.frame.port.0) lost.told_is ∙ port_is setting step.role done entry found,
      )
    ]

-- Sends

sent_entry : (setting : Setting) (e : Entry) (parcel : Parcel) (q : ℕ)
    → parcel ≡ entry_parcel e → enter setting.plan e.chain e.hash ≡ Leave q
    → IsSent setting parcel q
sent_entry setting e parcel q is leaves =
    inl (ap (λ (p : Parcel). p.trail) is, ap (λ (p : Parcel). enter setting.plan p.chain p.hash) is ∙ leaves)

receive_sent : (setting : Setting) (port : ℕ) (e : Entry) (phase : ReceivePhase) (b : BufId) (q : ℕ) (parcel : Parcel)
    → MayReceiveFor setting port e phase (Give b (Sent q) parcel)
    → IsSent setting parcel q
receive_sent setting port e (Took done buf) b q parcel may = sent_entry setting e parcel q may.1 may.2
receive_sent setting port e (Barred done buf r) b q parcel may =
    absurd (let off : ◌≡◌ {A = Outcome} (Sent q) (RingFull r) = may.1 in cc)
receive_sent setting port e phase b q parcel may = absurd may

send_sent : (setting : Setting) (feeder : ℕ) (phase : SendPhase) (b : BufId) (q : ℕ) (parcel : Parcel)
    → MaySend setting feeder phase (Give b (Sent q) parcel)
    → IsSent setting parcel q
send_sent setting feeder Free b q parcel may = absurd may
send_sent setting feeder (Sending hand) b q parcel may =
    inr (subst (λ (p : Parcel). IsNext setting p (Leave q)) (sym may.2) may.1)
send_sent setting feeder (TurnsBack hand r) b q parcel may =
    absurd (let off : ◌≡◌ {A = Outcome} (Sent q) (RingFull r) = may.1 in cc)

kind_sent : (setting : Setting) (role : ℕ) (kind : RoleKind) (log : Log) (b : BufId) (q : ℕ) (parcel : Parcel)
    → MayFollow setting role kind log (Give b (Sent q) parcel)
    → IsSent setting parcel q
kind_sent setting role Receives log b q parcel may =
    elim may [
      | inl mark ↦ absurd mark.1
      | inr block ↦ receive_sent setting role block.0 (receive_phase setting log) b q parcel block.2
    ]
kind_sent setting role Sends log b q parcel may = send_sent setting role (send_phase log) b q parcel may
kind_sent setting role kind log b q parcel may = absurd may

-- each send is the move's
pub is_sent : (setting : Setting) (step : Step) (before : History) (b : BufId) (q : ℕ) (parcel : Parcel)
    → AllOfBlocks setting (step ∷ before) → step.act ≡ Give b (Sent q) parcel
    → IsSent setting parcel q
is_sent setting step before b q parcel blocks acts =
    kind_sent setting step.role (kind_of setting.layout step.role) (log_of step.role before) b q parcel
    (acting setting step before (Give b (Sent q) parcel) acts blocks).0
