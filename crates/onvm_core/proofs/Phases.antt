-- What a role has by its phase: exactly what its own log says.
use Rattle.std.proofs.Common.{◌≡◌, ℕ, ◌+◌, inl, inr, [], ◌∷◌, refl, sym, ◌∙◌, ap, Option, Some, None}
use Rattle.std.specs.Prelude.{◌==◌}
use Rattle.std.proofs.lemmas.Bool.{cases_Bool}
use Rattle.onvm_base.specs.declared.ids.FrameId.{FrameId}
use Rattle.onvm_core.specs.declared.step.Item.TheVariants.{Buffer, Number}
use Rattle.onvm_core.specs.declared.step.Act.{Act}
use Rattle.onvm_core.specs.declared.step.Act.TheVariants.{Split, Join, Take, Give, Push, Full, Pop, Empty, Look, Post}
use Rattle.onvm_core.specs.Layouts.{feeder_count}
use Rattle.onvm_core.specs.Logs.{Setting, Log, Hand}
use Rattle.onvm_core.specs.Receiving.{ReceivePhase, phase_after_ask, phase_after_seek, receive_after, receive_phase, done_count, IsBetween, IsMarkAct}
use Rattle.onvm_core.specs.Handling.{core_hand, hand_after, MayHandle}
use Rattle.onvm_core.specs.Sending.{SendPhase, send_after, send_phase, MaySend}
use Rattle.onvm_core.specs.Blocks.{RoleKind, MayTick, MayLead}
use Rattle.onvm_core.specs.Frames.{Load, block_frame}
use Rattle.onvm_base.specs.declared.outcome.Record.{Record}
use Rattle.onvm_base.specs.declared.ids.RingId.TheVariants.{Lane, Output, Mail}
use Rattle.onvm_core.specs.declared.layout.Word.TheVariants.{Cell}
use Rattle.onvm_core.specs.declared.entry.Entry.{Entry}
use Rattle.onvm_core.specs.Receiving.ReceivePhase.{Between, Took, Barred}
use Rattle.onvm_core.specs.Sending.SendPhase.{Free, Moves as Sending, TurnsBack}
use Rattle.onvm_core.specs.Blocks.RoleKind.{Receives, Sends, Handles, Ticks, Leads}
use Rattle.onvm_core.specs.Frames.Load.{Fresh, Loaded}
use Rattle.onvm_core.proofs.Loads.{own_load, own_load_after}
use Rattle.onvm_core.proofs.Hands.{IsKind}
use Rattle.onvm_core.proofs.InBlock.{InBlock, in_block}
use Rattle.onvm_core.proofs.InBlock.InBlock.{AsksFirst, AsksOn, SeeksOn, Takes, Enters, FindsFull, Leaves, GivesBack}

-- what a receive role has in a phase
abbrev pub taken_in : ℕ → ReceivePhase → Option (ℕ × Load)
taken_in port (Took done buf) = Some (buf, Fresh (record { port = record { 0 = port }; number = done + 1 }))
taken_in port (Barred done buf ring) = Some (buf, Fresh (record { port = record { 0 = port }; number = done + 1 }))
taken_in port phase = None

-- what a core has in hand
abbrev pub handled_in : Option Hand → Option (ℕ × Load)
handled_in None = None
handled_in (Some hand) = Some (hand.buf, Loaded hand.parcel)

-- what a transmit role has in a phase
abbrev pub moved_in : SendPhase → Option (ℕ × Load)
moved_in Free = None
moved_in (Sending hand) = Some (hand.buf, Loaded hand.parcel)
moved_in (TurnsBack hand ring) = Some (hand.buf, Loaded hand.parcel)

-- what a role of this kind has after its log
abbrev pub held_in : Setting → ℕ → RoleKind → Log → Option (ℕ × Load)
held_in setting role Receives log = taken_in role (receive_phase setting log)
held_in setting role Sends log = moved_in (send_phase log)
held_in setting role Handles log = handled_in (core_hand log)
held_in setting role kind log = None

-- Receive roles

asked_none : (setting : Setting) (port done k : ℕ) (told : Option Record)
    → taken_in port (phase_after_ask setting done k told) ≡ None
asked_none setting port done k None =
    elim (cases_Bool (k + 1 == feeder_count setting.layout)) [ inl met ↦ rw met refl | inr unmet ↦ rw unmet refl ]
asked_none setting port done k (Some told) = refl

sought_none : (port done k seen : ℕ) (told : Option Record) → taken_in port (phase_after_seek done k seen told) ≡ None
sought_none port done k seen None = elim (cases_Bool (seen == 0)) [ inl met ↦ rw met refl | inr unmet ↦ rw unmet refl ]
sought_none port done k seen (Some told) = refl

receive_says : (setting : Setting) (port : ℕ) (e : Entry) (phase : ReceivePhase) (act : Act) (own : Option (ℕ × Load))
    → own ≡ taken_in port phase → InBlock setting port e phase act
    → own_load_after (record { port = record { 0 = port }; number = done_count phase + 1 }) act own
    ≡ taken_in port (receive_after setting phase act)
receive_says setting port e phase act own h (AsksFirst done f v t may) = h ∙ sym (asked_none setting port done 0 t)
receive_says setting port e phase act own h (AsksOn done k w v t may) = h ∙ sym (asked_none setting port done k t)
receive_says setting port e phase act own h (SeeksOn done k w v t may) = h ∙ sym (sought_none port done k v t)
receive_says setting port e phase act own h (Takes done index seen b may) = refl
receive_says setting port e phase act own h (Enters done buf ring b parcel may) = refl
receive_says setting port e phase act own h (FindsFull done buf ring may) = h
receive_says setting port e phase act own h (Leaves done buf b q parcel may) = refl
receive_says setting port e phase act own h (GivesBack done buf ring b outcome parcel may) = refl

mark_says : (setting : Setting) (port : ℕ) (phase : ReceivePhase) (act : Act) (fresh : FrameId)
    (own : Option (ℕ × Load)) → own ≡ taken_in port phase → IsBetween phase → IsMarkAct setting port act
    → own_load_after fresh act own ≡ taken_in port (receive_after setting phase act)
mark_says setting port (Between done) (Push r (Buffer b parcel)) fresh own h between may = absurd may
mark_says setting port (Between done) (Pop r (Buffer b parcel)) fresh own h between may = absurd may
mark_says setting port (Between done) (Look (Cell (Lane f p) at) v t) fresh own h between may = h
mark_says setting port (Between done) (Post a b) fresh own h between may = h
mark_says setting port (Between done) act fresh own h between may = absurd may
mark_says setting port phase act fresh own h between may = absurd between

-- Cores

core_says : (setting : Setting) (role : ℕ) (before : Log) (act : Act) (fresh : FrameId) (own : Option (ℕ × Load))
    (hand : Option Hand) → own ≡ handled_in hand → MayHandle setting role before act
    → own_load_after fresh act own ≡ handled_in (hand_after act hand)
core_says setting role before (Push (Output f) (Buffer b parcel)) fresh own hand h may = refl
core_says setting role before (Push (Lane f p) (Buffer b parcel)) fresh own hand h may = absurd may
core_says setting role before (Push (Mail f) (Number n)) fresh own hand h may = h
core_says setting role before (Pop (Lane f p) (Buffer b parcel)) fresh own hand h may = refl
core_says setting role before (Pop (Output f) (Buffer b parcel)) fresh own hand h may = absurd may
core_says setting role before (Pop (Mail f) (Buffer b parcel)) fresh own hand h may = absurd may
core_says setting role before (Full r) fresh own hand h may = h
core_says setting role before (Empty a) fresh own hand h may = h
core_says setting role before (Look w v t) fresh own hand h may = h
core_says setting role before act fresh own hand h may = absurd may

-- Transmit roles

send_says : (setting : Setting) (feeder : ℕ) (phase : SendPhase) (act : Act) (fresh : FrameId) (own : Option (ℕ × Load))
    → own ≡ moved_in phase → MaySend setting feeder phase act
    → own_load_after fresh act own ≡ moved_in (send_after phase act)
send_says setting feeder Free (Push r (Buffer b parcel)) fresh own h may = absurd may
send_says setting feeder Free (Pop (Output f) (Buffer b parcel)) fresh own h may = refl
send_says setting feeder Free (Pop (Lane f p) (Buffer b parcel)) fresh own h may = absurd may
send_says setting feeder Free (Pop (Mail f) (Buffer b parcel)) fresh own h may = absurd may
send_says setting feeder Free (Empty a) fresh own h may = h
send_says setting feeder Free (Look w v t) fresh own h may = h
send_says setting feeder Free (Post a b) fresh own h may = h
send_says setting feeder (Sending hand) (Give b outcome parcel) fresh own h may = refl
send_says setting feeder (Sending hand) (Push r (Buffer b parcel)) fresh own h may = refl
send_says setting feeder (Sending hand) (Pop r (Buffer b parcel)) fresh own h may = absurd may
send_says setting feeder (Sending hand) (Full r) fresh own h may = h
send_says setting feeder (TurnsBack hand ring) (Give b outcome parcel) fresh own h may = refl
send_says setting feeder (TurnsBack hand ring) (Push r (Buffer b parcel)) fresh own h may = absurd may
send_says setting feeder (TurnsBack hand ring) (Pop r (Buffer b parcel)) fresh own h may = absurd may
send_says setting feeder phase act fresh own h may = absurd may

-- The tick role and that of the first token have nothing

tick_says : (setting : Setting) (act : Act) (fresh : FrameId) (own : Option (ℕ × Load))
    → own ≡ None → MayTick setting act
    → own_load_after fresh act own ≡ None
tick_says setting (Push r (Buffer b parcel)) fresh own h may = absurd may
tick_says setting (Pop (Lane f p) (Buffer b parcel)) fresh own h may = absurd may
tick_says setting (Pop r (Number n)) fresh own h may = h
tick_says setting (Empty a) fresh own h may = h
tick_says setting (Post a b) fresh own h may = h
tick_says setting act fresh own h may = absurd may

lead_says : (act : Act) (fresh : FrameId) (own : Option (ℕ × Load)) → own ≡ None → MayLead act
    → own_load_after fresh act own ≡ None
lead_says (Push r (Buffer b parcel)) fresh own h may = absurd may
lead_says (Pop r (Buffer b parcel)) fresh own h may = absurd may
lead_says (Split a) fresh own h may = h
lead_says (Join a) fresh own h may = h
lead_says (Look w v t) fresh own h may = h
lead_says act fresh own h may = absurd may

-- a role's own log says just what its phase says
pub own_says : (setting : Setting) (role : ℕ) (kind : RoleKind) (log : Log) → IsKind setting role kind log
    → own_load setting role log ≡ held_in setting role kind log
own_says setting role Receives [] h = refl
own_says setting role kind [] h = refl
own_says setting role Receives (act ∷ before) h =
    elim h.0 [
      | inl mark ↦
          mark_says setting role (receive_phase setting before) act (block_frame setting role before)
          (own_load setting role before) (own_says setting role Receives before h.1) mark.0 mark.1
      | inr block ↦
          receive_says setting role block.0 (receive_phase setting before) act (own_load setting role before)
          (own_says setting role Receives before h.1)
          (in_block setting role block.0 (receive_phase setting before) act block.2)
    ]
own_says setting role Sends (act ∷ before) h =
    send_says setting role (send_phase before) act (block_frame setting role before) (own_load setting role before)
    (own_says setting role Sends before h.1) h.0
own_says setting role Handles (act ∷ before) h =
    core_says setting role before act (block_frame setting role before) (own_load setting role before)
    (core_hand before) (own_says setting role Handles before h.1) h.0
own_says setting role Ticks (act ∷ before) h =
    tick_says setting act (block_frame setting role before) (own_load setting role before)
    (own_says setting role Ticks before h.1) h.0
own_says setting role Leads (act ∷ before) h =
    lead_says act (block_frame setting role before) (own_load setting role before)
    (own_says setting role Leads before h.1) h.0

-- A role takes or pops only while it has nothing

abbrev pub IsFreeFor : Option (ℕ × Load) → Act → Type 0
IsFreeFor own (Take b) = own ≡ None
IsFreeFor own (Pop r (Buffer b parcel)) = own ≡ None
IsFreeFor own _ = Unit {0}

receive_frees : (setting : Setting) (port : ℕ) (e : Entry) (phase : ReceivePhase) (act : Act) (own : Option (ℕ × Load))
    → own ≡ taken_in port phase → InBlock setting port e phase act
    → IsFreeFor own act
receive_frees setting port e phase act own h (Takes done index seen b may) = h
receive_frees setting port e phase act own h (AsksFirst done f v t may) = tt
receive_frees setting port e phase act own h (AsksOn done k w v t may) = tt
receive_frees setting port e phase act own h (SeeksOn done k w v t may) = tt
receive_frees setting port e phase act own h (Enters done buf ring b parcel may) = tt
receive_frees setting port e phase act own h (FindsFull done buf ring may) = tt
receive_frees setting port e phase act own h (Leaves done buf b q parcel may) = tt
receive_frees setting port e phase act own h (GivesBack done buf ring b outcome parcel may) = tt

mark_frees : (setting : Setting) (feeder : ℕ) (act : Act) (own : Option (ℕ × Load)) → IsMarkAct setting feeder act
    → IsFreeFor own act
mark_frees setting feeder (Take b) own may = absurd may
mark_frees setting feeder (Push r (Buffer b parcel)) own may = tt
mark_frees setting feeder (Pop r (Buffer b parcel)) own may = absurd may
mark_frees setting feeder act own may = tt

core_frees : (setting : Setting) (role : ℕ) (before : Log) (act : Act) (own : Option (ℕ × Load))
    → own ≡ handled_in (core_hand before) → MayHandle setting role before act
    → IsFreeFor own act
core_frees setting role before (Take b) own h may = absurd may
core_frees setting role before (Push r (Buffer b parcel)) own h may = tt
core_frees setting role before (Pop (Lane f p) (Buffer b parcel)) own h may = h ∙ ap handled_in may.free
core_frees setting role before (Pop (Output f) (Buffer b parcel)) own h may = absurd may
core_frees setting role before (Pop (Mail f) (Buffer b parcel)) own h may = absurd may
core_frees setting role before act own h may = tt

send_frees : (setting : Setting) (feeder : ℕ) (phase : SendPhase) (act : Act) (own : Option (ℕ × Load))
    → own ≡ moved_in phase → MaySend setting feeder phase act
    → IsFreeFor own act
send_frees setting feeder Free (Take b) own h may = absurd may
send_frees setting feeder Free (Push r (Buffer b parcel)) own h may = tt
send_frees setting feeder Free (Pop (Lane f p) (Buffer b parcel)) own h may = absurd may
send_frees setting feeder Free (Pop (Output f) (Buffer b parcel)) own h may = h
send_frees setting feeder Free (Pop (Mail f) (Buffer b parcel)) own h may = absurd may
send_frees setting feeder (Sending hand) (Take b) own h may = absurd may
send_frees setting feeder (Sending hand) (Push r (Buffer b parcel)) own h may = tt
send_frees setting feeder (Sending hand) (Pop r (Buffer b parcel)) own h may = absurd may
send_frees setting feeder (TurnsBack hand ring) (Take b) own h may = absurd may
send_frees setting feeder (TurnsBack hand ring) (Push r (Buffer b parcel)) own h may = tt
send_frees setting feeder (TurnsBack hand ring) (Pop r (Buffer b parcel)) own h may = absurd may
send_frees setting feeder phase act own h may = tt

tick_frees : (setting : Setting) (act : Act) (own : Option (ℕ × Load)) → MayTick setting act → IsFreeFor own act
tick_frees setting (Take b) own may = absurd may
tick_frees setting (Push r (Buffer b parcel)) own may = tt
tick_frees setting (Pop (Lane f p) (Buffer b parcel)) own may = absurd may
tick_frees setting (Pop (Output f) (Buffer b parcel)) own may = absurd may
tick_frees setting (Pop (Mail f) (Buffer b parcel)) own may = absurd may
tick_frees setting act own may = tt

lead_frees : (act : Act) (own : Option (ℕ × Load)) → MayLead act → IsFreeFor own act
lead_frees (Take b) own may = absurd may
lead_frees (Push r (Buffer b parcel)) own may = tt
lead_frees (Pop r (Buffer b parcel)) own may = absurd may
lead_frees act own may = tt

pub frees_of : (setting : Setting) (role : ℕ) (kind : RoleKind) (log : Log) (act : Act)
    → IsKind setting role kind (act ∷ log)
    → IsFreeFor (own_load setting role log) act
frees_of setting role Receives log act h =
    elim h.0 [
      | inl mark ↦ mark_frees setting role act (own_load setting role log) mark.1
      | inr block ↦
          receive_frees setting role block.0 (receive_phase setting log) act (own_load setting role log)
          (own_says setting role Receives log h.1)
          (in_block setting role block.0 (receive_phase setting log) act block.2)
    ]
frees_of setting role Sends log act h =
    send_frees setting role (send_phase log) act (own_load setting role log) (own_says setting role Sends log h.1) h.0
frees_of setting role Handles log act h =
    core_frees setting role log act (own_load setting role log) (own_says setting role Handles log h.1) h.0
frees_of setting role Ticks log act h = tick_frees setting act (own_load setting role log) h.0
frees_of setting role Leads log act h = lead_frees act (own_load setting role log) h.0
