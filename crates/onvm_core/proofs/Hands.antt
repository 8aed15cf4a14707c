-- What a role's blocks say of the buffer that it has.
use Rattle.std.proofs.Common.{◌≡◌, ℕ, ◌+◌, inl, inr, [], ◌∷◌, refl, sym, ◌∙◌, ap, subst, Option, Some, None}
use Rattle.std.specs.Prelude.{◌==◌}
use Rattle.std.proofs.lemmas.Bool.{cases_Bool}
use Rattle.onvm_base.specs.declared.ids.BufId.{BufId}
use Rattle.onvm_base.specs.declared.ids.FrameId.{FrameId}
use Rattle.onvm_core.specs.declared.parcel.Parcel.{Parcel}
use Rattle.onvm_core.specs.declared.step.Item.TheVariants.{Buffer, Number}
use Rattle.onvm_core.specs.declared.step.Act.{Act}
use Rattle.onvm_core.specs.declared.step.Act.TheVariants.{Give, Push, Full, Pop, Empty, Look}
use Rattle.onvm_core.specs.Layouts.{feeder_count}
use Rattle.onvm_core.specs.Logs.{Setting, Log, Hand, entry_after, entry_parcel, IsNumbered}
use Rattle.onvm_core.specs.Receiving.{ReceivePhase, phase_after_ask, phase_after_seek, receive_after, receive_phase, done_count, IsBetween, IsMarkAct}
use Rattle.onvm_core.specs.Handling.{core_hand, hand_after, MayHandle}
use Rattle.onvm_core.specs.Sending.{SendPhase, send_after, send_phase, MaySend}
use Rattle.onvm_core.specs.Blocks.{RoleKind, kind_of, MayTick, MayLead, MayFollow, IsOfBlocks}
use Rattle.onvm_core.specs.Frames.{Load, block_frame, frame_of}
use Rattle.onvm_base.specs.declared.outcome.Record.{Record}
use Rattle.onvm_base.specs.declared.outcome.Outcome.TheVariants.{Sent, Dropped, Throttled, RingFull, PoolEmpty}
use Rattle.onvm_base.specs.declared.ids.RingId.TheVariants.{Lane, Output, Mail}
use Rattle.onvm_core.specs.declared.layout.Word.TheVariants.{Post as PostWord}
use Rattle.onvm_core.specs.declared.entry.Entry.{Entry}
use Rattle.onvm_core.specs.Receiving.ReceivePhase.{Between, Took, Barred}
use Rattle.onvm_core.specs.Sending.SendPhase.{Free, Moves as Sending, TurnsBack}
use Rattle.onvm_core.specs.Blocks.RoleKind.{Receives, Sends, Handles, Ticks, Leads}
use Rattle.onvm_core.specs.Frames.Load.{Fresh, Loaded}
use Rattle.onvm_core.proofs.Loads.{own_load, own_load_after}
use Rattle.onvm_core.proofs.InBlock.{InBlock, in_block}
use Rattle.onvm_core.proofs.InBlock.InBlock.{AsksFirst, AsksOn, SeeksOn, Takes, Enters, FindsFull, Leaves, GivesBack}

-- Receive roles

abbrev pub HasTaken : ℕ → Option (ℕ × Load) → ReceivePhase → Type 0
HasTaken port own (Took done buf) = own ≡ Some (buf, Fresh (record { port = record { 0 = port }; number = done + 1 }))
HasTaken port own (Barred done buf ring) =
    own ≡ Some (buf, Fresh (record { port = record { 0 = port }; number = done + 1 }))
HasTaken port own phase = Unit {0}

asked_free : (setting : Setting) (port done k : ℕ) (told : Option Record) (own : Option (ℕ × Load))
    → HasTaken port own (phase_after_ask setting done k told)
asked_free setting port done k None own =
    elim (cases_Bool (k + 1 == feeder_count setting.layout)) [ inl met ↦ rw met tt | inr unmet ↦ rw unmet tt ]
asked_free setting port done k (Some told) own = tt

sought_free : (port done k seen : ℕ) (told : Option Record) (own : Option (ℕ × Load))
    → HasTaken port own (phase_after_seek done k seen told)
sought_free port done k seen None own = elim (cases_Bool (seen == 0)) [ inl met ↦ rw met tt | inr unmet ↦ rw unmet tt ]
sought_free port done k seen (Some told) own = tt

between_free : (setting : Setting) (port done : ℕ) (act : Act) (own : Option (ℕ × Load))
    → HasTaken port own (receive_after setting (Between done) act)
between_free setting port done (Look (PostWord f) seen told) own = asked_free setting port done 0 told own
between_free setting port done act own = tt

receive_for : (setting : Setting) (port : ℕ) (e : Entry) (phase : ReceivePhase) (act : Act) (own : Option (ℕ × Load))
    → HasTaken port own phase → InBlock setting port e phase act
    → HasTaken port (own_load_after (record { port = record { 0 = port }; number = done_count phase + 1 }) act own)
    (receive_after setting phase act)
receive_for setting port e phase act own h (AsksFirst done f v t may) = asked_free setting port done 0 t own
receive_for setting port e phase act own h (AsksOn done k w v t may) = asked_free setting port done k t own
receive_for setting port e phase act own h (SeeksOn done k w v t may) = sought_free port done k v t own
receive_for setting port e phase act own h (Takes done index seen b may) = refl
receive_for setting port e phase act own h (Enters done buf ring b parcel may) = tt
receive_for setting port e phase act own h (FindsFull done buf ring may) = h
receive_for setting port e phase act own h (Leaves done buf b q parcel may) = tt
receive_for setting port e phase act own h (GivesBack done buf ring b outcome parcel may) = tt

receive_mark : (setting : Setting) (port : ℕ) (phase : ReceivePhase) (act : Act) (own after : Option (ℕ × Load))
    → IsBetween phase
    → HasTaken port after (receive_after setting phase act)
receive_mark setting port (Between done) act own after h = between_free setting port done act after
receive_mark setting port phase act own after h = absurd h

-- the log is of this kind
abbrev pub IsKind : Setting → ℕ → RoleKind → Log → Type 0
IsKind setting role kind [] = Unit {0}
IsKind setting role kind (act ∷ before) = MayFollow setting role kind before act × IsKind setting role kind before

pub is_kind : (setting : Setting) (role : ℕ) (log : Log) (kind : RoleKind)
    → kind_of setting.layout role ≡ kind → IsOfBlocks setting role log
    → IsKind setting role kind log
is_kind setting role [] kind e h = tt
is_kind setting role (act ∷ before) kind e h =
    (subst (λ k. MayFollow setting role k before act) e h.0, is_kind setting role before kind e h.1)

pub receive_has : (setting : Setting) (port : ℕ) (log : Log) → IsKind setting port Receives log
    → HasTaken port (own_load setting port log) (receive_phase setting log)
receive_has setting port [] h = tt
receive_has setting port (act ∷ before) h =
    elim h.0 [
      | inl mark ↦
          receive_mark setting port (receive_phase setting before) act (own_load setting port before)
          (own_load setting port (act ∷ before)) mark.0
      | inr block ↦
          receive_for setting port block.0 (receive_phase setting before) act (own_load setting port before)
          (receive_has setting port before h.1)
          (in_block setting port block.0 (receive_phase setting before) act block.2)
    ]

-- Cores

abbrev pub HasHand : Option (ℕ × Load) → Option Hand → Type 0
HasHand own None = Unit {0}
HasHand own (Some hand) = own ≡ Some (hand.buf, Loaded hand.parcel)

core_step : (setting : Setting) (role : ℕ) (before : Log) (act : Act) (fresh : FrameId) (own : Option (ℕ × Load))
    (hand : Option Hand) → MayHandle setting role before act → HasHand own hand
    → HasHand (own_load_after fresh act own) (hand_after act hand)
core_step setting role before (Pop (Lane f p) (Buffer b parcel)) fresh own hand may h = refl
core_step setting role before (Push (Output f) item) fresh own hand may h = tt
core_step setting role before (Push (Mail f) (Number n)) fresh own hand may h = h
core_step setting role before (Full a) fresh own hand may h = h
core_step setting role before (Empty a) fresh own hand may h = h
core_step setting role before (Look a b c) fresh own hand may h = h
core_step setting role before act fresh own hand may h = absurd may

pub core_has : (setting : Setting) (role : ℕ) (log : Log) → IsKind setting role Handles log
    → HasHand (own_load setting role log) (core_hand log)
core_has setting role [] h = tt
core_has setting role (act ∷ before) h =
    core_step setting role before act (block_frame setting role before) (own_load setting role before)
    (core_hand before) h.0 (core_has setting role before h.1)

-- Transmit roles

abbrev pub HasSend : Option (ℕ × Load) → SendPhase → Type 0
HasSend own Free = Unit {0}
HasSend own (Sending hand) = own ≡ Some (hand.buf, Loaded hand.parcel)
HasSend own (TurnsBack hand ring) = own ≡ Some (hand.buf, Loaded hand.parcel)

send_step : (setting : Setting) (feeder : ℕ) (phase : SendPhase) (act : Act) (fresh : FrameId) (own : Option (ℕ × Load))
    → MaySend setting feeder phase act → HasSend own phase
    → HasSend (own_load_after fresh act own) (send_after phase act)
send_step setting feeder Free (Pop (Output f) (Buffer b parcel)) fresh own may h = refl
send_step setting feeder Free act fresh own may h = tt
send_step setting feeder (Sending hand) (Give b outcome parcel) fresh own may h = tt
send_step setting feeder (Sending hand) (Push r i) fresh own may h = tt
send_step setting feeder (Sending hand) (Full r) fresh own may h = h
send_step setting feeder (TurnsBack hand ring) (Give b outcome parcel) fresh own may h = tt
send_step setting feeder phase act fresh own may h = absurd may

pub send_has : (setting : Setting) (role : ℕ) (log : Log) → IsKind setting role Sends log
    → HasSend (own_load setting role log) (send_phase log)
send_has setting role [] h = tt
send_has setting role (act ∷ before) h =
    send_step setting role (send_phase before) act (block_frame setting role before) (own_load setting role before) h.0
    (send_has setting role before h.1)

-- What a role pushes or gives is what it has

abbrev pub Carries : Option (ℕ × Load) → ℕ → FrameId → Type 0
Carries own buf frame = (what : Load) × (own ≡ Some (buf, what)) × (frame_of what ≡ frame)

-- the buffer and the frame that an act lets go
abbrev pub LetsGo : Option (ℕ × Load) → Act → Type 0
LetsGo own (Give b outcome parcel) = Carries own b.0 parcel.frame
LetsGo own (Push ring (Buffer b parcel)) = Carries own b.0 parcel.frame
LetsGo own _ = Unit {0}

fresh_carries : (setting : Setting) (port done buf : ℕ) (own : Option (ℕ × Load)) (e : Entry) (b : BufId)
    (parcel : Parcel)
    → IsNumbered setting → entry_after setting port done ≡ Some e
    → own ≡ Some (buf, Fresh (record { port = record { 0 = port }; number = done + 1 })) → b.0 ≡ buf
    → parcel ≡ entry_parcel e
    → Carries own b.0 parcel.frame
fresh_carries setting port done buf own e b parcel numbered found h one two = (
  Fresh (record { port = record { 0 = port }; number = done + 1 }),
  h ∙ ap (λ (n : ℕ). Some (n, Fresh (record { port = record { 0 = port }; number = done + 1 }))) (sym one),
  sym (numbered port done e found) ∙ ap (λ (p : Parcel). p.frame) (sym two),
)

receive_lets : (setting : Setting) (port : ℕ) (e : Entry) (phase : ReceivePhase) (act : Act) (own : Option (ℕ × Load))
    → IsNumbered setting → entry_after setting port (done_count phase) ≡ Some e → HasTaken port own phase
    → InBlock setting port e phase act
    → LetsGo own act
receive_lets setting port e phase act own numbered found h (AsksFirst done f v t may) = tt
receive_lets setting port e phase act own numbered found h (AsksOn done k w v t may) = tt
receive_lets setting port e phase act own numbered found h (SeeksOn done k w v t may) = tt
receive_lets setting port e phase act own numbered found h (Takes done index seen b may) = tt
receive_lets setting port e phase act own numbered found h (FindsFull done buf ring may) = tt
receive_lets setting port e phase act own numbered found h (Enters done buf ring b parcel may) =
    fresh_carries setting port done buf own e b parcel numbered found h may.0 may.1
receive_lets setting port e phase act own numbered found h (Leaves done buf b q parcel may) =
    fresh_carries setting port done buf own e b parcel numbered found h may.0 may.1
receive_lets setting port e phase act own numbered found h (GivesBack done buf ring b outcome parcel may) =
    fresh_carries setting port done buf own e b parcel numbered found h may.0 may.2

mark_lets : (setting : Setting) (feeder : ℕ) (act : Act) (own : Option (ℕ × Load)) → IsMarkAct setting feeder act
    → LetsGo own act
mark_lets setting feeder (Give b outcome parcel) own may = absurd may
mark_lets setting feeder (Push r (Buffer b parcel)) own may = absurd may
mark_lets setting feeder act own may = tt

loaded_carries : (own : Option (ℕ × Load)) (hand : Hand) (b : BufId) (frame : FrameId)
    → own ≡ Some (hand.buf, Loaded hand.parcel) → hand.buf ≡ b.0 → hand.parcel.frame ≡ frame
    → Carries own b.0 frame
loaded_carries own hand b frame h one two =
    (Loaded hand.parcel, h ∙ ap (λ (n : ℕ). Some (n, Loaded hand.parcel)) one, two)

core_lets : (setting : Setting) (role : ℕ) (before : Log) (act : Act) (own : Option (ℕ × Load))
    → HasHand own (core_hand before) → MayHandle setting role before act
    → LetsGo own act
core_lets setting role before (Push (Output f) (Buffer b parcel)) own h may =
    loaded_carries own may.hand b parcel.frame (subst (HasHand own) may.held h) may.same
    (sym (ap (λ (p : Parcel). p.frame) may.handled.same))
core_lets setting role before (Push (Mail f) (Buffer b parcel)) own h may = absurd may
core_lets setting role before (Push (Lane f p) (Buffer b parcel)) own h may = absurd may
core_lets setting role before (Give b outcome parcel) own h may = absurd may
core_lets setting role before act own h may = tt

send_lets : (setting : Setting) (feeder : ℕ) (phase : SendPhase) (act : Act) (own : Option (ℕ × Load))
    → HasSend own phase → MaySend setting feeder phase act
    → LetsGo own act
send_lets setting feeder Free (Give b outcome parcel) own h may = absurd may
send_lets setting feeder Free (Push r (Buffer b parcel)) own h may = absurd may
send_lets setting feeder (Sending hand) (Give b (Sent q) parcel) own h may =
    loaded_carries own hand b parcel.frame h (sym may.0) (ap (λ (p : Parcel). p.frame) (sym may.2))
send_lets setting feeder (Sending hand) (Give b (Dropped f w) parcel) own h may =
    loaded_carries own hand b parcel.frame h (sym may.0) (ap (λ (p : Parcel). p.frame) (sym may.3))
send_lets setting feeder (Sending hand) (Give b (Throttled a c d) parcel) own h may = absurd may
send_lets setting feeder (Sending hand) (Give b (RingFull r) parcel) own h may = absurd may
send_lets setting feeder (Sending hand) (Give b (PoolEmpty) parcel) own h may = absurd may
send_lets setting feeder (Sending hand) (Push r (Buffer b parcel)) own h may =
    loaded_carries own hand b parcel.frame h (sym may.0) (ap (λ (p : Parcel). p.frame) (sym may.1.2))
send_lets setting feeder (TurnsBack hand ring) (Give b outcome parcel) own h may =
    loaded_carries own hand b parcel.frame h (sym may.0) (ap (λ (p : Parcel). p.frame) (sym may.2.2))
send_lets setting feeder (TurnsBack hand ring) (Push r (Buffer b parcel)) own h may = absurd may
send_lets setting feeder phase act own h may = tt

tick_lets : (setting : Setting) (act : Act) (own : Option (ℕ × Load)) → MayTick setting act → LetsGo own act
tick_lets setting (Give b outcome parcel) own may = absurd may
tick_lets setting (Push r (Buffer b parcel)) own may = absurd may
tick_lets setting act own may = tt

lead_lets : (act : Act) (own : Option (ℕ × Load)) → MayLead act → LetsGo own act
lead_lets (Give b outcome parcel) own may = absurd may
lead_lets (Push r (Buffer b parcel)) own may = absurd may
lead_lets act own may = tt

by_kind : (setting : Setting) (role : ℕ) (kind : RoleKind) (log : Log) (act : Act)
    → IsNumbered setting → IsKind setting role kind (act ∷ log)
    → LetsGo (own_load setting role log) act
by_kind setting role Receives log act numbered h =
    elim h.0 [
      | inl mark ↦ mark_lets setting role act (own_load setting role log) mark.1
      | inr block ↦
          receive_lets setting role block.0 (receive_phase setting log) act (own_load setting role log) numbered block.1
          (receive_has setting role log h.1) (in_block setting role block.0 (receive_phase setting log) act block.2)
    ]
by_kind setting role Sends log act numbered h =
    send_lets setting role (send_phase log) act (own_load setting role log) (send_has setting role log h.1) h.0
by_kind setting role Handles log act numbered h =
    core_lets setting role log act (own_load setting role log) (core_has setting role log h.1) h.0
by_kind setting role Ticks log act numbered h = tick_lets setting act (own_load setting role log) h.0
by_kind setting role Leads log act numbered h = lead_lets act (own_load setting role log) h.0

-- whatever a role's log says of the act that comes next, it lets go what it has
pub lets_go : (setting : Setting) (role : ℕ) (log : Log) (act : Act)
    → IsNumbered setting → IsOfBlocks setting role (act ∷ log)
    → LetsGo (own_load setting role log) act
lets_go setting role log act numbered h =
    by_kind setting role (kind_of setting.layout role) log act numbered
    (is_kind setting role (act ∷ log) (kind_of setting.layout role) refl h)
