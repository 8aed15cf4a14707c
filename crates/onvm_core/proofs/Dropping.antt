-- Each drop is the move's: a parcel that was popped from an output ring has its last crumb of that function.
use Rattle.std.proofs.Common.{◌≡◌, ℕ, inl, inr, [], ◌∷◌, ◌++◌, refl, sym, ◌∙◌, ap, subst, Some}
use Rattle.std.specs.Prelude.{◌==◌}
use Rattle.std.proofs.lemmas.Bool.{cases_Bool}
use Rattle.onvm_base.specs.declared.ids.RingId.{RingId}
use Rattle.onvm_base.specs.declared.ids.RingId.TheVariants.{Lane, Output}
use Rattle.onvm_base.specs.declared.ids.BufId.{BufId}
use Rattle.onvm_base.specs.declared.ids.FnId.{FnId}
use Rattle.onvm_base.specs.declared.moves.Move.TheVariants.{End}
use Rattle.onvm_base.specs.declared.outcome.Outcome.{Outcome}
use Rattle.onvm_base.specs.declared.outcome.Outcome.TheVariants.{Dropped, RingFull}
use Rattle.onvm_base.specs.declared.outcome.Why.{Why}
use Rattle.onvm_core.specs.declared.entry.Entry.{Entry}
use Rattle.onvm_core.specs.declared.parcel.Parcel.{Parcel}
use Rattle.onvm_core.specs.declared.parcel.Crumb.{Crumb}
use Rattle.onvm_core.specs.declared.step.Item.{Item}
use Rattle.onvm_core.specs.declared.step.Item.TheVariants.{Buffer, Number}
use Rattle.onvm_core.specs.declared.step.Act.{Act}
use Rattle.onvm_core.specs.declared.step.Act.TheVariants.{Split, Give, Push, Full, Pop}
use Rattle.onvm_core.specs.declared.step.Step.{Step}
use Rattle.onvm_core.specs.History.{History, pushes, pops, content_of}
use Rattle.onvm_core.specs.Layouts.{same_ring}
use Rattle.onvm_core.specs.Lawful.{AllowsAct, IsLawful}
use Rattle.onvm_core.specs.Logs.{IsHandled, Setting, Log, Hand, log_of, last_crumb}
use Rattle.onvm_core.specs.Receiving.{ReceivePhase, receive_phase, MayReceiveFor}
use Rattle.onvm_core.specs.Receiving.ReceivePhase.{Took, Barred}
use Rattle.onvm_core.specs.Handling.{MayHandle, crumb_place}
use Rattle.onvm_core.specs.Sending.{SendPhase, send_after, send_phase, MaySend, IsNext}
use Rattle.onvm_core.specs.Sending.SendPhase.{Free, Moves as Sending, TurnsBack}
use Rattle.onvm_core.specs.Blocks.{RoleKind, kind_of, MayFollow, AllOfBlocks}
use Rattle.onvm_core.specs.Blocks.RoleKind.{Receives, Sends, Handles}
use Rattle.onvm_core.specs.Earned.{IsDropped}
use Rattle.onvm_core.proofs.Contents.{same_ring_is, content_moves}
use Rattle.onvm_core.proofs.Balance.{blocks_before}
use Rattle.onvm_core.proofs.Loads.{Each, Each-append, Each_right, first_of}
use Rattle.onvm_core.proofs.Earning.{acting}
use Rattle.onvm_core.proofs.Lists.{last_of_push}

-- the parcel's last crumb is of the function
abbrev pub HasLast : FnId → Parcel → Type 0
HasLast f parcel = (crumb : Crumb) × (last_crumb parcel.trail ≡ Some crumb) × (crumb.function ≡ f)

abbrev pub WasHandled : RingId → Item → Type 0
WasHandled (Output f) (Buffer b parcel) = HasLast f parcel
WasHandled (Output f) (Number n) = Unit {0}
WasHandled ring item = Unit {0}

handled_last : (f : FnId) (place : ℕ) (was parcel : Parcel) → IsHandled f place was parcel → HasLast f parcel
handled_last f place was parcel handled =
    let crumb : Crumb = record { function = f; place = place; verdict = handled.verdict } in
    (crumb, ap (λ (p : Parcel). last_crumb p.trail) handled.same ∙ last_of_push was.trail crumb, refl)

lane_handled : (ring : RingId) (f : FnId) (feeder : ℕ) (item : Item) → ring ≡ Lane f feeder → WasHandled ring item
lane_handled ring f feeder item is = subst (λ (r : RingId). WasHandled r item) (sym is) tt

receive_handled : (setting : Setting) (port : ℕ) (e : Entry) (phase : ReceivePhase) (ring : RingId) (item : Item)
    → MayReceiveFor setting port e phase (Push ring item)
    → WasHandled ring item
receive_handled setting port e (Took done buf) ring (Buffer b parcel) may =
    lane_handled ring may.2.function port (Buffer b parcel) may.2.lane
receive_handled setting port e (Took done buf) ring (Number n) may = absurd may
receive_handled setting port e phase ring item may = absurd may

send_handled : (setting : Setting) (feeder : ℕ) (phase : SendPhase) (ring : RingId) (item : Item)
    → MaySend setting feeder phase (Push ring item)
    → WasHandled ring item
send_handled setting feeder (Sending hand) ring (Buffer b parcel) may =
    lane_handled ring may.1.1.function feeder (Buffer b parcel) may.1.1.lane
send_handled setting feeder (Sending hand) ring (Number n) may = absurd may
send_handled setting feeder phase ring item may = absurd may

core_handled : (setting : Setting) (role : ℕ) (log : Log) (ring : RingId) (item : Item)
    → MayHandle setting role log (Push ring item)
    → WasHandled ring item
core_handled setting role log (Output f) (Buffer b parcel) may =
    handled_last f (crumb_place f log) may.hand.parcel parcel may.handled
core_handled setting role log (Output f) (Number n) may = tt
core_handled setting role log ring item may = tt

-- what is pushed on an output ring was handled by its function
push_handled : (setting : Setting) (role : ℕ) (kind : RoleKind) (log : Log) (ring : RingId) (item : Item)
    → MayFollow setting role kind log (Push ring item)
    → WasHandled ring item
push_handled setting role Receives log ring item may =
    elim may [
      | inl mark ↦ absurd mark.1
      | inr block ↦ receive_handled setting role block.0 (receive_phase setting log) ring item block.2
    ]
push_handled setting role Sends log ring item may = send_handled setting role (send_phase log) ring item may
push_handled setting role Handles log ring item may = core_handled setting role log ring item may
push_handled setting role kind log ring item may = absurd may

pushes_handled : (setting : Setting) (role : ℕ) (kind : RoleKind) (log : Log) (ring : RingId) (act : Act)
    → MayFollow setting role kind log act
    → Each (WasHandled ring) (pushes ring act)
pushes_handled setting role kind log ring (Push r item) may =
    elim (cases_Bool (same_ring r ring)) [
      | inl met ↦
          let handled : WasHandled ring item =
          subst (λ (s : RingId). WasHandled s item) (same_ring_is r ring met)
          (push_handled setting role kind log r item may) in
          rw met (handled, tt)
      | inr unmet ↦ rw unmet tt
    ]
pushes_handled setting role kind log ring act may = tt

content_handled : (setting : Setting) (past : History)
    → IsLawful setting.layout past → AllOfBlocks setting past → (ring : RingId)
    → Each (WasHandled ring) (content_of ring past)
content_handled setting [] lawful blocks ring = tt
content_handled setting (step ∷ before) lawful blocks ring =
    let pushed : Each (WasHandled ring) (pushes ring step.act) =
    pushes_handled setting step.role (kind_of setting.layout step.role) (log_of step.role before) ring step.act
    (acting setting step before step.act refl blocks).0 in
    let all : Each (WasHandled ring) (content_of ring before ++ pushes ring step.act) =
    Each-append (WasHandled ring) (content_of ring before) (pushes ring step.act)
    (content_handled setting before lawful.1 (blocks_before setting step before blocks) ring) pushed in
    Each_right (WasHandled ring) (pops ring step.act) (content_of ring (step ∷ before))
    (subst (Each (WasHandled ring)) (sym (content_moves setting.layout ring step before lawful)) all)

-- the parcel that a transmit role moves was handled by the function from whose output ring it came
abbrev MovesHandled : SendPhase → Type 0
MovesHandled (Sending hand) = HasLast hand.function hand.parcel
MovesHandled Free = Unit {0}
MovesHandled (TurnsBack hand ring) = Unit {0}

moves_step : (phase : SendPhase) (act : Act)
    → MovesHandled phase
    → ((f : FnId) (b : BufId) (parcel : Parcel) → act ≡ Pop (Output f) (Buffer b parcel) → HasLast f parcel)
    → MovesHandled (send_after phase act)
moves_step Free (Pop (Output f) (Buffer b parcel)) h popped = popped f b parcel refl
moves_step (Sending hand) (Give a b c) h popped = tt
moves_step (Sending hand) (Push a b) h popped = tt
moves_step (Sending hand) (Full a) h popped = tt
moves_step (Sending hand) act h popped = h
moves_step (TurnsBack hand ring) (Split a) h popped = tt
moves_step phase act h popped = tt

popped_handled : (setting : Setting) (step : Step) (before : History)
    → IsLawful setting.layout (step ∷ before) → AllOfBlocks setting before → (f : FnId) (b : BufId) (parcel : Parcel)
    → step.act ≡ Pop (Output f) (Buffer b parcel)
    → HasLast f parcel
popped_handled setting step before lawful blocks f b parcel acts =
    let allowed : AllowsAct setting.layout before step.role (Pop (Output f) (Buffer b parcel)) =
    subst (AllowsAct setting.layout before step.role) acts lawful.0.allowed in
    first_of (WasHandled (Output f)) (content_of (Output f) before) (Buffer b parcel) allowed.first
    (content_handled setting before lawful.1 blocks (Output f))

moves_handled : (setting : Setting) (past : History)
    → IsLawful setting.layout past → AllOfBlocks setting past → (role : ℕ)
    → MovesHandled (send_phase (log_of role past))
moves_handled setting [] lawful blocks role = tt
moves_handled setting (step ∷ before) lawful blocks role =
    let was : AllOfBlocks setting before = blocks_before setting step before blocks in
    let earlier : MovesHandled (send_phase (log_of role before)) = moves_handled setting before lawful.1 was role in
    elim (cases_Bool (step.role == role)) [
      | inl met ↦
          rw met (moves_step (send_phase (log_of role before)) step.act earlier
          (popped_handled setting step before lawful was))
      | inr unmet ↦ rw unmet earlier
    ]

dropped_hand : (setting : Setting) (hand : Hand) (f : FnId) (why : Why) (parcel : Parcel)
    → HasLast hand.function hand.parcel → IsNext setting hand.parcel (End why) → f ≡ hand.function
    → parcel ≡ hand.parcel
    → IsDropped setting parcel f why
dropped_hand setting hand f why parcel last next of is =
    subst (λ (p : Parcel). IsDropped setting p f why) (sym is)
    (record { crumb = last.0; last = last.1; by = last.2 ∙ sym of; ends = next })

receive_undropped : (setting : Setting) (port : ℕ) (e : Entry) (phase : ReceivePhase) (b : BufId) (f : FnId)
    (why : Why) (parcel : Parcel) → MayReceiveFor setting port e phase (Give b (Dropped f why) parcel)
    → ⊥
receive_undropped setting port e (Barred done buf r) b f why parcel may =
    let off : ◌≡◌ {A = Outcome} (Dropped f why) (RingFull r) = may.1 in cc
receive_undropped setting port e phase b f why parcel may = may

send_dropped : (setting : Setting) (feeder : ℕ) (phase : SendPhase) (b : BufId) (f : FnId) (why : Why) (parcel : Parcel)
    → MovesHandled phase → MaySend setting feeder phase (Give b (Dropped f why) parcel)
    → IsDropped setting parcel f why
send_dropped setting feeder Free b f why parcel h may = absurd may
send_dropped setting feeder (Sending hand) b f why parcel h may =
    dropped_hand setting hand f why parcel h may.1 may.2 may.3
send_dropped setting feeder (TurnsBack hand r) b f why parcel h may =
    absurd (let off : ◌≡◌ {A = Outcome} (Dropped f why) (RingFull r) = may.1 in cc)

kind_dropped : (setting : Setting) (role : ℕ) (kind : RoleKind) (log : Log) (b : BufId) (f : FnId) (why : Why)
    (parcel : Parcel) → MovesHandled (send_phase log) → MayFollow setting role kind log (Give b (Dropped f why) parcel)
    → IsDropped setting parcel f why
kind_dropped setting role Receives log b f why parcel h may =
    elim may [
      | inl mark ↦ absurd mark.1
      | inr block ↦ absurd (receive_undropped setting role block.0 (receive_phase setting log) b f why parcel block.2)
    ]
kind_dropped setting role Sends log b f why parcel h may =
    send_dropped setting role (send_phase log) b f why parcel h may
kind_dropped setting role kind log b f why parcel h may = absurd may

-- each drop is the move's
pub is_dropped : (setting : Setting) (step : Step) (before : History) (b : BufId) (f : FnId) (why : Why)
    (parcel : Parcel)
    → IsLawful setting.layout before → AllOfBlocks setting (step ∷ before) → step.act ≡ Give b (Dropped f why) parcel
    → IsDropped setting parcel f why
is_dropped setting step before b f why parcel lawful blocks acts =
    kind_dropped setting step.role (kind_of setting.layout step.role) (log_of step.role before) b f why parcel
    (moves_handled setting before lawful (blocks_before setting step before blocks) step.role)
    (acting setting step before (Give b (Dropped f why) parcel) acts blocks).0
