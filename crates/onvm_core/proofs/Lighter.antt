-- What a role pushes weighs no more on the ring than in its hands, and what it pops no more in its hands.
use Rattle.std.proofs.Common.{◌≡◌, ℕ, ◌+◌, ◌≤◌, ◌⊎◌, inl, inr, ◌∷◌, length, refl, sym, ◌∙◌, ap, subst, arith, Option, Some, None}
use Rattle.std.proofs.lemmas.Bool.{cases_Bool, le-ltb}
use Rattle.onvm_base.specs.declared.limits.TheConstants.{MAX_HOPS}
use Rattle.onvm_base.specs.declared.ids.RingId.{RingId}
use Rattle.onvm_base.specs.declared.ids.BufId.{BufId}
use Rattle.onvm_base.specs.declared.ids.FnId.{FnId}
use Rattle.std.proofs.lemmas.List.{length_push}
use Rattle.onvm_core.specs.declared.layout.Layout.{Layout}
use Rattle.onvm_core.specs.declared.parcel.Parcel.{Parcel}
use Rattle.onvm_core.specs.declared.step.Item.TheVariants.{Buffer}
use Rattle.onvm_core.specs.declared.step.Act.TheVariants.{Push}
use Rattle.onvm_core.specs.declared.place.Place.TheVariants.{Ring, Role}
use Rattle.onvm_core.specs.Layouts.{consumer, core_role}
use Rattle.onvm_core.specs.History.{History}
use Rattle.onvm_core.specs.Lawful.{Suits}
use Rattle.onvm_core.specs.Logs.{Setting, Log, Hand}
use Rattle.onvm_core.specs.Receiving.{ReceivePhase, receive_phase, MayReceiveFor}
use Rattle.onvm_core.specs.Handling.{core_hand, MayHandle, crumb_place}
use Rattle.onvm_core.specs.Sending.{SendPhase, send_phase, MaySend}
use Rattle.onvm_core.specs.Blocks.{RoleKind}
use Rattle.onvm_core.specs.Frames.{Load}
use Rattle.onvm_core.specs.Potential.{is_sender, hops_left, load_potential, outputs_on}
use Rattle.onvm_base.specs.declared.ids.RingId.TheVariants.{Lane, Output, Mail}
use Rattle.onvm_core.specs.declared.entry.Entry.{Entry}
use Rattle.onvm_core.specs.Receiving.ReceivePhase.{Between, Asks, Seeks, Sees, Took, Barred}
use Rattle.onvm_core.specs.Sending.SendPhase.{Free, Moves as Sending, TurnsBack}
use Rattle.onvm_core.specs.Blocks.RoleKind.{Receives, Sends, Handles}
use Rattle.onvm_core.specs.Frames.Load.{Fresh, Loaded}
use Rattle.onvm_core.proofs.Loads.{own_load}
use Rattle.onvm_core.proofs.Hands.{IsKind}
use Rattle.onvm_core.proofs.Hands.{HasTaken, HasHand, HasSend, receive_has, core_has, send_has}

-- What is pushed weighs no more than before, and on an output ring less

-- how many functions may still handle what is in a buffer
abbrev pub hops_of : Option Load → ℕ
hops_of None = 0
hops_of (Some (Fresh frame)) = MAX_HOPS
hops_of (Some (Loaded parcel)) = hops_left parcel

abbrev pub Lighter : Layout → ℕ → Option (ℕ × Load) → RingId → BufId → Parcel → Type 0
Lighter layout role own ring b parcel =
    (what : Load) × (own ≡ Some (b.0, what))
    × (load_potential layout (Ring ring) (Some (Loaded parcel)) + outputs_on ring
    ≤ load_potential layout (Role role) (Some what))
    × (hops_of (Some (Loaded parcel)) + outputs_on ring ≤ hops_of (Some what))

receive_lighter : (setting : Setting) (port : ℕ) (e : Entry) (phase : ReceivePhase) (own : Option (ℕ × Load))
    (ring : RingId) (b : BufId) (parcel : Parcel)
    → HasTaken port own phase → MayReceiveFor setting port e phase (Push ring (Buffer b parcel))
    → Lighter setting.layout port own ring b parcel
receive_lighter setting port e (Took done buf) own ring b parcel h may = (
  Fresh (record { port = record { 0 = port }; number = done + 1 }),
  h ∙ ap (λ (n : ℕ). Some (n, Fresh (record { port = record { 0 = port }; number = done + 1 }))) (sym may.0),
  rw (may.2.lane, may.1) (omega arith),
  rw (may.2.lane, may.1) (omega arith),
)
receive_lighter setting port e (Between done) own ring b parcel h may = absurd may
receive_lighter setting port e (Asks done k) own ring b parcel h may = absurd may
receive_lighter setting port e (Seeks done k) own ring b parcel h may = absurd may
receive_lighter setting port e (Sees done index seen) own ring b parcel h may = absurd may
receive_lighter setting port e (Barred done buf r) own ring b parcel h may = absurd may

core_lighter : (setting : Setting) (role : ℕ) (before : Log) (own : Option (ℕ × Load)) (ring : RingId) (b : BufId)
    (parcel : Parcel)
    → HasHand own (core_hand before) → length parcel.trail ≤ 32
    → MayHandle setting role before (Push ring (Buffer b parcel))
    → Lighter setting.layout role own ring b parcel
core_lighter setting role before own (Output f) b parcel h short may =
    let hand : Hand = may.hand in
    let longer : length parcel.trail ≡ length hand.parcel.trail + 1 =
    ap (λ (p : Parcel). length p.trail) may.handled.same ∙ length_push hand.parcel.trail
    (record { function = f; place = crumb_place f before; verdict = may.handled.verdict }) in (
      Loaded hand.parcel,
      subst (HasHand own) may.held h ∙ ap (λ (n : ℕ). Some (n, Loaded hand.parcel)) may.same,
      elim (cases_Bool (is_sender setting.layout role)) [
        | inl met ↦ rw met (omega (arith, longer, short))
        | inr unmet ↦ rw unmet (omega (arith, longer, short))
      ],
      omega (arith, longer, short),
    )
core_lighter setting role before own (Mail f) b parcel h short may = absurd may
core_lighter setting role before own (Lane f p) b parcel h short may = absurd may

send_lighter : (setting : Setting) (feeder : ℕ) (phase : SendPhase) (own : Option (ℕ × Load)) (ring : RingId)
    (b : BufId) (parcel : Parcel) → HasSend own phase → MaySend setting feeder phase (Push ring (Buffer b parcel))
    → Lighter setting.layout feeder own ring b parcel
send_lighter setting feeder Free own ring b parcel h may = absurd may
send_lighter setting feeder (Sending hand) own ring b parcel h may =
    let same : length parcel.trail ≡ length hand.parcel.trail = ap (λ (p : Parcel). length p.trail) may.1.2 in (
      Loaded hand.parcel,
      h ∙ ap (λ (n : ℕ). Some (n, Loaded hand.parcel)) (sym may.0),
      rw may.1.1.lane (elim (cases_Bool (is_sender setting.layout feeder)) [
        | inl met ↦ rw met (omega (arith, same))
        | inr unmet ↦ rw unmet (omega (arith, same))
      ]),
      rw may.1.1.lane (omega (arith, same)),
    )
send_lighter setting feeder (TurnsBack hand r) own ring b parcel h may = absurd may

pub lighter_by_kind : (setting : Setting) (role : ℕ) (kind : RoleKind) (log : Log) (ring : RingId) (b : BufId)
    (parcel : Parcel)
    → length parcel.trail ≤ 32 → IsKind setting role kind (Push ring (Buffer b parcel) ∷ log)
    → Lighter setting.layout role (own_load setting role log) ring b parcel
lighter_by_kind setting role Receives log ring b parcel short h =
    elim h.0 [
      | inl mark ↦ absurd mark.1
      | inr block ↦
          receive_lighter setting role block.0 (receive_phase setting log) (own_load setting role log) ring b parcel
          (receive_has setting role log h.1) block.2
    ]
lighter_by_kind setting role Sends log ring b parcel short h =
    send_lighter setting role (send_phase log) (own_load setting role log) ring b parcel
    (send_has setting role log h.1) h.0
lighter_by_kind setting role Handles log ring b parcel short h =
    core_lighter setting role log (own_load setting role log) ring b parcel (core_has setting role log h.1) short h.0
lighter_by_kind setting role kind log ring b parcel short h = absurd h.0

pub short_of : (layout : Layout) (past : History) (role : ℕ) (ring : RingId) (b : BufId) (parcel : Parcel)
    → Suits layout past role ring (Buffer b parcel)
    → length parcel.trail ≤ 32
short_of layout past role (Lane f p) b parcel suits = omega (arith, suits.1)
short_of layout past role (Output f) b parcel suits = suits.2
short_of layout past role (Mail f) b parcel suits = absurd suits

-- what is popped weighs no more than before
pub popped_lighter : (layout : Layout) (ring : RingId) (parcel : Parcel)
    → load_potential layout (Role (consumer layout ring)) (Some (Loaded parcel))
    ≤ load_potential layout (Ring ring) (Some (Loaded parcel))
    ⊎ ((f : FnId) × (ring ≡ Mail f))
popped_lighter layout (Lane f p) parcel =
    inl (rw (le-ltb (core_role layout f.0) (layout.ports + layout.transmit) (omega arith)) (omega arith))
popped_lighter layout (Output f) parcel =
    inl (elim (cases_Bool (is_sender layout (consumer layout (Output f)))) [
      | inl met ↦ rw met (omega arith)
      | inr unmet ↦ rw unmet (omega arith)
    ])
popped_lighter layout (Mail f) parcel = inr (f, refl)
