-- Which buffer a role has by its own log, and what it weighs.
use Rattle.std.proofs.Common.{◌≡◌, ℕ, ◌+◌, ◌*◌, ◌<◌, ◌≤◌, Bool, true, false, inl, inr, [], ◌∷◌, refl, sym, ◌∙◌, ap, subst, arith, Option, Some, None}
use Rattle.std.specs.Prelude.{◌==◌, nat_lt, unwrap_or}
use Rattle.std.proofs.lemmas.Bool.{cases_Bool, eqb-true, eqb-false, eq-eqb, le-ltb, ltb-true, ltb-false}
use Rattle.onvm_base.specs.declared.ids.FrameId.{FrameId}
use Rattle.onvm_core.specs.declared.layout.Layout.{Layout}
use Rattle.onvm_core.specs.declared.step.Item.TheVariants.{Buffer}
use Rattle.onvm_core.specs.declared.step.Act.{Act}
use Rattle.onvm_core.specs.declared.step.Act.TheVariants.{Take, Give, Push, Pop}
use Rattle.onvm_core.specs.declared.place.Place.{Place}
use Rattle.onvm_core.specs.declared.place.Place.TheVariants.{Pool, Ring, Role}
use Rattle.onvm_core.specs.Layouts.{IsBuffer}
use Rattle.onvm_core.specs.History.{History, place_of, place_by}
use Rattle.onvm_core.specs.Lawful.{AllowsAct, IsLawful}
use Rattle.onvm_core.specs.Places.{same_place}
use Rattle.onvm_core.specs.Logs.{Setting, Log, Hand, log_of}
use Rattle.onvm_core.specs.Receiving.{ReceivePhase, receive_phase}
use Rattle.onvm_core.specs.Receiving.ReceivePhase.{Took, Barred}
use Rattle.onvm_core.specs.Handling.{core_hand}
use Rattle.onvm_core.specs.Sending.{SendPhase, send_phase}
use Rattle.onvm_core.specs.Sending.SendPhase.{Free, Moves as Sending, TurnsBack}
use Rattle.onvm_core.specs.Blocks.{RoleKind, kind_of, IsOfBlocks, AllOfBlocks}
use Rattle.onvm_core.specs.Blocks.RoleKind.{Receives, Sends, Handles, Ticks, Leads}
use Rattle.onvm_core.specs.Frames.{Load, block_frame}
use Rattle.onvm_core.specs.Frames.Load.{Fresh, Loaded}
use Rattle.onvm_core.specs.Potential.{sum_below, load_potential, is_sender, core_potential, send_potential, hand_potential}
use Rattle.onvm_core.proofs.Once.{same_place_is, suits_holder}
use Rattle.onvm_core.proofs.Loads.{own_load, own_load_after, own_load_is, some_pair, HasLoad}
use Rattle.onvm_core.proofs.Hands.{is_kind}
use Rattle.onvm_core.proofs.Balance.{blocks_before}
use Rattle.onvm_core.proofs.Sums.{pick, sum_same, sum_none, sum_pick}
use Rattle.onvm_core.proofs.Logged.{Known, place_known, heft, weight_there}
use Rattle.onvm_core.proofs.Phases.{taken_in, handled_in, moved_in, held_in, own_says, IsFreeFor, frees_of}

-- the own log says that the role has the buffer
abbrev pub Says : Option (ℕ × Load) → ℕ → Type 0
Says own buf = (what : Load) × (own ≡ Some (buf, what))

-- what an act lets go is what the own log says
abbrev LetsOwn : Option (ℕ × Load) → Act → Type 0
LetsOwn own (Give b outcome parcel) = Says own b.0
LetsOwn own (Push r (Buffer b parcel)) = Says own b.0
LetsOwn own _ = Unit {0}

one_buffer : (own : Option (ℕ × Load)) (a b : ℕ) → Says own a → Says own b → a ≡ b
one_buffer own a b one two =
    let both : (a ≡ b) × (one.0 ≡ two.0) = some_pair a b one.0 two.0 (sym one.1 ∙ two.1) in both.0

none_said : (own : Option (ℕ × Load)) (buf : ℕ) → own ≡ None → Says own buf → ⊥
none_said own buf none said = let off : ◌≡◌ {A = Option (ℕ × Load)} (Some (buf, said.0)) None = sym said.1 ∙ none in cc

own_names : (role buf : ℕ) (fresh : FrameId) (act : Act) (own : Option (ℕ × Load)) (was : Place)
    → IsFreeFor own act → LetsOwn own act → (was ≡ Role role → Says own buf)
    → unwrap_or (place_by buf role act) was ≡ Role role
    → Says (own_load_after fresh act own) buf
own_names role buf fresh (Take b) own was free lets earlier e =
    elim (cases_Bool (b.0 == buf)) [
      | inl hit ↦ (Fresh fresh, ap (λ (n : ℕ). Some (n, Fresh fresh)) (eqb-true b.0 buf hit))
      | inr miss ↦ absurd (none_said own buf free (earlier (rw miss at e)))
    ]
own_names role buf fresh (Pop r (Buffer b parcel)) own was free lets earlier e =
    elim (cases_Bool (b.0 == buf)) [
      | inl hit ↦ (Loaded parcel, ap (λ (n : ℕ). Some (n, Loaded parcel)) (eqb-true b.0 buf hit))
      | inr miss ↦ absurd (none_said own buf free (earlier (rw miss at e)))
    ]
own_names role buf fresh (Give b outcome parcel) own was free lets earlier e =
    elim (cases_Bool (b.0 == buf)) [
      | inl hit ↦ absurd (let off : Pool ≡ Role role = rw hit at e in cc)
      | inr miss ↦ absurd (eqb-false b.0 buf miss (one_buffer own b.0 buf lets (earlier (rw miss at e))))
    ]
own_names role buf fresh (Push r (Buffer b parcel)) own was free lets earlier e =
    elim (cases_Bool (b.0 == buf)) [
      | inl hit ↦ absurd (let off : Ring r ≡ Role role = rw hit at e in cc)
      | inr miss ↦ absurd (eqb-false b.0 buf miss (one_buffer own b.0 buf lets (earlier (rw miss at e))))
    ]
own_names role buf fresh act own was free lets earlier e = earlier e

-- another role's act puts nothing in this role's hands
foreign_keeps : (role other buf : ℕ) (act : Act) (was : Place)
    → (role == other) ≡ false → unwrap_or (place_by buf role act) was ≡ Role other
    → was ≡ Role other
foreign_keeps role other buf (Take b) was apart e =
    elim (cases_Bool (b.0 == buf)) [
      | inl hit ↦
          absurd (let at : Role role ≡ Role other = rw hit at e in
          let same : role ≡ other = cc in eqb-false role other apart same)
      | inr miss ↦ rw miss at e
    ]
foreign_keeps role other buf (Pop r (Buffer b parcel)) was apart e =
    elim (cases_Bool (b.0 == buf)) [
      | inl hit ↦
          absurd (let at : Role role ≡ Role other = rw hit at e in
          let same : role ≡ other = cc in eqb-false role other apart same)
      | inr miss ↦ rw miss at e
    ]
foreign_keeps role other buf (Give b outcome parcel) was apart e =
    elim (cases_Bool (b.0 == buf)) [
      | inl hit ↦ absurd (let off : Pool ≡ Role other = rw hit at e in cc)
      | inr miss ↦ rw miss at e
    ]
foreign_keeps role other buf (Push r (Buffer b parcel)) was apart e =
    elim (cases_Bool (b.0 == buf)) [
      | inl hit ↦ absurd (let off : Ring r ≡ Role other = rw hit at e in cc)
      | inr miss ↦ rw miss at e
    ]
foreign_keeps role other buf act was apart e = e

lets_own : (layout : Layout) (before : History) (role : ℕ) (act : Act) (own : Option (ℕ × Load))
    → AllowsAct layout before role act → ((buf : ℕ) → place_of buf before ≡ Role role → Says own buf)
    → LetsOwn own act
lets_own layout before role (Give b outcome parcel) own allowed earlier = earlier b.0 allowed.holds.holder
lets_own layout before role (Push r (Buffer b parcel)) own allowed earlier =
    earlier b.0 (suits_holder layout before role r b parcel allowed.suits)
lets_own layout before role act own allowed earlier = tt

-- a buffer whose place is a role is what the role's own log says
pub holder_says : (setting : Setting) (past : History)
    → IsLawful setting.layout past → AllOfBlocks setting past → (role buf : ℕ) → place_of buf past ≡ Role role
    → Says (own_load setting role (log_of role past)) buf
holder_says setting [] lawful blocks role buf e = absurd (let off : Pool ≡ Role role = e in cc)
holder_says setting (step ∷ before) lawful blocks role buf e =
    let earlier : (k : ℕ) → place_of k before ≡ Role role → Says (own_load setting role (log_of role before)) k =
    holder_says setting before lawful.1 (blocks_before setting step before blocks) role in
    elim (cases_Bool (step.role == role)) [
      | inl mine ↦ let same : step.role ≡ role = eqb-true step.role role mine in
          let own : IsOfBlocks setting role (step.act ∷ log_of role before) = rw mine at (blocks role) in
          let free : IsFreeFor (own_load setting role (log_of role before)) step.act =
          frees_of setting role (kind_of setting.layout role) (log_of role before) step.act
          (is_kind setting role (step.act ∷ log_of role before) (kind_of setting.layout role) refl own) in
          let lets : LetsOwn (own_load setting role (log_of role before)) step.act =
          lets_own setting.layout before role step.act (own_load setting role (log_of role before))
          (subst (λ r. AllowsAct setting.layout before r step.act) same lawful.0.allowed) earlier in
          rw mine (own_names role buf (block_frame setting role (log_of role before)) step.act
          (own_load setting role (log_of role before)) (place_of buf before) free lets (earlier buf)
          (subst (λ r. unwrap_or (place_by buf r step.act) (place_of buf before) ≡ Role role) same e))
      | inr foreign ↦
          rw foreign (earlier buf (foreign_keeps step.role role buf step.act (place_of buf before) foreign e))
    ]

-- What a role has weighs as its own log says

abbrev pub own_weight : Layout → ℕ → Option (ℕ × Load) → ℕ
own_weight layout role None = 0
own_weight layout role (Some own) = load_potential layout (Role role) (Some own.1)

one_term : (test : ℕ → Bool) (g : ℕ → ℕ) (n x : ℕ) → x < n → ((k : ℕ) → test k ≡ (x == k))
    → sum_below (λ k. pick (test k) (g k)) n ≡ g x
one_term test g n x less same =
    sum_same (λ k. pick (test k) (g k)) (λ k. pick (x == k) (g k)) n
    (λ k below. ap (λ (b : Bool). pick b (g k)) (same k))
    ∙ sum_pick g x n less

same_holder : (setting : Setting) (past : History) (role buf k : ℕ) (what : Load)
    → IsLawful setting.layout past → AllOfBlocks setting past
    → own_load setting role (log_of role past) ≡ Some (buf, what) → place_of buf past ≡ Role role
    → same_place (place_of k past) (Role role) ≡ (buf == k)
same_holder setting past role buf k what lawful blocks said held =
    elim (cases_Bool (buf == k)) [
      | inl hit ↦
          let at : place_of k past ≡ Role role = subst (λ n. place_of n past ≡ Role role) (eqb-true buf k hit) held in
          rw (at, hit) (eq-eqb role role refl)
      | inr miss ↦ elim (cases_Bool (same_place (place_of k past) (Role role))) [
        | inl met ↦
            absurd (eqb-false buf k miss (one_buffer (own_load setting role (log_of role past)) buf k (what, said)
            (holder_says setting past lawful blocks role k (same_place_is (place_of k past) (Role role) met))))
        | inr unmet ↦ unmet ∙ sym miss
      ]
    ]

role_weighs_by : (setting : Setting) (past : History) (role : ℕ) (own : Option (ℕ × Load))
    → IsLawful setting.layout past → AllOfBlocks setting past → own_load setting role (log_of role past) ≡ own
    → weight_there setting past (Role role) ≡ own_weight setting.layout role own
role_weighs_by setting past role None lawful blocks said =
    sum_none (λ buf. pick (same_place (place_of buf past) (Role role)) (heft setting past buf))
    (setting.layout.ports * setting.layout.buffers)
    (λ k less. elim (cases_Bool (same_place (place_of k past) (Role role))) [
      | inl met ↦
          absurd (none_said (own_load setting role (log_of role past)) k said
          (holder_says setting past lawful blocks role k (same_place_is (place_of k past) (Role role) met)))
      | inr unmet ↦ rw unmet refl
    ])
role_weighs_by setting past role (Some (buf, what)) lawful blocks said =
    let had : HasLoad setting past role buf what = own_load_is setting past lawful role buf what said in
    let known : IsBuffer setting.layout buf =
    subst (Known setting.layout buf) had.holder (place_known setting.layout past lawful buf) in
    let weighs : heft setting past buf ≡ load_potential setting.layout (Role role) (Some what) =
    rw (had.holder, had.has) refl in
    one_term (λ k. same_place (place_of k past) (Role role)) (heft setting past)
    (setting.layout.ports * setting.layout.buffers) buf known
    (λ k. same_holder setting past role buf k what lawful blocks said had.holder)
    ∙ weighs

-- Kinds of roles

-- a frame that was taken and hasn't entered
abbrev pub taken_weight : ReceivePhase → ℕ
taken_weight (Took done buf) = 66
taken_weight (Barred done buf ring) = 66
taken_weight phase = 0

abbrev pub taken_by : Setting → RoleKind → Log → ℕ
taken_by setting Receives log = taken_weight (receive_phase setting log)
taken_by setting kind log = 0

receive_weighs : (layout : Layout) (port : ℕ) (phase : ReceivePhase)
    → own_weight layout port (taken_in port phase) ≡ taken_weight phase + 0
receive_weighs layout port (Took done buf) = refl
receive_weighs layout port phase = refl

send_weighs : (layout : Layout) (role : ℕ) (phase : SendPhase) → is_sender layout role ≡ true
    → own_weight layout role (moved_in phase) ≡ 0 + send_potential phase
send_weighs layout role Free sender = refl
send_weighs layout role (Sending hand) sender = rw sender (omega arith)
send_weighs layout role (TurnsBack hand ring) sender = rw sender (omega arith)

core_weighs : (layout : Layout) (role : ℕ) (hand : Option Hand) → is_sender layout role ≡ false
    → own_weight layout role (handled_in hand) ≡ 0 + core_potential hand
core_weighs layout role None other = refl
core_weighs layout role (Some hand) other = rw other (omega arith)

kind_weighs : (setting : Setting) (role : ℕ) (kind : RoleKind) (log : Log)
    → (kind ≡ Sends → is_sender setting.layout role ≡ true) → (kind ≡ Handles → is_sender setting.layout role ≡ false)
    → own_weight setting.layout role (held_in setting role kind log)
    ≡ taken_by setting kind log + hand_potential kind log
kind_weighs setting role Receives log sends handles = receive_weighs setting.layout role (receive_phase setting log)
kind_weighs setting role Sends log sends handles = send_weighs setting.layout role (send_phase log) (sends refl)
kind_weighs setting role Handles log sends handles = core_weighs setting.layout role (core_hand log) (handles refl)
kind_weighs setting role kind log sends handles = refl

is_sending : (layout : Layout) (role : ℕ) → kind_of layout role ≡ Sends → is_sender layout role ≡ true
is_sending layout role e =
    elim (cases_Bool (nat_lt role layout.ports)) [
      | inl receives ↦ absurd (let off : Receives ≡ Sends = rw receives at e in cc)
      | inr other ↦ elim (cases_Bool (nat_lt role (layout.ports + layout.transmit))) [
        | inl sends ↦ rw (sends, other) refl
        | inr neither ↦ elim (cases_Bool (nat_lt role (layout.ports + layout.transmit + layout.cores))) [
          | inl handles ↦ absurd (let off : Handles ≡ Sends = rw (other, neither, handles) at e in cc)
          | inr beyond ↦ elim (cases_Bool (role == layout.ports + layout.transmit + layout.cores)) [
            | inl ticks ↦ absurd (let off : Ticks ≡ Sends = rw (other, neither, beyond, ticks) at e in cc)
            | inr leads ↦ absurd (let off : Leads ≡ Sends = rw (other, neither, beyond, leads) at e in cc)
          ]
        ]
      ]
    ]

is_handling : (layout : Layout) (role : ℕ) → kind_of layout role ≡ Handles → is_sender layout role ≡ false
is_handling layout role e =
    elim (cases_Bool (nat_lt role layout.ports)) [
      | inl receives ↦ absurd (let off : Receives ≡ Handles = rw receives at e in cc)
      | inr other ↦ elim (cases_Bool (nat_lt role (layout.ports + layout.transmit))) [
        | inl sends ↦ absurd (let off : Sends ≡ Handles = rw (other, sends) at e in cc)
        | inr neither ↦ rw neither refl
      ]
    ]

-- the buffers whose place is a role weigh as the role's phase says
pub role_weighs : (setting : Setting) (past : History)
    → IsLawful setting.layout past → AllOfBlocks setting past → (role : ℕ)
    → weight_there setting past (Role role)
    ≡ taken_by setting (kind_of setting.layout role) (log_of role past)
    + hand_potential (kind_of setting.layout role) (log_of role past)
role_weighs setting past lawful blocks role =
    role_weighs_by setting past role
    (held_in setting role (kind_of setting.layout role) (log_of role past)) lawful blocks
    (own_says setting role (kind_of setting.layout role) (log_of role past)
    (is_kind setting role (log_of role past) (kind_of setting.layout role) refl (blocks role)))
    ∙ kind_weighs setting role (kind_of setting.layout role) (log_of role past) (is_sending setting.layout role)
    (is_handling setting.layout role)

past_roles : (setting : Setting) (role : ℕ) (log : Log)
    → setting.layout.ports + setting.layout.transmit + setting.layout.cores ≤ role
    → held_in setting role (kind_of setting.layout role) log ≡ None
past_roles setting role log le =
    let one : nat_lt role setting.layout.ports ≡ false = le-ltb role setting.layout.ports (omega arith) in
    let two : nat_lt role (setting.layout.ports + setting.layout.transmit) ≡ false =
    le-ltb role (setting.layout.ports + setting.layout.transmit) (omega arith) in
    let three : nat_lt role (setting.layout.ports + setting.layout.transmit + setting.layout.cores) ≡ false =
    le-ltb role (setting.layout.ports + setting.layout.transmit + setting.layout.cores) le in
    elim (cases_Bool (role == setting.layout.ports + setting.layout.transmit + setting.layout.cores)) [
      | inl ticks ↦ rw (one, two, three, ticks) refl
      | inr leads ↦ rw (one, two, three, leads) refl
    ]

-- only receive roles, transmit roles and cores have buffers
pub holder_below : (setting : Setting) (past : History)
    → IsLawful setting.layout past → AllOfBlocks setting past → (role buf : ℕ) → place_of buf past ≡ Role role
    → role < setting.layout.ports + setting.layout.transmit + setting.layout.cores
holder_below setting past lawful blocks role buf at =
    elim (cases_Bool (nat_lt role (setting.layout.ports + setting.layout.transmit + setting.layout.cores))) [
      | inl below ↦ ltb-true role (setting.layout.ports + setting.layout.transmit + setting.layout.cores) below
      | inr beyond ↦
          let none : held_in setting role (kind_of setting.layout role) (log_of role past) ≡ None =
          past_roles setting role (log_of role past)
          (ltb-false role (setting.layout.ports + setting.layout.transmit + setting.layout.cores) beyond) in
          let says : own_load setting role (log_of role past)
          ≡ held_in setting role (kind_of setting.layout role) (log_of role past)
          = own_says setting role (kind_of setting.layout role) (log_of role past)
          (is_kind setting role (log_of role past) (kind_of setting.layout role) refl (blocks role)) in
          absurd (none_said (own_load setting role (log_of role past)) buf (says ∙ none)
          (holder_says setting past lawful blocks role buf at))
    ]
