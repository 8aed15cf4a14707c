-- No step raises the potential.
use Rattle.std.proofs.Common.{◌≡◌, ℕ, ◌+◌, ◌-◌, ◌*◌, ◌<◌, ◌≤◌, zero, suc, inl, inr, ◌∷◌, length, refl, sym, subst, arith, Option, Some, None}
use Rattle.std.specs.Prelude.{nat_lt, unwrap_or}
use Rattle.std.proofs.lemmas.Bool.{cases_Bool, eq-eqb, ne_eqb, cases_order, ltb-true, ltb-false}
use Rattle.onvm_base.specs.declared.ids.RingId.{RingId}
use Rattle.onvm_base.specs.declared.ids.BufId.{BufId}
use Rattle.onvm_base.specs.declared.ids.FnId.{FnId}
use Rattle.onvm_base.specs.declared.ids.FrameId.{FrameId}
use Rattle.onvm_core.specs.declared.layout.Layout.{Layout}
use Rattle.onvm_core.specs.declared.parcel.Parcel.{Parcel}
use Rattle.onvm_core.specs.declared.step.Item.{Item}
use Rattle.onvm_core.specs.declared.step.Item.TheVariants.{Buffer, Number}
use Rattle.onvm_core.specs.declared.step.Act.{Act}
use Rattle.onvm_core.specs.declared.step.Act.TheVariants.{Split, Join, Take, Give, Push, Full, Pop, Empty, Look, Post}
use Rattle.onvm_core.specs.declared.step.Step.{Step}
use Rattle.onvm_core.specs.declared.place.Place.{Place}
use Rattle.onvm_core.specs.declared.place.Place.TheVariants.{Pool, Ring, Role}
use Rattle.onvm_core.specs.History.{History, content_of, place_of, place_by}
use Rattle.onvm_core.specs.Layouts.{IsBuffer}
use Rattle.onvm_core.specs.Lawful.{AllowsAct, IsLawful, Suits}
use Rattle.onvm_core.specs.Logs.{Setting, entries_of_port, Log, log_of, entry_after, IsNumbered}
use Rattle.onvm_core.specs.Receiving.{ReceivePhase, receive_after, receive_phase, done_count, MayReceive, MayReceiveFor}
use Rattle.onvm_core.specs.Sending.{SendPhase, send_phase, MaySend}
use Rattle.onvm_core.specs.Blocks.{RoleKind, kind_of, MayFollow, IsOfBlocks, AllOfBlocks}
use Rattle.onvm_core.specs.Frames.{Load, load, load_after, block_frame, begun_count}
use Rattle.onvm_core.specs.Potential.{sum_below, fresh_potential, load_potential, outputs_by, outputs_on, waiting_count, potential}
use Rattle.onvm_base.specs.declared.ids.RingId.TheVariants.{Lane, Output, Mail}
use Rattle.onvm_core.specs.declared.entry.Entry.{Entry}
use Rattle.onvm_core.specs.Receiving.ReceivePhase.{Between, Asks, Seeks, Sees, Took, Barred}
use Rattle.onvm_core.specs.Sending.SendPhase.{Free, Moves as Sending, TurnsBack}
use Rattle.onvm_core.specs.Blocks.RoleKind.{Receives, Sends}
use Rattle.onvm_core.specs.Frames.Load.{Fresh, Loaded}
use Rattle.onvm_core.proofs.Loads.{own_load, own_load_is, HasLoad, content_loaded, IsLoaded}
use Rattle.onvm_core.proofs.Hands.{is_kind}
use Rattle.onvm_core.proofs.Loads.{IsAt, content_at, first_of}
use Rattle.onvm_core.proofs.Balance.{own_blocks}
use Rattle.onvm_core.proofs.Begun.{starts, own_begins, other_starts}
use Rattle.onvm_core.proofs.RoleKinds.{kind_receives, kind_other}
use Rattle.onvm_core.proofs.Sums.{sum_same}
use Rattle.std.proofs.lemmas.Option.{slice_get_within}
use Rattle.onvm_core.proofs.Lighter.{Lighter, lighter_by_kind, short_of, popped_lighter}

sum_apart : (f g : ℕ → ℕ) (n x : ℕ) → n ≤ x → ((k : ℕ) → (k ≡ x → ⊥) → f k ≡ g k) → sum_below f n ≡ sum_below g n
sum_apart f g zero x le h = refl
sum_apart f g (suc n) x le h = rw (h n (λ e. omega arith), sum_apart f g n x (omega arith) h) refl

sum_change : (f g : ℕ → ℕ) (n x : ℕ) → x < n → ((k : ℕ) → (k ≡ x → ⊥) → f k ≡ g k)
    → sum_below f n + g x ≡ sum_below g n + f x
sum_change f g zero x lt h = absurd (omega arith)
sum_change f g (suc n) x lt h =
    elim (cases_order x n) [
      | inl e ↦
          rw e (omega (arith, sum_apart f g n n (omega arith) (subst (λ y. (k : ℕ) → (k ≡ y → ⊥) → f k ≡ g k) e h)))
      | inr (inl less) ↦ omega (arith, sum_change f g n x less h, h n (λ e. omega arith))
      | inr (inr more) ↦ absurd (omega arith)
    ]

sum_falls : (f g : ℕ → ℕ) (n x : ℕ) → ((k : ℕ) → (k ≡ x → ⊥) → f k ≡ g k) → f x ≤ g x → sum_below f n ≤ sum_below g n
sum_falls f g zero x h le = omega arith
sum_falls f g (suc n) x h le =
    elim (cases_order n x) [
      | inl e ↦ let here : f n ≤ g n = subst (λ k. f k ≤ g k) (sym e) le in omega (arith, here, sum_falls f g n x h le)
      | inr (inl less) ↦ omega (arith, h n (λ e. omega arith), sum_falls f g n x h le)
      | inr (inr more) ↦ omega (arith, h n (λ e. omega arith), sum_falls f g n x h le)
    ]

abbrev pub takes : Act → ℕ
takes (Take b) = 1
takes _ = 0

-- What stands in buffers, weighed in some way: a take makes it more by the weight of a frame that was just taken, and a
-- push on an output ring makes it less by 1 at least

module _ (weigh : Place → Option Load → ℕ) (fresh_weight : ℕ)
    (none_weighs : (there : Place) → weigh there None ≡ 0)
    (fresh_weighs : (role : ℕ) (frame : FrameId) → weigh (Role role) (Some (Fresh frame)) ≡ fresh_weight) where
  -- what must be known of places and loads before an act
  abbrev pub Lightens : ℕ → (ℕ → Place) → (ℕ → Option Load) → ℕ → Act → Type 0
  Lightens role places loads n (Take b) = b.0 < n
  Lightens role places loads n (Push r (Buffer b parcel)) =
      (b.0 < n) × (weigh (Ring r) (Some (Loaded parcel)) + outputs_on r ≤ weigh (places b.0) (loads b.0))
  Lightens role places loads n (Pop r (Buffer b parcel)) =
      weigh (Role role) (Some (Loaded parcel)) ≤ weigh (places b.0) (loads b.0)
  Lightens role places loads n _ = Unit {0}

  abbrev weight_after : ℕ → FrameId → Act → (ℕ → Place) → (ℕ → Option Load) → ℕ → ℕ
  weight_after role fresh act places loads buf =
      weigh (unwrap_or (place_by buf role act) (places buf)) (load_after buf fresh act (loads buf))

  pub buffers_step : (role : ℕ) (fresh : FrameId) (act : Act) (places : ℕ → Place) (loads : ℕ → Option Load) (n : ℕ)
      → Lightens role places loads n act
      → sum_below (weight_after role fresh act places loads) n + outputs_by act
      ≤ sum_below (λ buf. weigh (places buf) (loads buf)) n + fresh_weight * takes act
  buffers_step role fresh (Take b) places loads n facts =
      let changed : sum_below (weight_after role fresh (Take b) places loads) n + weigh (places b.0) (loads b.0)
      ≡ sum_below (λ buf. weigh (places buf) (loads buf)) n + weight_after role fresh (Take b) places loads b.0
      = sum_change (weight_after role fresh (Take b) places loads) (λ buf. weigh (places buf) (loads buf)) n b.0 facts
      (λ k apart. rw (ne_eqb b.0 k (λ e. apart (sym e))) refl) in
      let now : weight_after role fresh (Take b) places loads b.0 ≡ fresh_weight =
      rw (eq-eqb b.0 b.0 refl) (fresh_weighs role fresh) in
      omega (arith, changed, now)
  buffers_step role fresh (Give b outcome parcel) places loads n facts =
      let now : weight_after role fresh (Give b outcome parcel) places loads b.0 ≡ 0 =
      rw (eq-eqb b.0 b.0 refl) (none_weighs Pool) in
      omega (
        arith,
        sum_falls (weight_after role fresh (Give b outcome parcel) places loads)
            (λ buf. weigh (places buf) (loads buf)) n b.0
            (λ k apart. rw (ne_eqb b.0 k (λ e. apart (sym e))) refl)
            (omega (arith, now)),
      )
  buffers_step role fresh (Push r (Buffer b parcel)) places loads n facts =
      let changed : sum_below (weight_after role fresh (Push r (Buffer b parcel)) places loads) n
      + weigh (places b.0) (loads b.0)
      ≡ sum_below (λ buf. weigh (places buf) (loads buf)) n
      + weight_after role fresh (Push r (Buffer b parcel)) places loads b.0
      = sum_change (weight_after role fresh (Push r (Buffer b parcel)) places loads)
      (λ buf. weigh (places buf) (loads buf)) n b.0 facts.0
      (λ k apart. rw (ne_eqb b.0 k (λ e. apart (sym e))) refl) in
      let now : weight_after role fresh (Push r (Buffer b parcel)) places loads b.0
      ≡ weigh (Ring r) (Some (Loaded parcel))
      = rw (eq-eqb b.0 b.0 refl) refl in
      omega (arith, changed, now, facts.1)
  buffers_step role fresh (Pop r (Buffer b parcel)) places loads n facts =
      let now : weight_after role fresh (Pop r (Buffer b parcel)) places loads b.0
      ≡ weigh (Role role) (Some (Loaded parcel))
      = rw (eq-eqb b.0 b.0 refl) refl in
      omega (
        arith,
        sum_falls (weight_after role fresh (Pop r (Buffer b parcel)) places loads)
            (λ buf. weigh (places buf) (loads buf)) n b.0
            (λ k apart. rw (ne_eqb b.0 k (λ e. apart (sym e))) refl)
            (omega (arith, now, facts)),
      )
  buffers_step role fresh (Push r (Number m)) places loads n facts =
      omega (
        arith,
        sum_same (weight_after role fresh (Push r (Number m)) places loads) (λ buf. weigh (places buf) (loads buf)) n
            (λ k less. refl),
      )
  buffers_step role fresh (Pop r (Number m)) places loads n facts =
      omega (
        arith,
        sum_same (weight_after role fresh (Pop r (Number m)) places loads) (λ buf. weigh (places buf) (loads buf)) n
            (λ k less. refl),
      )
  buffers_step role fresh (Split a) places loads n facts =
      omega (
        arith,
        sum_same (weight_after role fresh (Split a) places loads) (λ buf. weigh (places buf) (loads buf)) n
            (λ k less. refl),
      )
  buffers_step role fresh (Join a) places loads n facts =
      omega (
        arith,
        sum_same (weight_after role fresh (Join a) places loads) (λ buf. weigh (places buf) (loads buf)) n
            (λ k less. refl),
      )
  buffers_step role fresh (Full a) places loads n facts =
      omega (
        arith,
        sum_same (weight_after role fresh (Full a) places loads) (λ buf. weigh (places buf) (loads buf)) n
            (λ k less. refl),
      )
  buffers_step role fresh (Empty a) places loads n facts =
      omega (
        arith,
        sum_same (weight_after role fresh (Empty a) places loads) (λ buf. weigh (places buf) (loads buf)) n
            (λ k less. refl),
      )
  buffers_step role fresh (Look x y z) places loads n facts =
      omega (
        arith,
        sum_same (weight_after role fresh (Look x y z) places loads) (λ buf. weigh (places buf) (loads buf)) n
            (λ k less. refl),
      )
  buffers_step role fresh (Post x y) places loads n facts =
      omega (
        arith,
        sum_same (weight_after role fresh (Post x y) places loads) (λ buf. weigh (places buf) (loads buf)) n
            (λ k less. refl),
      )

no_pop : (setting : Setting) (port : ℕ) (e : Entry) (phase : ReceivePhase) (act : Act) (ring : RingId) (item : Item)
    → act ≡ Pop ring item → MayReceiveFor setting port e phase act
    → ⊥
no_pop setting port e (Between done) act ring item same may =
    subst (MayReceiveFor setting port e (Between done)) same may
no_pop setting port e (Asks done k) act ring item same may = subst (MayReceiveFor setting port e (Asks done k)) same may
no_pop setting port e (Seeks done k) act ring item same may =
    subst (MayReceiveFor setting port e (Seeks done k)) same may
no_pop setting port e (Sees done index seen) act ring item same may =
    subst (MayReceiveFor setting port e (Sees done index seen)) same may
no_pop setting port e (Took done buf) act ring item same may =
    subst (MayReceiveFor setting port e (Took done buf)) same may
no_pop setting port e (Barred done buf r) act ring item same may =
    subst (MayReceiveFor setting port e (Barred done buf r)) same may

no_mail : (setting : Setting) (feeder : ℕ) (phase : SendPhase) (f : FnId) (b : BufId) (parcel : Parcel)
    → MaySend setting feeder phase (Pop (Mail f) (Buffer b parcel))
    → ⊥
no_mail setting feeder Free f b parcel may = may
no_mail setting feeder (Sending hand) f b parcel may = may
no_mail setting feeder (TurnsBack hand r) f b parcel may = may

-- no parcel is popped from a mail ring
no_mail_parcel : (setting : Setting) (role : ℕ) (kind : RoleKind) (log : Log) (f : FnId) (b : BufId) (parcel : Parcel)
    → MayFollow setting role kind log (Pop (Mail f) (Buffer b parcel))
    → ⊥
no_mail_parcel setting role Receives log f b parcel may =
    elim may [
      | inl mark ↦ mark.1
      | inr block ↦
          no_pop setting role block.0 (receive_phase setting log) (Pop (Mail f) (Buffer b parcel)) (Mail f)
          (Buffer b parcel) refl block.2
    ]
no_mail_parcel setting role Sends log f b parcel may = no_mail setting role (send_phase log) f b parcel may
no_mail_parcel setting role kind log f b parcel may = may

-- the potential, which a frame that was taken leaves as it is

no_load_weighs : (layout : Layout) (there : Place) → load_potential layout there None ≡ 0
no_load_weighs layout there = refl

taken_weighs : (layout : Layout) (role : ℕ) (frame : FrameId)
    → load_potential layout (Role role) (Some (Fresh frame)) ≡ fresh_potential
taken_weighs layout role frame = refl

-- what is pushed was held
pub pushed_known : (layout : Layout) (before : History) (role : ℕ) (r : RingId) (b : BufId) (parcel : Parcel)
    → Suits layout before role r (Buffer b parcel)
    → IsBuffer layout b.0
pushed_known layout before role (Lane f p) b parcel suits = suits.0.known
pushed_known layout before role (Output f) b parcel suits = suits.0.known
pushed_known layout before role (Mail f) b parcel suits = absurd suits

-- lawful steps and blocks lighten
lightens_of : (setting : Setting) (before : History) (role : ℕ) (act : Act)
    → IsLawful setting.layout before → AllowsAct setting.layout before role act
    → IsOfBlocks setting role (act ∷ log_of role before)
    → Lightens (load_potential setting.layout) fresh_potential (no_load_weighs setting.layout)
    (taken_weighs setting.layout) role (λ buf. place_of buf before) (λ buf. load setting buf before)
    (setting.layout.ports * setting.layout.buffers) act
lightens_of setting before role (Take b) lawful allowed blocks = allowed.known
lightens_of setting before role (Push r (Buffer b parcel)) lawful allowed blocks =
    let kind : RoleKind = kind_of setting.layout role in
    let light : Lighter setting.layout role (own_load setting role (log_of role before)) r b parcel =
    lighter_by_kind setting role kind (log_of role before) r b parcel
    (short_of setting.layout before role r b parcel allowed.suits)
    (is_kind setting role (Push r (Buffer b parcel) ∷ log_of role before) kind refl blocks) in
    let had : HasLoad setting before role b.0 light.0 = own_load_is setting before lawful role b.0 light.0 light.1 in
    (pushed_known setting.layout before role r b parcel allowed.suits, rw (had.holder, had.has) light.2)
lightens_of setting before role (Pop r (Buffer b parcel)) lawful allowed blocks =
    let at : IsAt r before (Buffer b parcel) =
    first_of (IsAt r before) (content_of r before) (Buffer b parcel) allowed.first
    (content_at setting.layout before lawful r) in
    let has : IsLoaded setting before (Buffer b parcel) =
    first_of (IsLoaded setting before) (content_of r before) (Buffer b parcel) allowed.first
    (content_loaded setting before lawful r) in
    rw (at, has, allowed.own_end) (elim (popped_lighter setting.layout r parcel) [
      | inl light ↦ light
      | inr mail ↦
          absurd (no_mail_parcel setting role (kind_of setting.layout role) (log_of role before) mail.0 b parcel (subst
          (λ s. MayFollow setting role (kind_of setting.layout role) (log_of role before) (Pop s (Buffer b parcel)))
          mail.1 blocks.0))
    ])
lightens_of setting before role act lawful allowed blocks = tt

-- Waiting frames

take_begins : (setting : Setting) (port : ℕ) (e : Entry) (phase : ReceivePhase) (b : BufId)
    → entry_after setting port (done_count phase) ≡ Some e → MayReceiveFor setting port e phase (Take b)
    → (begun_count (receive_after setting phase (Take b)) ≡ begun_count phase + 1)
    × (begun_count phase < length (entries_of_port port setting.entries))
take_begins setting port e (Sees done index seen) b found may =
    (refl, slice_get_within (entries_of_port port setting.entries) done e found)
take_begins setting port e phase b found may = absurd may

abbrev left_in : Setting → ℕ → ReceivePhase → ℕ
left_in setting port phase = length (entries_of_port port setting.entries) - begun_count phase

falls_or_stays : (setting : Setting) (port : ℕ) (log : Log) (act : Act)
    → IsNumbered setting → MayReceive setting port log act
    → left_in setting port (receive_phase setting (act ∷ log)) + 0 ≤ left_in setting port (receive_phase setting log)
falls_or_stays setting port log act numbered may =
    elim (own_begins setting port log act (block_frame setting port log) numbered may) [
      | inl none ↦ omega (arith, none.0)
      | inr one ↦ omega (arith, one.0)
    ]

own_waits : (setting : Setting) (port : ℕ) (log : Log) (act : Act)
    → IsNumbered setting → MayReceive setting port log act
    → left_in setting port (receive_phase setting (act ∷ log)) + takes act
    ≤ left_in setting port (receive_phase setting log)
own_waits setting port log (Take b) numbered may =
    elim may [
      | inl mark ↦ absurd mark.1
      | inr block ↦
          let more : (begun_count (receive_after setting (receive_phase setting log) (Take b))
          ≡ begun_count (receive_phase setting log) + 1)
          × (begun_count (receive_phase setting log) < length (entries_of_port port setting.entries))
          = take_begins setting port block.0 (receive_phase setting log) b block.1 block.2 in
          omega (arith, more.0, more.1)
    ]
own_waits setting port log (Give b outcome parcel) numbered may =
    falls_or_stays setting port log (Give b outcome parcel) numbered may
own_waits setting port log (Push r i) numbered may = falls_or_stays setting port log (Push r i) numbered may
own_waits setting port log (Pop r i) numbered may = falls_or_stays setting port log (Pop r i) numbered may
own_waits setting port log (Split a) numbered may = falls_or_stays setting port log (Split a) numbered may
own_waits setting port log (Join a) numbered may = falls_or_stays setting port log (Join a) numbered may
own_waits setting port log (Full a) numbered may = falls_or_stays setting port log (Full a) numbered may
own_waits setting port log (Empty a) numbered may = falls_or_stays setting port log (Empty a) numbered may
own_waits setting port log (Look x y z) numbered may = falls_or_stays setting port log (Look x y z) numbered may
own_waits setting port log (Post x y) numbered may = falls_or_stays setting port log (Post x y) numbered may

no_take : (setting : Setting) (role : ℕ) (kind : RoleKind) (log : Log) (act : Act)
    → (kind ≡ Receives → ⊥) → MayFollow setting role kind log act
    → takes act ≡ 0
no_take setting role kind log (Take b) other may =
    let fresh : FrameId = block_frame setting role log in
    let none : starts fresh fresh (Take b) ≡ 0 = other_starts setting role kind log (Take b) fresh fresh other may in
    absurd (let one : 1 ≡ 0 =
    rw (
      eq-eqb role role refl,
      eq-eqb (done_count (receive_phase setting log) + 1) (done_count (receive_phase setting log) + 1) refl,
    ) at none in
    omega arith)
no_take setting role kind log act other may = refl

waiting_apart : (setting : Setting) (step : Step) (before : History) (k : ℕ) → (k ≡ step.role → ⊥)
    → waiting_count setting (step ∷ before) k ≡ waiting_count setting before k
waiting_apart setting step before k apart = rw (ne_eqb step.role k (λ e. apart (sym e))) refl

pub waiting_step : (setting : Setting) (step : Step) (before : History)
    → IsNumbered setting → AllOfBlocks setting (step ∷ before)
    → sum_below (waiting_count setting (step ∷ before)) setting.layout.ports + takes step.act
    ≤ sum_below (waiting_count setting before) setting.layout.ports
waiting_step setting step before numbered blocks =
    let own : IsOfBlocks setting step.role (step.act ∷ log_of step.role before) =
    own_blocks setting step before blocks in
    elim (cases_Bool (nat_lt step.role setting.layout.ports)) [
      | inl known ↦
          let may : MayReceive setting step.role (log_of step.role before) step.act =
          subst (λ k. MayFollow setting step.role k (log_of step.role before) step.act)
          (kind_receives setting.layout step.role known) own.0 in
          let less : step.role < setting.layout.ports = ltb-true step.role setting.layout.ports known in
          let now : waiting_count setting (step ∷ before) step.role
          ≡ left_in setting step.role (receive_phase setting (step.act ∷ log_of step.role before))
          = rw (eq-eqb step.role step.role refl) refl in
          omega (
            arith,
            now,
            own_waits setting step.role (log_of step.role before) step.act numbered may,
            sum_change (waiting_count setting (step ∷ before))
                (waiting_count setting before) setting.layout.ports step.role less
                (waiting_apart setting step before),
          )
      | inr unknown ↦
          let none : takes step.act ≡ 0 =
          no_take setting step.role (kind_of setting.layout step.role) (log_of step.role before) step.act
          (kind_other setting.layout step.role unknown) own.0 in
          let past_ports : setting.layout.ports ≤ step.role = ltb-false step.role setting.layout.ports unknown in
          omega (
            arith,
            none,
            sum_apart (waiting_count setting (step ∷ before))
                (waiting_count setting before) setting.layout.ports step.role past_ports
                (waiting_apart setting step before),
          )
    ]

-- no step raises the potential, and a push on an output ring lowers it
pub potential_step : (setting : Setting) (step : Step) (before : History)
    → IsNumbered setting → IsLawful setting.layout (step ∷ before) → AllOfBlocks setting (step ∷ before)
    → potential setting (step ∷ before) + outputs_by step.act ≤ potential setting before
potential_step setting step before numbered lawful blocks =
    let own : IsOfBlocks setting step.role (step.act ∷ log_of step.role before) =
    own_blocks setting step before blocks in
    let facts : Lightens (load_potential setting.layout) fresh_potential (no_load_weighs setting.layout)
    (taken_weighs setting.layout) step.role (λ buf. place_of buf before) (λ buf. load setting buf before)
    (setting.layout.ports * setting.layout.buffers) step.act
    = lightens_of setting before step.role step.act lawful.1 lawful.0.allowed own in
    omega (
      arith,
      waiting_step setting step before numbered blocks,
      buffers_step (load_potential setting.layout) fresh_potential (no_load_weighs setting.layout)
          (taken_weighs setting.layout) step.role (block_frame setting step.role (log_of step.role before)) step.act
          (λ buf. place_of buf before) (λ buf. load setting buf before)
          (setting.layout.ports * setting.layout.buffers) facts,
    )
