-- The crumbs of each parcel lead from the captured bytes to its own.
use Rattle.std.proofs.Common.{◌≡◌, ℕ, ◌≤◌, ◌⊎◌, inl, inr, [], ◌∷◌, length, refl, sym, ◌∙◌, ap, subst, arith, Option, Some, None}
use Rattle.std.specs.Prelude.{slice_get, ◌==◌}
use Rattle.std.proofs.lemmas.Bool.{cases_Bool, eq-eqb}
use Rattle.onvm_base.specs.declared.ids.RingId.{RingId}
use Rattle.onvm_base.specs.declared.ids.BufId.{BufId}
use Rattle.onvm_base.specs.declared.ids.FnId.{FnId}
use Rattle.onvm_base.specs.declared.ids.FrameId.{FrameId}
use Rattle.onvm_core.specs.declared.parcel.Parcel.{Parcel}
use Rattle.onvm_core.specs.declared.step.Item.TheVariants.{Buffer}
use Rattle.onvm_core.specs.declared.step.Act.{Act}
use Rattle.onvm_core.specs.declared.step.Act.TheVariants.{Take, Give, Push, Pop}
use Rattle.onvm_core.specs.declared.step.Step.{Step}
use Rattle.onvm_core.specs.Layouts.{producer, core_role}
use Rattle.onvm_core.specs.History.{History, pushed_on, popped_from}
use Rattle.onvm_core.specs.Lawful.{AllowsAct, IsLawful}
use Rattle.onvm_core.specs.Logs.{Setting, Log, log_of, Hand, entry_after, push_count, last_crumb, with_cursor}
use Rattle.onvm_core.specs.Receiving.{ReceivePhase, receive_phase, done_count, MayReceiveFor}
use Rattle.onvm_core.specs.Handling.{core_hand, MayHandle, crumb_place}
use Rattle.onvm_core.specs.Sending.{SendPhase, send_phase, MaySend}
use Rattle.onvm_core.specs.Blocks.{RoleKind, kind_of, IsOfBlocks, AllOfBlocks}
use Rattle.onvm_core.specs.Frames.{Load, load, load_after, block_frame}
use Rattle.onvm_core.specs.Journals.{IsTraced, Names, HasShortJournals, journal, journal_of, handlings, verdict_in, last_popped_parcel}
use Rattle.onvm_base.specs.declared.outcome.Outcome.{Outcome}
use Rattle.onvm_base.specs.declared.outcome.Outcome.TheVariants.{Sent, Dropped, Throttled, RingFull, PoolEmpty}
use Rattle.onvm_base.specs.declared.ids.RingId.TheVariants.{Lane, Output, Mail}
use Rattle.onvm_core.specs.declared.entry.Entry.{Entry}
use Rattle.onvm_core.specs.Receiving.ReceivePhase.{Took, Barred}
use Rattle.onvm_core.specs.Sending.SendPhase.{Free, Moves as Sending, TurnsBack}
use Rattle.onvm_core.specs.Blocks.RoleKind.{Receives, Sends, Handles}
use Rattle.onvm_core.specs.Frames.Load.{Fresh, Loaded}
use Rattle.onvm_core.proofs.Loads.{own_load, own_load_is, HasLoad, popped_load, content_loaded}
use Rattle.onvm_core.proofs.Hands.{is_kind, IsKind}
use Rattle.std.proofs.Common.{length-append}
use Rattle.std.specs.Prelude.{min}
use Rattle.std.proofs.lemmas.Option.{slice_get_within}
use Rattle.onvm_core.proofs.Hands.{HasHand, HasSend, core_has, send_has}
use Rattle.onvm_core.proofs.Balance.{own_blocks, blocks_before}
use Rattle.onvm_core.proofs.Counted.{popped_in_hand, journal_length}
use Rattle.onvm_core.proofs.Trails.{Enters, Handled, entered_traced, entry_added, handled_traced, log_on, moved_traced, traced_on}

-- Where a pushed parcel comes from

abbrev Moved : Option (ℕ × Load) → BufId → Parcel → Type 0
Moved own b parcel =
    (was : Parcel) × (cursor : ℕ) × (own ≡ Some (b.0, Loaded was)) × (parcel ≡ with_cursor cursor was)

abbrev ComesFrom : Setting → RoleKind → Option (ℕ × Load) → Log → RingId → BufId → Parcel → Type 0
ComesFrom setting kind own log ring b parcel =
    Enters setting parcel ⊎ (((kind ≡ Handles) × Handled own log ring b parcel) ⊎ Moved own b parcel)

comes_receive : (setting : Setting) (port : ℕ) (e : Entry) (phase : ReceivePhase) (ring : RingId) (b : BufId)
    (parcel : Parcel)
    → entry_after setting port (done_count phase) ≡ Some e
    → MayReceiveFor setting port e phase (Push ring (Buffer b parcel))
    → Enters setting parcel
comes_receive setting port e (Took done buf) ring b parcel found may = (e, port, done, found, may.1)
comes_receive setting port e phase ring b parcel found may = absurd may

comes_core : (setting : Setting) (role : ℕ) (log : Log) (own : Option (ℕ × Load)) (ring : RingId) (b : BufId)
    (parcel : Parcel) → HasHand own (core_hand log) → MayHandle setting role log (Push ring (Buffer b parcel))
    → Handled own log ring b parcel
comes_core setting role log own (Output f) b parcel h may =
    record {
      function = f;
      hand = may.hand;
      ring_is = refl;
      held_is = may.held;
      same = may.same;
      owns = subst (HasHand own) may.held h ∙ ap (λ (n : ℕ). Some (n, Loaded may.hand.parcel)) may.same;
      handled = may.handled;
    }
comes_core setting role log own (Lane f p) b parcel h may = absurd may
comes_core setting role log own (Mail f) b parcel h may = absurd may

comes_send : (setting : Setting) (feeder : ℕ) (phase : SendPhase) (own : Option (ℕ × Load)) (ring : RingId)
    (b : BufId) (parcel : Parcel) → HasSend own phase → MaySend setting feeder phase (Push ring (Buffer b parcel))
    → Moved own b parcel
comes_send setting feeder Free own ring b parcel h may = absurd may
comes_send setting feeder (Sending hand) own ring b parcel h may = (
  hand.parcel,
  may.1.0,
  h ∙ ap (λ (n : ℕ). Some (n, Loaded hand.parcel)) (sym may.0),
  may.1.2,
)
comes_send setting feeder (TurnsBack hand r) own ring b parcel h may = absurd may

comes_from : (setting : Setting) (role : ℕ) (kind : RoleKind) (log : Log) (ring : RingId) (b : BufId) (parcel : Parcel)
    → IsKind setting role kind (Push ring (Buffer b parcel) ∷ log)
    → ComesFrom setting kind (own_load setting role log) log ring b parcel
comes_from setting role Receives log ring b parcel h =
    elim h.0 [
      | inl mark ↦ absurd mark.1
      | inr block ↦ inl (comes_receive setting role block.0 (receive_phase setting log) ring b parcel block.1 block.2)
    ]
comes_from setting role Sends log ring b parcel h =
    inr (inr (comes_send setting role (send_phase log) (own_load setting role log) ring b parcel
    (send_has setting role log h.1) h.0))
comes_from setting role Handles log ring b parcel h =
    inr (inl (
      refl,
      comes_core setting role log (own_load setting role log) ring b parcel (core_has setting role log h.1) h.0,
    ))
comes_from setting role kind log ring b parcel h = absurd h.0

-- the place of an entry that a short journal gets fits a crumb
entry_fits : (setting : Setting) (step : Step) (before : History) (f : FnId) (b : BufId) (parcel was : Parcel)
    → step.act ≡ Push (Output f) (Buffer b parcel) → step.role ≡ core_role setting.layout f.0
    → last_popped_parcel b.0 (log_of step.role before) ≡ Some was
    → length (journal_of setting (step ∷ before) f) ≤ 4294967296
    → length (journal f (log_of step.role before)) ≡ push_count (Output f) (log_of step.role before)
    → push_count (Output f) (log_of step.role before) ≤ 4294967295
entry_fits setting step before f b parcel was acts role has few long =
    let log : Log = log_of step.role before in
    let whole : journal_of setting (step ∷ before) f ≡ journal f (Push (Output f) (Buffer b parcel) ∷ log) =
    ap (journal f) (log_on (core_role setting.layout f.0) step before (Push (Output f) (Buffer b parcel)) acts role) in
    let added : slice_get (journal f (Push (Output f) (Buffer b parcel) ∷ log)) (push_count (Output f) log)
    ≡ Some (record { before = was; verdict = verdict_in (last_crumb parcel.trail); bytes = parcel.packet })
    = entry_added f log b parcel was (push_count (Output f) log) has long in
    omega (
      arith,
      few,
      ap length whole,
      slice_get_within (journal f (Push (Output f) (Buffer b parcel) ∷ log)) (push_count (Output f) log)
          (record { before = was; verdict = verdict_in (last_crumb parcel.trail); bytes = parcel.packet }) added,
    )

min_is : (n : ℕ) → n ≤ 4294967295 → min n 4294967295 ≡ n
min_is n le = omega arith

-- journals that are short were so before
journal_longer : (setting : Setting) (step : Step) (before : History) (f : FnId)
    → length (journal_of setting before f) ≤ length (journal_of setting (step ∷ before) f)
journal_longer setting step before f =
    elim (cases_Bool (step.role == core_role setting.layout f.0)) [
      | inl met ↦
          rw met (omega (
            arith,
            length-append (journal_of setting before f)
                (handlings f step.act (log_of (core_role setting.layout f.0) before)),
          ))
      | inr unmet ↦ rw unmet (omega arith)
    ]

short_before : (setting : Setting) (step : Step) (before : History) → HasShortJournals setting (step ∷ before)
    → HasShortJournals setting before
short_before setting step before few f = omega (arith, few f, journal_longer setting step before f)

-- what a role pushes is traced where all loads were
pushed_traced : (setting : Setting) (step : Step) (before : History) (ring : RingId) (b : BufId) (parcel : Parcel)
    → step.act ≡ Push ring (Buffer b parcel) → IsLawful setting.layout (step ∷ before)
    → IsOfBlocks setting step.role (Push ring (Buffer b parcel) ∷ log_of step.role before)
    → HasShortJournals setting (step ∷ before)
    → ((buf : ℕ) (p : Parcel) → load setting buf before ≡ Some (Loaded p) → IsTraced setting before p)
    → IsTraced setting (step ∷ before) parcel
pushed_traced setting step before ring b parcel acts lawful blocks few all =
    let kind : RoleKind = kind_of setting.layout step.role in
    let log : Log = log_of step.role before in
    let kinds : IsKind setting step.role kind (Push ring (Buffer b parcel) ∷ log) =
    is_kind setting step.role (Push ring (Buffer b parcel) ∷ log) kind refl blocks in
    let allowed : AllowsAct setting.layout before step.role (Push ring (Buffer b parcel)) =
    subst (AllowsAct setting.layout before step.role) acts lawful.0.allowed in
    elim (comes_from setting step.role kind log ring b parcel kinds) [
      | inl enters ↦ entered_traced setting (step ∷ before) parcel enters
      | inr (inl (core, made)) ↦
          let had : HasLoad setting before step.role b.0 (Loaded made.hand.parcel) =
          own_load_is setting before lawful.1 step.role b.0 (Loaded made.hand.parcel) made.owns in
          let role : step.role ≡ core_role setting.layout made.function.0 =
          allowed.own_end ∙ ap (producer setting.layout) made.ring_is in
          let core_kind : IsKind setting step.role Handles log = is_kind setting step.role log Handles core blocks.1 in
          let pushes_so : step.act ≡ Push (Output made.function) (Buffer b parcel) =
          acts ∙ ap (λ (r : RingId). Push r (Buffer b parcel)) made.ring_is in
          let was : last_popped_parcel b.0 log ≡ Some made.hand.parcel =
          popped_in_hand setting step.role log b.0 made.hand core_kind made.held_is made.same in
          let long : length (journal made.function log) ≡ push_count (Output made.function) log =
          journal_length made.function setting step.role log core_kind in
          let fits : push_count (Output made.function) log ≤ 4294967295 =
          entry_fits setting step before made.function b parcel made.hand.parcel pushes_so role was
          (few made.function) long in
          handled_traced setting step before made.function made.hand b parcel
          (crumb_place made.function log) pushes_so role was
          (long ∙ sym (min_is (push_count (Output made.function) log) fits)) made.handled
          (all b.0 made.hand.parcel had.has)
      | inr (inr moved) ↦
          let had : HasLoad setting before step.role b.0 (Loaded moved.0) =
          own_load_is setting before lawful.1 step.role b.0 (Loaded moved.0) moved.2 in
          moved_traced setting (step ∷ before) moved.0 parcel moved.1 moved.3
          (traced_on setting step before moved.0 (all b.0 moved.0 had.has))
    ]

-- what is loaded after an act was so before, or is what the act names
loaded_by : (buf : ℕ) (fresh : FrameId) (act : Act) (was : Option Load) (parcel : Parcel)
    → load_after buf fresh act was ≡ Some (Loaded parcel)
    → (was ≡ Some (Loaded parcel))
    ⊎ (((r : RingId) × (b : BufId) × (act ≡ Push r (Buffer b parcel)))
    ⊎ ((r : RingId) × (b : BufId) × (act ≡ Pop r (Buffer b parcel))))
loaded_by buf fresh (Take b) was parcel e =
    elim (cases_Bool (b.0 == buf)) [
      | inl hit ↦ absurd (let off : Some (Fresh fresh) ≡ Some (Loaded parcel) = rw hit at e in cc)
      | inr miss ↦ inl (rw miss at e)
    ]
loaded_by buf fresh (Give b outcome p) was parcel e =
    elim (cases_Bool (b.0 == buf)) [
      | inl hit ↦ absurd (let off : None ≡ Some (Loaded parcel) = rw hit at e in cc)
      | inr miss ↦ inl (rw miss at e)
    ]
loaded_by buf fresh (Push r (Buffer b p)) was parcel e =
    elim (cases_Bool (b.0 == buf)) [
      | inl hit ↦
          let one : Some (Loaded p) ≡ Some (Loaded parcel) = rw hit at e in
          let same : p ≡ parcel = cc in inr (inl (r, b, ap (λ (q : Parcel). Push r (Buffer b q)) same))
      | inr miss ↦ inl (rw miss at e)
    ]
loaded_by buf fresh (Pop r (Buffer b p)) was parcel e =
    elim (cases_Bool (b.0 == buf)) [
      | inl hit ↦
          let one : Some (Loaded p) ≡ Some (Loaded parcel) = rw hit at e in
          let same : p ≡ parcel = cc in inr (inr (r, b, ap (λ (q : Parcel). Pop r (Buffer b q)) same))
      | inr miss ↦ inl (rw miss at e)
    ]
loaded_by buf fresh act was parcel e = inl e

-- each parcel in a buffer is traced
pub loads_traced : (setting : Setting) (past : History)
    → IsLawful setting.layout past → AllOfBlocks setting past → HasShortJournals setting past
    → (buf : ℕ) (parcel : Parcel) → load setting buf past ≡ Some (Loaded parcel)
    → IsTraced setting past parcel
loads_traced setting [] lawful blocks few buf parcel e = absurd (let off : None ≡ Some (Loaded parcel) = e in cc)
loads_traced setting (step ∷ before) lawful blocks few buf parcel e =
    let all : (b : ℕ) (p : Parcel) → load setting b before ≡ Some (Loaded p) → IsTraced setting before p =
    loads_traced setting before lawful.1 (blocks_before setting step before blocks)
    (short_before setting step before few) in
    elim (loaded_by buf (block_frame setting step.role (log_of step.role before)) step.act
    (load setting buf before) parcel e) [
      | inl was ↦ traced_on setting step before parcel (all buf parcel was)
      | inr (inl pushed_on) ↦
          pushed_traced setting step before pushed_on.0 pushed_on.1 parcel pushed_on.2 lawful
          (subst (λ a. IsOfBlocks setting step.role (a ∷ log_of step.role before)) pushed_on.2
          (own_blocks setting step before blocks)) few all
      | inr (inr popped_from) ↦
          traced_on setting step before parcel (all popped_from.1.0 parcel (popped_load setting step before lawful
          (content_loaded setting before lawful.1) popped_from.0 popped_from.1 parcel popped_from.2))
    ]

-- what a role gives is an entering parcel, or what it had, perhaps moved
given_receive : (setting : Setting) (port : ℕ) (e : Entry) (phase : ReceivePhase) (b : BufId) (outcome : Outcome)
    (parcel : Parcel)
    → entry_after setting port (done_count phase) ≡ Some e → MayReceiveFor setting port e phase (Give b outcome parcel)
    → Enters setting parcel
given_receive setting port e (Took done buf) b (Sent q) parcel found may = (e, port, done, found, may.1)
given_receive setting port e (Took done buf) b (Dropped f why) parcel found may = absurd may
given_receive setting port e (Took done buf) b (Throttled x y z) parcel found may = absurd may
given_receive setting port e (Took done buf) b (RingFull r) parcel found may = absurd may
given_receive setting port e (Took done buf) b PoolEmpty parcel found may = absurd may
given_receive setting port e (Barred done buf r) b outcome parcel found may = (e, port, done, found, may.2)
given_receive setting port e phase b outcome parcel found may = absurd may

was_moved : (own : Option (ℕ × Load)) (hand : Hand) (b : BufId) (parcel : Parcel) (cursor : ℕ)
    → own ≡ Some (hand.buf, Loaded hand.parcel) → b.0 ≡ hand.buf → parcel ≡ with_cursor cursor hand.parcel
    → Moved own b parcel
was_moved own hand b parcel cursor h same is =
    (hand.parcel, cursor, h ∙ ap (λ (n : ℕ). Some (n, Loaded hand.parcel)) (sym same), is)

given_send : (setting : Setting) (feeder : ℕ) (phase : SendPhase) (own : Option (ℕ × Load)) (b : BufId)
    (outcome : Outcome) (parcel : Parcel) → HasSend own phase → MaySend setting feeder phase (Give b outcome parcel)
    → Moved own b parcel
given_send setting feeder (Sending hand) own b (Sent q) parcel h may =
    was_moved own hand b parcel hand.parcel.cursor h may.0 may.2
given_send setting feeder (Sending hand) own b (Dropped f why) parcel h may =
    was_moved own hand b parcel hand.parcel.cursor h may.0 may.3
given_send setting feeder (TurnsBack hand r) own b outcome parcel h may =
    was_moved own hand b parcel may.2.0 h may.0 may.2.2
given_send setting feeder phase own b outcome parcel h may = absurd may

given_from : (setting : Setting) (role : ℕ) (kind : RoleKind) (log : Log) (b : BufId) (outcome : Outcome)
    (parcel : Parcel)
    → IsKind setting role kind (Give b outcome parcel ∷ log)
    → Enters setting parcel ⊎ Moved (own_load setting role log) b parcel
given_from setting role Receives log b outcome parcel h =
    elim h.0 [
      | inl mark ↦ absurd mark.1
      | inr block ↦
          inl (given_receive setting role block.0 (receive_phase setting log) b outcome parcel block.1 block.2)
    ]
given_from setting role Sends log b outcome parcel h =
    inr (given_send setting role (send_phase log) (own_load setting role log) b outcome parcel
    (send_has setting role log h.1) h.0)
given_from setting role kind log b outcome parcel h = absurd h.0

given_traced : (setting : Setting) (step : Step) (before : History) (b : BufId) (outcome : Outcome) (parcel : Parcel)
    → step.act ≡ Give b outcome parcel → IsLawful setting.layout before
    → IsOfBlocks setting step.role (Give b outcome parcel ∷ log_of step.role before)
    → ((buf : ℕ) (p : Parcel) → load setting buf before ≡ Some (Loaded p) → IsTraced setting before p)
    → IsTraced setting (step ∷ before) parcel
given_traced setting step before b outcome parcel acts lawful blocks all =
    elim (given_from setting step.role (kind_of setting.layout step.role) (log_of step.role before) b outcome parcel
    (is_kind setting step.role (Give b outcome parcel ∷ log_of step.role before)
    (kind_of setting.layout step.role) refl blocks)) [
      | inl enters ↦ entered_traced setting (step ∷ before) parcel enters
      | inr moved ↦
          let had : HasLoad setting before step.role b.0 (Loaded moved.0) =
          own_load_is setting before lawful step.role b.0 (Loaded moved.0) moved.2 in
          moved_traced setting (step ∷ before) moved.0 parcel moved.1 moved.3
          (traced_on setting step before moved.0 (all b.0 moved.0 had.has))
    ]

named_traced : (setting : Setting) (step : Step) (before : History) (act : Act) (parcel : Parcel)
    → step.act ≡ act → IsLawful setting.layout (step ∷ before) → AllOfBlocks setting (step ∷ before)
    → HasShortJournals setting (step ∷ before) → Names act parcel
    → IsTraced setting (step ∷ before) parcel
named_traced setting step before (Push r (Buffer b p)) parcel acts lawful blocks few names =
    loads_traced setting (step ∷ before) lawful blocks few b.0 parcel
    (rw (acts, eq-eqb b.0 b.0 refl) (ap (λ (q : Parcel). Some (Loaded q)) names))
named_traced setting step before (Pop r (Buffer b p)) parcel acts lawful blocks few names =
    loads_traced setting (step ∷ before) lawful blocks few b.0 parcel
    (rw (acts, eq-eqb b.0 b.0 refl) (ap (λ (q : Parcel). Some (Loaded q)) names))
named_traced setting step before (Give b outcome p) parcel acts lawful blocks few names =
    subst (IsTraced setting (step ∷ before)) names
    (given_traced setting step before b outcome p acts lawful.1
    (subst (λ a. IsOfBlocks setting step.role (a ∷ log_of step.role before)) acts
    (own_blocks setting step before blocks))
    (loads_traced setting before lawful.1 (blocks_before setting step before blocks)
    (short_before setting step before few)))
named_traced setting step before act parcel acts lawful blocks few names = absurd names

-- each parcel that is pushed, popped or given is traced
pub each_traced : (setting : Setting) (step : Step) (before : History) (parcel : Parcel)
    → IsLawful setting.layout (step ∷ before) → AllOfBlocks setting (step ∷ before)
    → HasShortJournals setting (step ∷ before) → Names step.act parcel
    → IsTraced setting (step ∷ before) parcel
each_traced setting step before parcel lawful blocks few names =
    named_traced setting step before step.act parcel refl lawful blocks few names
