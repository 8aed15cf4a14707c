-- Each frame is recorded or in a buffer, once, from its take or record on.
use Rattle.std.proofs.Common.{◌≡◌, ℕ, ◌+◌, ◌*◌, ◌<◌, ◌≤◌, zero, suc, add-zero, Bool, true, false, inl, inr, [], ◌∷◌, length, refl, sym, ◌∙◌, ap, subst, arith, Option, Some, None}
use Rattle.std.specs.Prelude.{◌==◌, nat_lt}
use Rattle.std.proofs.lemmas.Bool.{cases_Bool, eqb-true, eq-eqb, ne_eqb, cases_order, lt-ltb, le-leb, lt-leb}
use Rattle.onvm_base.specs.declared.ids.RingId.{RingId}
use Rattle.onvm_base.specs.declared.ids.BufId.{BufId}
use Rattle.onvm_base.specs.declared.ids.FrameId.{FrameId}
use Rattle.onvm_core.specs.declared.parcel.Parcel.{Parcel}
use Rattle.onvm_core.specs.declared.step.Item.TheVariants.{Buffer}
use Rattle.onvm_core.specs.declared.step.Act.{Act}
use Rattle.onvm_core.specs.declared.step.Act.TheVariants.{Take, Give, Push, Pop, Look}
use Rattle.onvm_core.specs.declared.step.Step.{Step}
use Rattle.onvm_core.specs.History.{History, popped_from}
use Rattle.onvm_core.specs.Lawful.{AllowsAct, IsLawful}
use Rattle.onvm_core.specs.Records.{records_of_act, records_in}
use Rattle.onvm_core.specs.Places.{how_many, one_if, numbers_below}
use Rattle.onvm_core.specs.Logs.{Setting, entries_of_port, Log, log_of, entry_after, IsNumbered}
use Rattle.onvm_core.specs.Receiving.{receive_phase, MayReceive}
use Rattle.onvm_core.specs.Blocks.{kind_of, MayFollow, IsOfBlocks, AllOfBlocks}
use Rattle.onvm_core.specs.Frames.{Load, load, load_of, load_after, block_frame, frame_of, same_frame, has_frame, buffer_count, record_count, begun_count, has_begun, AllEnded, AllInPool}
use Rattle.onvm_base.specs.declared.outcome.Record.{Record}
use Rattle.onvm_core.specs.declared.entry.Entry.{Entry}
use Rattle.std.specs.Prelude.{◌&&◌, nat_le}
use Rattle.onvm_core.specs.Frames.Load.{Loaded}
use Rattle.onvm_core.proofs.Once.{how_many-append}
use Rattle.onvm_core.proofs.Loads.{own_load, own_load_is, HasLoad, pool_load, popped_load, content_loaded}
use Rattle.onvm_core.proofs.Hands.{LetsGo, lets_go}
use Rattle.std.proofs.lemmas.Option.{slice_get_within}
use Rattle.onvm_core.proofs.Begun.{starts, own_begins, other_starts}
use Rattle.onvm_core.proofs.RoleKinds.{kind_receives, kind_other}

-- Counts below n of two tests that agree but at one number

same_counts : (f g : ℕ → Bool) (n : ℕ) → ((k : ℕ) → f k ≡ g k)
    → how_many f (numbers_below n) ≡ how_many g (numbers_below n)
same_counts f g zero h = refl
same_counts f g (suc n) h = rw (h n, same_counts f g n h) refl

none_below : (f : ℕ → Bool) (n : ℕ) → ((k : ℕ) → k < n → f k ≡ false) → how_many f (numbers_below n) ≡ 0
none_below f zero h = refl
none_below f (suc n) h = omega (arith, ap one_if (h n (omega arith)), none_below f n (λ k less. h k (omega arith)))

same_below : (f g : ℕ → Bool) (n x : ℕ) → n ≤ x → ((k : ℕ) → (k ≡ x → ⊥) → f k ≡ g k)
    → how_many f (numbers_below n) ≡ how_many g (numbers_below n)
same_below f g zero x le h = refl
same_below f g (suc n) x le h = rw (h n (λ e. omega arith), same_below f g n x (omega arith) h) refl

change_one : (f g : ℕ → Bool) (n x : ℕ) → x < n → ((k : ℕ) → (k ≡ x → ⊥) → f k ≡ g k)
    → how_many f (numbers_below n) + one_if (g x) ≡ how_many g (numbers_below n) + one_if (f x)
change_one f g zero x lt h = absurd (omega arith)
change_one f g (suc n) x lt h =
    elim (cases_order x n) [
      | inl e ↦
          rw e (omega (arith, same_below f g n n (omega arith) (subst (λ y. (k : ℕ) → (k ≡ y → ⊥) → f k ≡ g k) e h)))
      | inr (inl less) ↦ omega (arith, change_one f g n x less h, ap one_if (h n (λ e. omega arith)))
      | inr (inr more) ↦ absurd (omega arith)
    ]

abbrev told_of : FrameId → Act → ℕ
told_of frame act = how_many (λ (told : Record). same_frame told.frame frame) (records_of_act act)

abbrev count_after : FrameId → FrameId → Act → (ℕ → Option Load) → ℕ → ℕ
count_after fresh frame act loads n =
    how_many (λ buf. has_frame frame (load_after buf fresh act (loads buf))) (numbers_below n)

abbrev count_of : FrameId → (ℕ → Option Load) → ℕ → ℕ
count_of frame loads n = how_many (λ buf. has_frame frame (loads buf)) (numbers_below n)

-- what must be known of what the buffers have before an act
abbrev pub Fits : (ℕ → Option Load) → ℕ → Act → Type 0
Fits loads n (Take b) = (b.0 < n) × (loads b.0 ≡ None)
Fits loads n (Give b outcome parcel) =
    (b.0 < n) × ((what : Load) × (loads b.0 ≡ Some what) × (frame_of what ≡ parcel.frame))
Fits loads n (Push r (Buffer b parcel)) = (what : Load) × (loads b.0 ≡ Some what) × (frame_of what ≡ parcel.frame)
Fits loads n (Pop r (Buffer b parcel)) = loads b.0 ≡ Some (Loaded parcel)
Fits loads n _ = Unit {0}

keeps : (fresh frame : FrameId) (loads : ℕ → Option Load) (b : BufId) (parcel : Parcel) (what : Load)
    → loads b.0 ≡ Some what → frame_of what ≡ parcel.frame → (buf : ℕ)
    → has_frame frame (load_of buf (Buffer b parcel) (loads buf)) ≡ has_frame frame (loads buf)
keeps fresh frame loads b parcel what has of buf =
    elim (cases_Bool (b.0 == buf)) [
      | inl hit ↦ let e : loads buf ≡ Some what = subst (λ k. loads k ≡ Some what) (eqb-true b.0 buf hit) has in
          rw (hit, e) (ap (λ (f : FrameId). same_frame f frame) (sym of))
      | inr miss ↦ rw miss refl
    ]

-- frames in buffers and recorded, before and after an act
count_step : (fresh frame : FrameId) (act : Act) (loads : ℕ → Option Load) (n : ℕ) → Fits loads n act
    → count_after fresh frame act loads n + told_of frame act ≡ count_of frame loads n + starts fresh frame act
count_step fresh frame (Take b) loads n fits =
    let changed : count_after fresh frame (Take b) loads n + one_if (has_frame frame (loads b.0))
    ≡ count_of frame loads n + one_if (has_frame frame (load_after b.0 fresh (Take b) (loads b.0)))
    = change_one (λ buf. has_frame frame (load_after buf fresh (Take b) (loads buf)))
    (λ buf. has_frame frame (loads buf)) n b.0 fits.0
    (λ k apart. rw (ne_eqb b.0 k (λ e. apart (sym e))) refl) in
    let one : one_if (has_frame frame (loads b.0)) ≡ 0 = rw fits.1 refl in
    let two : one_if (has_frame frame (load_after b.0 fresh (Take b) (loads b.0))) ≡ one_if (same_frame fresh frame)
    = rw (eq-eqb b.0 b.0 refl) refl in
    omega (arith, changed, one, two)
count_step fresh frame (Give b outcome parcel) loads n fits =
    let changed : count_after fresh frame (Give b outcome parcel) loads n + one_if (has_frame frame (loads b.0))
    ≡ count_of frame loads n + one_if (has_frame frame (load_after b.0 fresh (Give b outcome parcel) (loads b.0)))
    = change_one (λ buf. has_frame frame (load_after buf fresh (Give b outcome parcel) (loads buf)))
    (λ buf. has_frame frame (loads buf)) n b.0 fits.0
    (λ k apart. rw (ne_eqb b.0 k (λ e. apart (sym e))) refl) in
    let one : one_if (has_frame frame (loads b.0)) ≡ one_if (same_frame parcel.frame frame) =
    rw fits.1.1 (ap (λ (f : FrameId). one_if (same_frame f frame)) fits.1.2) in
    let two : one_if (has_frame frame (load_after b.0 fresh (Give b outcome parcel) (loads b.0))) ≡ 0 =
    rw (eq-eqb b.0 b.0 refl) refl in
    omega (arith, changed, one, two)
count_step fresh frame (Push r (Buffer b parcel)) loads n fits =
    omega (
      arith,
      same_counts (λ buf. has_frame frame (load_of buf (Buffer b parcel) (loads buf)))
          (λ buf. has_frame frame (loads buf)) n (keeps fresh frame loads b parcel fits.0 fits.1 fits.2),
    )
count_step fresh frame (Pop r (Buffer b parcel)) loads n fits =
    omega (
      arith,
      same_counts (λ buf. has_frame frame (load_of buf (Buffer b parcel) (loads buf)))
          (λ buf. has_frame frame (loads buf)) n (keeps fresh frame loads b parcel (Loaded parcel) fits refl),
    )
count_step fresh frame (Look w v (Some told)) loads n fits = omega arith
count_step fresh frame act loads n fits = refl

-- what lawful steps and blocks say of the next act
pub fits_of : (setting : Setting) (before : History) (role : ℕ) (act : Act)
    → IsLawful setting.layout before → AllowsAct setting.layout before role act
    → ((r : RingId) (b : BufId) (p : Parcel) → act ≡ Pop r (Buffer b p) → load setting b.0 before ≡ Some (Loaded p))
    → LetsGo (own_load setting role (log_of role before)) act
    → Fits (λ buf. load setting buf before) (setting.layout.ports * setting.layout.buffers) act
fits_of setting before role (Take b) lawful allowed popped_from lets =
    (allowed.known, pool_load setting before b.0 allowed.in_pool)
fits_of setting before role (Give b outcome parcel) lawful allowed popped_from lets =
    let had : HasLoad setting before role b.0 lets.0 = own_load_is setting before lawful role b.0 lets.0 lets.1 in
    (allowed.holds.known, (lets.0, had.has, lets.2))
fits_of setting before role (Push r (Buffer b parcel)) lawful allowed popped_from lets =
    let had : HasLoad setting before role b.0 lets.0 = own_load_is setting before lawful role b.0 lets.0 lets.1 in
    (lets.0, had.has, lets.2)
fits_of setting before role (Pop r (Buffer b parcel)) lawful allowed popped_from lets = popped_from r b parcel refl
fits_of setting before role act lawful allowed popped_from lets = tt

-- Blocks of earlier steps

pub blocks_before : (setting : Setting) (step : Step) (before : History) → AllOfBlocks setting (step ∷ before)
    → AllOfBlocks setting before
blocks_before setting step before all role =
    elim (cases_Bool (step.role == role)) [
      | inl mine ↦ let own : IsOfBlocks setting role (step.act ∷ log_of role before) = rw mine at (all role) in own.1
      | inr foreign ↦ rw foreign at (all role)
    ]

pub own_blocks : (setting : Setting) (step : Step) (before : History) → AllOfBlocks setting (step ∷ before)
    → IsOfBlocks setting step.role (step.act ∷ log_of step.role before)
own_blocks setting step before all =
    let mine : (step.role == step.role) ≡ true = eq-eqb step.role step.role refl in rw mine at (all step.role)

-- each step adds to a frame's records and buffers just what it begins
pub total_step : (setting : Setting) (frame : FrameId) (step : Step) (before : History)
    → IsNumbered setting → IsLawful setting.layout (step ∷ before) → AllOfBlocks setting (step ∷ before)
    → record_count frame (step ∷ before) + buffer_count setting frame (step ∷ before)
    ≡ record_count frame before + buffer_count setting frame before
    + starts (block_frame setting step.role (log_of step.role before)) frame step.act
total_step setting frame step before numbered lawful blocks =
    let own : IsOfBlocks setting step.role (step.act ∷ log_of step.role before) =
    own_blocks setting step before blocks in
    let lets : LetsGo (own_load setting step.role (log_of step.role before)) step.act =
    lets_go setting step.role (log_of step.role before) step.act numbered own in
    let popped_from : (r : RingId) (b : BufId) (p : Parcel) → step.act ≡ Pop r (Buffer b p)
    → load setting b.0 before ≡ Some (Loaded p)
    = popped_load setting step before lawful (content_loaded setting before lawful.1) in
    let fits : Fits (λ buf. load setting buf before) (setting.layout.ports * setting.layout.buffers) step.act =
    fits_of setting before step.role step.act lawful.1 lawful.0.allowed popped_from lets in
    let counted : buffer_count setting frame (step ∷ before) + told_of frame step.act
    ≡ buffer_count setting frame before
    + starts (block_frame setting step.role (log_of step.role before)) frame step.act
    = count_step (block_frame setting step.role (log_of step.role before)) frame step.act
    (λ buf. load setting buf before) (setting.layout.ports * setting.layout.buffers) fits in
    let recs : record_count frame (step ∷ before) ≡ record_count frame before + told_of frame step.act =
    how_many-append (λ (told : Record). same_frame told.frame frame) (records_in before) (records_of_act step.act) in
    omega (arith, counted, recs)

-- Which frames have begun

begun_more : (number b : ℕ)
    → one_if (nat_lt 0 number && nat_le number (b + 1))
    ≡ one_if (nat_lt 0 number && nat_le number b) + one_if (b + 1 == number)
begun_more number b =
    elim (cases_order number (b + 1)) [
      | inl e ↦
          rw (
            e,
            lt-ltb 0 (b + 1) (omega arith),
            le-leb (b + 1) (b + 1) (omega arith),
            lt-leb (b + 1) b (omega arith),
            eq-eqb (b + 1) (b + 1) refl,
          ) refl
      | inr (inl less) ↦
          rw
          (le-leb number (b + 1) (omega arith), le-leb number b (omega arith), ne_eqb (b + 1) number (λ e. omega arith))
          (sym (add-zero (one_if (nat_lt 0 number && true))))
      | inr (inr more) ↦
          rw (lt-leb number (b + 1) more, lt-leb number b (omega arith), ne_eqb (b + 1) number (λ e. omega arith))
          (sym (add-zero (one_if (nat_lt 0 number && false))))
    ]

same_frame_port : (role number : ℕ) (frame : FrameId) → (role == frame.port.0) ≡ false
    → one_if (same_frame (record { port = record { 0 = role }; number = number }) frame) ≡ 0
same_frame_port role number frame e = rw e refl

-- a step of a role begins no frame of another port
foreign_starts : (setting : Setting) (role : ℕ) (log : Log) (act : Act) (frame : FrameId)
    → IsNumbered setting → IsOfBlocks setting role (act ∷ log) → (role == frame.port.0) ≡ false
    → starts (block_frame setting role log) frame act ≡ 0
foreign_starts setting role log act frame numbered own foreign =
    elim (cases_Bool (nat_lt role setting.layout.ports)) [
      | inl met ↦
          let may : MayReceive setting role log act =
          subst (λ k. MayFollow setting role k log act) (kind_receives setting.layout role met) own.0 in
          elim (own_begins setting role log act frame numbered may) [
            | inl none ↦ none.1
            | inr one ↦ one.1 ∙ same_frame_port role (begun_count (receive_phase setting log) + 1) frame foreign
          ]
      | inr unmet ↦
          other_starts setting role (kind_of setting.layout role) log act (block_frame setting role log) frame
          (kind_other setting.layout role unmet) own.0
    ]

begun_own : (setting : Setting) (log : Log) (act : Act) (frame : FrameId) (port : ℕ)
    → IsNumbered setting → (port == frame.port.0) ≡ true → MayReceive setting port log act
    → one_if (nat_lt 0 frame.number && nat_le frame.number (begun_count (receive_phase setting (act ∷ log))))
    ≡ one_if (nat_lt 0 frame.number && nat_le frame.number (begun_count (receive_phase setting log)))
    + starts (block_frame setting port log) frame act
begun_own setting log act frame port numbered same may =
    elim (own_begins setting port log act frame numbered may) [
      | inl none ↦ omega (arith, none.1, ap (λ (n : ℕ). one_if (nat_lt 0 frame.number && nat_le frame.number n)) none.0)
      | inr one ↦
          let started : starts (block_frame setting port log) frame act
          ≡ one_if (begun_count (receive_phase setting log) + 1 == frame.number)
          = one.1 ∙ rw same refl in
          omega (
            arith,
            started,
            ap (λ (n : ℕ). one_if (nat_lt 0 frame.number && nat_le frame.number n)) one.0,
            begun_more frame.number (begun_count (receive_phase setting log)),
          )
    ]

begun_step : (setting : Setting) (frame : FrameId) (step : Step) (before : History)
    → IsNumbered setting → AllOfBlocks setting (step ∷ before)
    → one_if (has_begun setting frame (step ∷ before))
    ≡ one_if (has_begun setting frame before)
    + starts (block_frame setting step.role (log_of step.role before)) frame step.act
begun_step setting frame step before numbered blocks =
    let own : IsOfBlocks setting step.role (step.act ∷ log_of step.role before) =
    own_blocks setting step before blocks in
    elim (cases_Bool (step.role == frame.port.0)) [
      | inl mine ↦ let same : step.role ≡ frame.port.0 = eqb-true step.role frame.port.0 mine in
          elim (cases_Bool (nat_lt frame.port.0 setting.layout.ports)) [
            | inl known ↦ let known_role : nat_lt step.role setting.layout.ports ≡ true = rw same known in
                let may : MayReceive setting step.role (log_of step.role before) step.act =
                subst (λ k. MayFollow setting step.role k (log_of step.role before) step.act)
                (kind_receives setting.layout step.role known_role) own.0 in
                let sum : one_if (nat_lt 0 frame.number && nat_le frame.number
                (begun_count (receive_phase setting (step.act ∷ log_of step.role before))))
                ≡ one_if (nat_lt 0 frame.number && nat_le frame.number
                (begun_count (receive_phase setting (log_of step.role before))))
                + starts (block_frame setting step.role (log_of step.role before)) frame step.act
                = begun_own setting (log_of step.role before) step.act frame step.role numbered mine may in
                let log_now : log_of frame.port.0 (step ∷ before) ≡ step.act ∷ log_of step.role before =
                rw mine (ap (λ (n : ℕ). step.act ∷ log_of n before) (sym same)) in
                let now : one_if (has_begun setting frame (step ∷ before))
                ≡ one_if (nat_lt 0 frame.number && nat_le frame.number
                (begun_count (receive_phase setting (step.act ∷ log_of step.role before))))
                = rw known (ap (λ (l : Log).
                one_if (nat_lt 0 frame.number && nat_le frame.number
                (begun_count (receive_phase setting l)))) log_now) in
                let was : one_if (has_begun setting frame before)
                ≡ one_if (nat_lt 0 frame.number && nat_le frame.number
                (begun_count (receive_phase setting (log_of step.role before))))
                = rw (known, ← same) refl in
                now
                ∙ sum
                ∙ ap (λ (n : ℕ). n + starts (block_frame setting step.role (log_of step.role before)) frame step.act)
                (sym was)
            | inr unknown ↦ let unknown_role : nat_lt step.role setting.layout.ports ≡ false = rw same unknown in
                let none : starts (block_frame setting step.role (log_of step.role before)) frame step.act ≡ 0 =
                other_starts setting step.role (kind_of setting.layout step.role) (log_of step.role before) step.act
                (block_frame setting step.role (log_of step.role before)) frame
                (kind_other setting.layout step.role unknown_role) own.0 in
                rw (unknown, none) refl
          ]
      | inr foreign ↦
          let none : starts (block_frame setting step.role (log_of step.role before)) frame step.act ≡ 0 =
          foreign_starts setting step.role (log_of step.role before) step.act frame numbered own foreign in
          rw (foreign, none) (sym (add-zero (one_if (has_begun setting frame before))))
    ]

none_counted : (n : ℕ) → how_many (λ (buf : ℕ). false) (numbers_below n) ≡ 0
none_counted zero = refl
none_counted (suc n) = ap (λ (m : ℕ). 0 + m) (none_counted n)

none_begun : (number : ℕ) → one_if (nat_lt 0 number && nat_le number 0) ≡ 0
none_begun number = elim (cases_order number 0) [
  | inl e ↦ rw e refl
  | inr (inl less) ↦ absurd (omega arith)
  | inr (inr more) ↦ rw (lt-leb number 0 more, lt-ltb 0 number more) refl
]

-- a frame that has begun has one record or is in one buffer, and no other frame has or is
pub one_record_or_buffer : (setting : Setting) (frame : FrameId) (past : History)
    → IsNumbered setting → IsLawful setting.layout past → AllOfBlocks setting past
    → record_count frame past + buffer_count setting frame past ≡ one_if (has_begun setting frame past)
one_record_or_buffer setting frame [] numbered lawful blocks =
    elim (cases_Bool (nat_lt frame.port.0 setting.layout.ports)) [
      | inl known ↦
          rw (known, none_begun frame.number, none_counted (setting.layout.ports * setting.layout.buffers)) refl
      | inr unknown ↦ rw (unknown, none_counted (setting.layout.ports * setting.layout.buffers)) refl
    ]
one_record_or_buffer setting frame (step ∷ before) numbered lawful blocks =
    let earlier : record_count frame before + buffer_count setting frame before
    ≡ one_if (has_begun setting frame before)
    = one_record_or_buffer setting frame before numbered lawful.1 (blocks_before setting step before blocks) in
    omega (
      arith,
      earlier,
      total_step setting frame step before numbered lawful blocks,
      begun_step setting frame step before numbered blocks,
    )

-- where every block has ended and all buffers are back, each frame has one record
pub one_record : (setting : Setting) (past : History)
    → IsNumbered setting → IsLawful setting.layout past → AllOfBlocks setting past → AllEnded setting past
    → AllInPool setting past → (port number : ℕ) (e : Entry) → port < setting.layout.ports
    → entry_after setting port number ≡ Some e
    → record_count e.frame past ≡ 1
one_record setting past numbered lawful blocks ended pooled port number e known found =
    let frame : FrameId = record { port = record { 0 = port }; number = number + 1 } in
    let named : e.frame ≡ frame = numbered port number e found in
    let total : record_count frame past + buffer_count setting frame past ≡ one_if (has_begun setting frame past) =
    one_record_or_buffer setting frame past numbered lawful blocks in
    let none : buffer_count setting frame past ≡ 0 =
    none_below (λ buf. has_frame frame (load setting buf past)) (setting.layout.ports * setting.layout.buffers)
    (λ buf known. ap (has_frame frame) (pool_load setting past buf (pooled buf known))) in
    let within : number < length (entries_of_port port setting.entries) =
    slice_get_within (entries_of_port port setting.entries) number e found in
    let begun : has_begun setting frame past ≡ true =
    rw (
      lt-ltb port setting.layout.ports known,
      ended port known,
      lt-ltb 0 (number + 1) (omega arith),
      le-leb (number + 1) (length (entries_of_port port setting.entries)) (omega arith),
    ) refl in
    let one : record_count frame past ≡ 1 = omega (arith, total, none, ap one_if begun) in
    ap (λ (f : FrameId). record_count f past) named ∙ one
