-- The counts of a core's samples make up the journals of its functions.
use Rattle.std.proofs.Common.{◌≡◌, ℕ, ◌+◌, ◌<◌, Bool, true, false, inl, inr, [], ◌∷◌, length, refl, sym, ◌∙◌, ap, subst, arith, length-append, Some, None}
use Rattle.std.specs.Prelude.{if◌then◌else◌, ◌==◌}
use Rattle.std.proofs.lemmas.Bool.{cases_Bool, eq-eqb, eqb-true}
use Rattle.std.proofs.lemmas.List.{append-nil}
use Rattle.onvm_base.specs.declared.ids.FnId.{FnId}
use Rattle.onvm_base.specs.declared.ids.RingId.TheVariants.{Lane, Output, Mail}
use Rattle.onvm_core.specs.declared.parcel.Parcel.{Parcel}
use Rattle.onvm_core.specs.declared.step.Item.TheVariants.{Buffer, Number}
use Rattle.onvm_core.specs.declared.step.Act.{Act}
use Rattle.onvm_core.specs.declared.step.Act.TheVariants.{Push, Full, Pop}
use Rattle.onvm_core.specs.History.{History}
use Rattle.onvm_core.specs.Layouts.{IsLayout, core_role}
use Rattle.onvm_core.specs.Logs.{Setting, Log, log_of, Hand, push_count}
use Rattle.onvm_core.specs.Handling.{core_hand, hand_after, MayHandle}
use Rattle.onvm_core.specs.Blocks.{IsOfBlocks}
use Rattle.onvm_core.specs.Blocks.RoleKind.{Handles}
use Rattle.onvm_core.specs.Journals.{journal, journal_of, handlings, last_popped_parcel, popped_or}
use Rattle.onvm_core.specs.Samples.{count_in, is_sampled, sampled_after, unsampled_count_after, unsampled_count, mailed_count, lost_count, MaySample, AreSamples}
use Rattle.onvm_core.proofs.RoleKinds.{core_handles}
use Rattle.onvm_core.proofs.Hands.{IsKind, is_kind}
use Rattle.onvm_core.proofs.Lists.{if_met, if_unmet}
use Rattle.onvm_core.specs.declared.step.Item.{Item}

-- Journals

-- the buffer was popped with some parcel
abbrev WasPopped : ℕ → Log → Type 0
WasPopped buf log = (was : Parcel) × (last_popped_parcel buf log ≡ Some was)

popped_still : (buf : ℕ) (act : Act) (before : Log) → WasPopped buf before → WasPopped buf (act ∷ before)
popped_still buf (Pop r (Buffer b parcel)) before h =
    elim (cases_Bool (b.0 == buf)) [ inl met ↦ (parcel, rw met refl) | inr unmet ↦ (h.0, rw unmet h.1) ]
popped_still buf act before h = h

some_hand : (a b : Hand) → Some a ≡ Some b → a ≡ b
some_hand a b e = cc

hand_step : (act : Act) (before : Log) (hand : Hand)
    → hand_after act (core_hand before) ≡ Some hand → (core_hand before ≡ Some hand → WasPopped hand.buf before)
    → WasPopped hand.buf (act ∷ before)
hand_step (Pop (Lane f p) (Buffer b parcel)) before hand e earlier =
    let same : record { function = f; buf = b.0; parcel = parcel } ≡ hand =
    some_hand (record { function = f; buf = b.0; parcel = parcel }) hand e in
    (parcel, rw (eq-eqb b.0 hand.buf (ap (λ (h : Hand). h.buf) same)) refl)
hand_step (Pop (Output f) i) before hand e earlier = popped_still hand.buf (Pop (Output f) i) before (earlier e)
hand_step (Pop (Mail f) i) before hand e earlier = popped_still hand.buf (Pop (Mail f) i) before (earlier e)
hand_step (Push (Output f) i) before hand e earlier = absurd (let off : None ≡ Some hand = e in cc)
hand_step act before hand e earlier = earlier e

-- the buffer of the parcel in hand was popped
hand_popped : (log : Log) (hand : Hand) → core_hand log ≡ Some hand → WasPopped hand.buf log
hand_popped [] hand e = absurd (let off : None ≡ Some hand = e in cc)
hand_popped (act ∷ before) hand e = hand_step act before hand e (hand_popped before hand)

-- a push on the output ring adds an entry to the function's journal
one_handling : (f g : FnId) (setting : Setting) (role : ℕ) (before : Log) (item : Item)
    → MayHandle setting role before (Push (Output g) item)
    → length (handlings f (Push (Output g) item) before) ≡ (if g.0 == f.0 then 1 else 0)
one_handling f g setting role before (Number n) may = absurd may
one_handling f g setting role before (Buffer b parcel) may =
    let was : WasPopped b.0 before =
    subst (λ (n : ℕ). WasPopped n before) may.same (hand_popped before may.hand may.held) in
    let found : last_popped_parcel b.0 before ≡ Some was.0 = was.1 in
    elim (cases_Bool (g.0 == f.0)) [ inl met ↦ rw (met, found) refl | inr unmet ↦ rw unmet refl ]

-- a core pops nothing while it has a parcel in hand
kept_hand : (setting : Setting) (role : ℕ) (before : Log) (act : Act) (buf : ℕ) (hand : Hand)
    → MayHandle setting role before act → hand_after act (core_hand before) ≡ Some hand → hand.buf ≡ buf
    → (core_hand before ≡ Some hand → last_popped_parcel buf before ≡ Some hand.parcel)
    → popped_or buf act (last_popped_parcel buf before) ≡ Some hand.parcel
kept_hand setting role before (Pop (Lane f p) (Buffer b parcel)) buf hand may e of earlier =
    let same : record { function = f; buf = b.0; parcel = parcel } ≡ hand =
    some_hand (record { function = f; buf = b.0; parcel = parcel }) hand e in
    rw (eq-eqb b.0 buf (ap (λ (h : Hand). h.buf) same ∙ of)) (ap (λ (h : Hand). Some h.parcel) same)
kept_hand setting role before (Pop (Lane f p) (Number n)) buf hand may e of earlier = absurd may
kept_hand setting role before (Pop (Output f) i) buf hand may e of earlier = absurd may
kept_hand setting role before (Pop (Mail f) i) buf hand may e of earlier = absurd may
kept_hand setting role before (Push (Output f) i) buf hand may e of earlier =
    absurd (let off : None ≡ Some hand = e in cc)
kept_hand setting role before act buf hand may e of earlier = earlier e

-- the parcel in hand is the one with which its buffer was last popped
pub popped_in_hand : (setting : Setting) (role : ℕ) (log : Log) (buf : ℕ) (hand : Hand)
    → IsKind setting role Handles log → core_hand log ≡ Some hand → hand.buf ≡ buf
    → last_popped_parcel buf log ≡ Some hand.parcel
popped_in_hand setting role [] buf hand kind e of = absurd (let off : None ≡ Some hand = e in cc)
popped_in_hand setting role (act ∷ before) buf hand kind e of =
    kept_hand setting role before act buf hand kind.0 e of
    (λ was. popped_in_hand setting role before buf hand kind.1 was of)

journal_step : (f : FnId) (setting : Setting) (role : ℕ) (before : Log) (act : Act)
    → IsKind setting role Handles before → MayHandle setting role before act
    → length (journal f before) ≡ push_count (Output f) before
    → length (journal f (act ∷ before)) ≡ push_count (Output f) (act ∷ before)
journal_step f setting role before (Push (Output g) item) kind may e =
    let more : length (handlings f (Push (Output g) item) before) ≡ (if g.0 == f.0 then 1 else 0) =
    one_handling f g setting role before item may in
    let all : length (journal f (Push (Output g) item ∷ before))
    ≡ length (journal f before) + length (handlings f (Push (Output g) item) before)
    = length-append (journal f before) (handlings f (Push (Output g) item) before) in
    elim (cases_Bool (g.0 == f.0)) [
      | inl met ↦
          let one : length (handlings f (Push (Output g) item) before) ≡ 1 = more ∙ if_met (g.0 == f.0) 1 0 met in
          let now : push_count (Output f) (Push (Output g) item ∷ before) ≡ push_count (Output f) before + 1 =
          rw met refl in
          omega (arith, all, one, e, now)
      | inr unmet ↦
          let none : length (handlings f (Push (Output g) item) before) ≡ 0 = more ∙ if_unmet (g.0 == f.0) 1 0 unmet in
          let now : push_count (Output f) (Push (Output g) item ∷ before) ≡ push_count (Output f) before =
          rw unmet refl in
          omega (arith, all, none, e, now)
    ]
journal_step f setting role before act kind may e = ap length (append-nil (journal f before)) ∙ e

pub journal_length : (f : FnId) (setting : Setting) (role : ℕ) (log : Log) → IsKind setting role Handles log
    → length (journal f log) ≡ push_count (Output f) log
journal_length f setting role [] h = refl
journal_length f setting role (act ∷ before) h =
    journal_step f setting role before act h.1 h.0 (journal_length f setting role before h.1)

-- Samples: what was mailed, what was lost, and what was handled since, are what was handled

one_id : (g f : FnId) → (g.0 == f.0) ≡ true → g ≡ f
one_id g f e = ap (λ (n : ℕ). record { 0 = n }) (eqb-true g.0 f.0 e)

mails : (mailed lost since mailed_now lost_now since_now count : ℕ)
    → mailed_now ≡ count + mailed → lost_now ≡ lost → since_now ≡ 0 → count ≡ since
    → mailed_now + lost_now + since_now ≡ mailed + lost + since
mails mailed lost since mailed_now lost_now since_now count a b c d = omega (arith, a, b, c, d)

loses : (mailed lost since lost_now since_now : ℕ) → lost_now ≡ since + lost → since_now ≡ 0
    → mailed + lost_now + since_now ≡ mailed + lost + since
loses mailed lost since lost_now since_now a b = omega (arith, a, b)

abbrev Total : FnId → Log → ℕ
Total f log = mailed_count f log + lost_count f log + unsampled_count f log

sum_step : (f : FnId) (setting : Setting) (role : ℕ) (act : Act) (before : Log)
    → MayHandle setting role before act → MaySample before act → Total f before ≡ length (journal f before)
    → Total f (act ∷ before) ≡ length (journal f (act ∷ before))
sum_step f setting role (Push (Output g) (Buffer b parcel)) before may samples e =
    let more : length (handlings f (Push (Output g) (Buffer b parcel)) before) ≡ (if g.0 == f.0 then 1 else 0) =
    one_handling f g setting role before (Buffer b parcel) may in
    let all : length (journal f (Push (Output g) (Buffer b parcel) ∷ before))
    ≡ length (journal f before) + length (handlings f (Push (Output g) (Buffer b parcel)) before)
    = length-append (journal f before) (handlings f (Push (Output g) (Buffer b parcel)) before) in
    elim (cases_Bool (g.0 == f.0)) [
      | inl met ↦
          let one : length (handlings f (Push (Output g) (Buffer b parcel)) before) ≡ 1 =
          more ∙ if_met (g.0 == f.0) 1 0 met in
          let now : unsampled_count f (Push (Output g) (Buffer b parcel) ∷ before) ≡ unsampled_count f before + 1 =
          rw met refl in
          omega (arith, all, one, e, now)
      | inr unmet ↦
          let none : length (handlings f (Push (Output g) (Buffer b parcel)) before) ≡ 0 =
          more ∙ if_unmet (g.0 == f.0) 1 0 unmet in
          let now : unsampled_count f (Push (Output g) (Buffer b parcel) ∷ before) ≡ unsampled_count f before =
          rw unmet refl in
          omega (arith, all, none, e, now)
    ]
sum_step f setting role (Push (Output g) (Number n)) before may samples e = absurd may
sum_step f setting role (Push (Mail g) (Buffer b parcel)) before may samples e = absurd may
sum_step f setting role (Push (Mail g) (Number n)) before may samples e =
    let same : length (journal f (Push (Mail g) (Number n) ∷ before)) ≡ length (journal f before) =
    ap length (append-nil (journal f before)) in
    elim (cases_Bool (g.0 == f.0)) [
      | inl met ↦
          let of : unsampled_count g before ≡ unsampled_count f before =
          ap (λ (h : FnId). unsampled_count h before) (one_id g f met) in
          let counted : mailed_count f (Push (Mail g) (Number n) ∷ before) ≡ count_in n + mailed_count f before =
          rw met refl in
          let since : unsampled_count f (Push (Mail g) (Number n) ∷ before) ≡ 0 = rw met refl in
          let lost : lost_count f (Push (Mail g) (Number n) ∷ before) ≡ lost_count f before = refl in
          let made : count_in n ≡ unsampled_count g before = samples.0 in
          mails (mailed_count f before) (lost_count f before) (unsampled_count f before)
          (mailed_count f (Push (Mail g) (Number n) ∷ before)) (lost_count f (Push (Mail g) (Number n) ∷ before))
          (unsampled_count f (Push (Mail g) (Number n) ∷ before)) (count_in n) counted lost since (made ∙ of)
          ∙ e
          ∙ sym same
      | inr unmet ↦ rw unmet (e ∙ sym same)
    ]
sum_step f setting role (Full (Mail g)) before may samples e =
    let same : length (journal f (Full (Mail g) ∷ before)) ≡ length (journal f before) =
    ap length (append-nil (journal f before)) in
    elim (cases_Bool (g.0 == f.0)) [
      | inl met ↦
          let lost : lost_count f (Full (Mail g) ∷ before) ≡ unsampled_count f before + lost_count f before =
          rw met refl in
          let since : unsampled_count f (Full (Mail g) ∷ before) ≡ 0 = rw met refl in
          loses (mailed_count f before) (lost_count f before) (unsampled_count f before)
          (lost_count f (Full (Mail g) ∷ before)) (unsampled_count f (Full (Mail g) ∷ before)) lost since
          ∙ e
          ∙ sym same
      | inr unmet ↦ rw unmet (e ∙ sym same)
    ]
sum_step f setting role (Push (Lane g p) i) before may samples e = absurd may
sum_step f setting role (Full (Lane g p)) before may samples e = absurd may
sum_step f setting role (Full (Output g)) before may samples e = absurd may
sum_step f setting role act before may samples e = e ∙ sym (ap length (append-nil (journal f before)))

log_counted : (f : FnId) (setting : Setting) (role : ℕ) (log : Log) → IsKind setting role Handles log → AreSamples log
    → Total f log ≡ length (journal f log)
log_counted f setting role [] kind samples = refl
log_counted f setting role (act ∷ before) kind samples =
    sum_step f setting role act before kind.0 samples.0 (log_counted f setting role before kind.1 samples.1)

-- the counts of a function's samples, mailed or lost, and what it handled since make up its journal
pub samples_count : (setting : Setting) (past : History) (f : FnId)
    → IsLayout setting.layout → f.0 < setting.layout.functions
    → IsOfBlocks setting (core_role setting.layout f.0) (log_of (core_role setting.layout f.0) past)
    → AreSamples (log_of (core_role setting.layout f.0) past)
    → Total f (log_of (core_role setting.layout f.0) past) ≡ length (journal_of setting past f)
samples_count setting past f is known blocks samples =
    let role : ℕ = core_role setting.layout f.0 in
    log_counted f setting role (log_of role past)
    (is_kind setting role (log_of role past) Handles (core_handles setting.layout f.0 is known) blocks) samples

since_step : (f : FnId) (act : Act) (was : Bool) (n : ℕ) → (was ≡ true → n ≡ 0) → sampled_after f act was ≡ true
    → unsampled_count_after f act n ≡ 0
since_step f (Push (Output g) item) was n earlier e =
    elim (cases_Bool (g.0 == f.0)) [
      | inl met ↦ absurd (let off : false ≡ true = rw met at e in cc)
      | inr unmet ↦ rw unmet (earlier (rw unmet at e))
    ]
since_step f (Push (Mail g) item) was n earlier e =
    elim (cases_Bool (g.0 == f.0)) [ inl met ↦ rw met refl | inr unmet ↦ rw unmet (earlier (rw unmet at e)) ]
since_step f (Full (Mail g)) was n earlier e =
    elim (cases_Bool (g.0 == f.0)) [ inl met ↦ rw met refl | inr unmet ↦ rw unmet (earlier (rw unmet at e)) ]
since_step f act was n earlier e = earlier e

none_since : (f : FnId) (log : Log) → is_sampled f log ≡ true → unsampled_count f log ≡ 0
none_since f [] e = refl
none_since f (act ∷ before) e =
    since_step f act (is_sampled f before) (unsampled_count f before) (none_since f before) e

without_since : (mailed lost since all : ℕ) → mailed + lost + since ≡ all → since ≡ 0 → mailed + lost ≡ all
without_since mailed lost since all e none = omega (arith, e, none)

-- where a sample stands after the last push, the samples alone make up the journal
pub samples_complete : (setting : Setting) (past : History) (f : FnId)
    → IsLayout setting.layout → f.0 < setting.layout.functions
    → IsOfBlocks setting (core_role setting.layout f.0) (log_of (core_role setting.layout f.0) past)
    → AreSamples (log_of (core_role setting.layout f.0) past)
    → is_sampled f (log_of (core_role setting.layout f.0) past) ≡ true
    → mailed_count f (log_of (core_role setting.layout f.0) past)
    + lost_count f (log_of (core_role setting.layout f.0) past)
    ≡ length (journal_of setting past f)
samples_complete setting past f is known blocks samples e =
    let log : Log = log_of (core_role setting.layout f.0) past in
    without_since (mailed_count f log) (lost_count f log) (unsampled_count f log) (length (journal_of setting past f))
    (samples_count setting past f is known blocks samples) (none_since f log e)
