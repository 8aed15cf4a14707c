-- Trails that lead from the captured bytes: of a parcel that enters, and one crumb on.
use Rattle.std.proofs.Common.{◌≡◌, ℕ, inl, inr, List, [], ◌∷◌, ◌++◌, length, refl, sym, ◌∙◌, ap, subst, Option, Some}
use Rattle.std.specs.Prelude.{slice_get, ◌==◌}
use Rattle.std.proofs.lemmas.Bool.{cases_Bool, eq-eqb}
use Rattle.onvm_base.specs.declared.ids.RingId.{RingId}
use Rattle.onvm_base.specs.declared.ids.BufId.{BufId}
use Rattle.onvm_base.specs.declared.ids.FnId.{FnId}
use Rattle.onvm_base.specs.declared.ids.FrameId.{FrameId}
use Rattle.onvm_core.specs.declared.parcel.Parcel.{Parcel}
use Rattle.onvm_core.specs.declared.step.Item.TheVariants.{Buffer}
use Rattle.onvm_core.specs.declared.step.Act.{Act}
use Rattle.onvm_core.specs.declared.step.Act.TheVariants.{Push}
use Rattle.onvm_core.specs.declared.step.Step.{Step}
use Rattle.onvm_core.specs.Layouts.{core_role}
use Rattle.onvm_core.specs.History.{History}
use Rattle.onvm_core.specs.Logs.{Setting, Log, log_of, Hand, entry_after, entry_parcel, IsHandled, last_crumb, with_cursor}
use Rattle.onvm_core.specs.Handling.{core_hand, crumb_place}
use Rattle.onvm_core.specs.Frames.{Load}
use Rattle.onvm_core.specs.Journals.{Handling, LeadsTo, IsMadeOf, IsTraced, journal, journal_of, handlings, verdict_in, last_popped_parcel}
use Rattle.onvm_base.specs.declared.ids.RingId.TheVariants.{Output}
use Rattle.onvm_core.specs.declared.entry.Entry.{Entry}
use Rattle.onvm_core.specs.Frames.Load.{Loaded}
use Rattle.onvm_core.specs.declared.parcel.Crumb.{Crumb}
use Rattle.onvm_core.proofs.Lists.{get_front, get_last, last_of_push}

pub log_on : (role : ℕ) (step : Step) (before : History) (act : Act) → step.act ≡ act → step.role ≡ role
    → log_of role (step ∷ before) ≡ act ∷ log_of step.role before
log_on role step before act acts same =
    rw (eq-eqb step.role role same, acts) (ap (λ (n : ℕ). act ∷ log_of n before) (sym same))

-- Trails

pub leads_more : (few many : FnId → List Handling) (frame : FrameId) (input : List ℕ) (trail : List Crumb)
    (output : List ℕ)
    → ((f : FnId) (k : ℕ) (h : Handling) → slice_get (few f) k ≡ Some h → slice_get (many f) k ≡ Some h)
    → LeadsTo few frame input trail output
    → LeadsTo many frame input trail output
leads_more few many frame input [] output grows leads = leads
leads_more few many frame input (crumb ∷ crumbs) output grows leads = (
  leads.0,
  grows crumb.function crumb.place leads.0 leads.1,
  leads.2,
  leads.3,
  leads.4,
  leads_more few many frame leads.0.bytes crumbs output grows leads.5,
)

pub leads_on : (journals : FnId → List Handling) (frame : FrameId) (input : List ℕ) (trail : List Crumb)
    (middle output : List ℕ) (crumb : Crumb) (h : Handling)
    → LeadsTo journals frame input trail middle → slice_get (journals crumb.function) crumb.place ≡ Some h
    → h.before.frame ≡ frame → h.verdict ≡ crumb.verdict → h.before.packet ≡ middle → output ≡ h.bytes
    → LeadsTo journals frame input (trail ++ crumb ∷ []) output
leads_on journals frame input [] middle output crumb h leads found of verdict bytes last =
    (h, found, of, verdict, bytes ∙ leads, last)
leads_on journals frame input (c ∷ cs) middle output crumb h leads found of verdict bytes last = (
  leads.0,
  leads.1,
  leads.2,
  leads.3,
  leads.4,
  leads_on journals frame leads.0.bytes cs middle output crumb h leads.5 found of verdict bytes last,
)

-- journals only grow
pub journal_grows : (setting : Setting) (step : Step) (before : History) (f : FnId) (k : ℕ) (h : Handling)
    → slice_get (journal_of setting before f) k ≡ Some h
    → slice_get (journal_of setting (step ∷ before) f) k ≡ Some h
journal_grows setting step before f k h e =
    elim (cases_Bool (step.role == core_role setting.layout f.0)) [
      | inl met ↦
          rw met (get_front (journal_of setting before f)
          (handlings f step.act (log_of (core_role setting.layout f.0) before)) k h e)
      | inr unmet ↦ rw unmet e
    ]

pub traced_on : (setting : Setting) (step : Step) (before : History) (parcel : Parcel) → IsTraced setting before parcel
    → IsTraced setting (step ∷ before) parcel
traced_on setting step before parcel traced = record {
  entry = traced.entry;
  port = traced.port;
  done = traced.done;
  captured = traced.captured;
  made = traced.made;
  leads =
      leads_more (journal_of setting before)
      (journal_of setting (step ∷ before)) parcel.frame traced.entry.packet parcel.trail parcel.packet
      (journal_grows setting step before) traced.leads;
}

-- A parcel as it enters, moves on and is handled

pub made_on : (first was parcel : Parcel) → IsMadeOf first was → IsMadeOf was parcel → IsMadeOf first parcel
made_on first was parcel earlier later =
    later
    ∙ ap (λ (p : Parcel). record p { packet = parcel.packet; cursor = parcel.cursor; trail = parcel.trail }) earlier

-- the parcel of a frame has the frame's number
pub frame_of_traced : (setting : Setting) (past : History) (parcel : Parcel) (traced : IsTraced setting past parcel)
    → traced.entry.frame ≡ parcel.frame
frame_of_traced setting past parcel traced = sym (ap (λ (p : Parcel). p.frame) traced.made)

abbrev pub Enters : Setting → Parcel → Type 0
Enters setting parcel =
    (e : Entry) × (port : ℕ) × (done : ℕ) × (entry_after setting port done ≡ Some e) × (parcel ≡ entry_parcel e)

pub record Handled (own : Option (ℕ × Load)) (log : Log) (ring : RingId) (b : BufId) (parcel : Parcel) : Type 0 where
  pub function : FnId
  pub hand : Hand
  pub ring_is : ring ≡ Output function
  pub held_is : core_hand log ≡ Some hand
  pub same : hand.buf ≡ b.0
  pub owns : own ≡ Some (b.0, Loaded hand.parcel)
  pub handled : IsHandled function (crumb_place function log) hand.parcel parcel

-- a trail with one more crumb, whose entry the journal has
pub extended : (setting : Setting) (past : History) (was parcel : Parcel) (crumb : Crumb) (h : Handling)
    → IsTraced setting past was → slice_get (journal_of setting past crumb.function) crumb.place ≡ Some h
    → h.before ≡ was → h.verdict ≡ crumb.verdict → parcel.packet ≡ h.bytes → IsMadeOf was parcel
    → parcel.trail ≡ was.trail ++ crumb ∷ []
    → IsTraced setting past parcel
extended setting past was parcel crumb h traced found of verdict bytes made trail = record {
  entry = traced.entry;
  port = traced.port;
  done = traced.done;
  captured = traced.captured;
  made = made_on (entry_parcel traced.entry) was parcel traced.made made;
  leads =
      let frame : parcel.frame ≡ was.frame = ap (λ (p : Parcel). p.frame) made in
      rw (trail, frame) (leads_on
      (journal_of setting past) was.frame traced.entry.packet was.trail was.packet parcel.packet crumb h traced.leads
      found
      (ap (λ (p : Parcel). p.frame) of) verdict (ap (λ (p : Parcel). p.packet) of) bytes);
}

-- the entry that a push on an output ring adds to the journal
pub entry_added : (f : FnId) (log : Log) (b : BufId) (parcel was : Parcel) (n : ℕ)
    → last_popped_parcel b.0 log ≡ Some was → length (journal f log) ≡ n
    → slice_get (journal f (Push (Output f) (Buffer b parcel) ∷ log)) n
    ≡ Some (record { before = was; verdict = verdict_in (last_crumb parcel.trail); bytes = parcel.packet })
entry_added f log b parcel was n has long =
    let h : Handling = record { before = was; verdict = verdict_in (last_crumb parcel.trail); bytes = parcel.packet } in
    let added : handlings f (Push (Output f) (Buffer b parcel)) log ≡ h ∷ [] = rw (eq-eqb f.0 f.0 refl, has) refl in
    subst (λ (k : ℕ). slice_get (journal f log ++ handlings f (Push (Output f) (Buffer b parcel)) log) k ≡ Some h) long
    (subst (λ (hs : List Handling). slice_get (journal f log ++ hs) (length (journal f log)) ≡ Some h) (sym added)
    (get_last (journal f log) h))

-- the verdict of the last crumb
pub verdict_added : (trail before : List Crumb) (crumb : Crumb) → trail ≡ before ++ crumb ∷ []
    → verdict_in (last_crumb trail) ≡ crumb.verdict
verdict_added trail before crumb e =
    ap (λ (t : List Crumb). verdict_in (last_crumb t)) e ∙ ap verdict_in (last_of_push before crumb)

handled_made : (f : FnId) (n : ℕ) (was parcel : Parcel) → IsHandled f n was parcel → IsMadeOf was parcel
handled_made f n was parcel handled =
    let cursor : parcel.cursor ≡ was.cursor = ap (λ (p : Parcel). p.cursor) handled.same in
    let trail : parcel.trail ≡ was.trail ++ record { function = f; place = n; verdict = handled.verdict } ∷ [] =
    ap (λ (p : Parcel). p.trail) handled.same in
    handled.same
    ∙ ap (λ (t : List Crumb). record was { packet = parcel.packet; trail = t }) (sym trail)
    ∙ ap (λ (c : ℕ). record was { packet = parcel.packet; cursor = c; trail = parcel.trail }) (sym cursor)

-- the parcel that a function pushed is traced where the popped one was
pub handled_traced : (setting : Setting) (step : Step) (before : History) (f : FnId) (hand : Hand) (b : BufId)
    (parcel : Parcel) (n : ℕ)
    → step.act ≡ Push (Output f) (Buffer b parcel) → step.role ≡ core_role setting.layout f.0
    → last_popped_parcel b.0 (log_of step.role before) ≡ Some hand.parcel
    → length (journal f (log_of step.role before)) ≡ n
    → IsHandled f n hand.parcel parcel → IsTraced setting before hand.parcel
    → IsTraced setting (step ∷ before) parcel
handled_traced setting step before f hand b parcel n acts role has long handled traced =
    extended setting (step ∷ before) hand.parcel parcel
    (record { function = f; place = n; verdict = handled.verdict })
    (record { before = hand.parcel; verdict = verdict_in (last_crumb parcel.trail); bytes = parcel.packet })
    (traced_on setting step before hand.parcel traced)
    (subst (λ (l : Log). slice_get (journal f l) n
    ≡ Some (record { before = hand.parcel; verdict = verdict_in (last_crumb parcel.trail); bytes = parcel.packet }))
    (sym (log_on (core_role setting.layout f.0) step before (Push (Output f) (Buffer b parcel)) acts role))
    (entry_added f (log_of step.role before) b parcel hand.parcel n has long))
    refl
    (verdict_added parcel.trail hand.parcel.trail (record { function = f; place = n; verdict = handled.verdict })
    (ap (λ (p : Parcel). p.trail) handled.same))
    refl
    (handled_made f n hand.parcel parcel handled)
    (ap (λ (p : Parcel). p.trail) handled.same)

pub moved_traced : (setting : Setting) (past : History) (was parcel : Parcel) (cursor : ℕ)
    → parcel ≡ with_cursor cursor was → IsTraced setting past was
    → IsTraced setting past parcel
moved_traced setting past was parcel cursor moved traced = subst (IsTraced setting past) (sym moved) (record {
  entry = traced.entry;
  port = traced.port;
  done = traced.done;
  captured = traced.captured;
  made = ap (with_cursor cursor) traced.made;
  leads = traced.leads;
})

pub entered_traced : (setting : Setting) (past : History) (parcel : Parcel) → Enters setting parcel
    → IsTraced setting past parcel
entered_traced setting past parcel enters = record {
  entry = enters.0;
  port = enters.1;
  done = enters.2;
  captured = enters.3;
  made = subst (IsMadeOf (entry_parcel enters.0)) (sym enters.4) refl;
  leads = rw enters.4 refl;
}
