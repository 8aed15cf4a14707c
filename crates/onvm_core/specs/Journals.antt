-- The journals of functions, and what the crumbs of a parcel say of them.
use Rattle.std.specs.Prelude.{ℕ, ◌≡◌, ◌+◌, ◌≤◌, ◌==◌, if◌then◌else◌, List, [], ◌∷◌, ◌++◌, length, Option, Some, None, slice_get}
use Rattle.onvm_base.specs.declared.ids.FnId.{FnId}
use Rattle.onvm_base.specs.declared.ids.FrameId.{FrameId}
use Rattle.onvm_base.specs.declared.ids.RingId.TheVariants.{Output}
use Rattle.onvm_base.specs.declared.outcome.Verdict.{Verdict}
use Rattle.onvm_base.specs.declared.outcome.Verdict.TheVariants.{Drop}
use Rattle.onvm_core.specs.declared.parcel.Crumb.{Crumb}
use Rattle.onvm_core.specs.declared.parcel.Parcel.{Parcel}
use Rattle.onvm_core.specs.declared.parcel.TheConstants.{MAX_PLACE}
use Rattle.onvm_core.specs.declared.entry.Entry.{Entry}
use Rattle.onvm_core.specs.declared.step.Item.TheVariants.{Buffer}
use Rattle.onvm_core.specs.declared.step.Act.{Act}
use Rattle.onvm_core.specs.declared.step.Act.TheVariants.{Give, Push, Pop}
use Rattle.onvm_core.specs.Layouts.{core_role}
use Rattle.onvm_core.specs.History.{History}
use Rattle.onvm_core.specs.Logs.{Setting, Log, log_of, last_crumb, entry_after, entry_parcel}

-- that a function handled a parcel: the parcel as it was popped, the verdict, and the bytes that were pushed
pub record Handling : Type 0 where
  pub before : Parcel
  pub verdict : Verdict
  pub bytes : List ℕ

abbrev pub popped_or : ℕ → Act → Option Parcel → Option Parcel
popped_or buf (Pop ring (Buffer b parcel)) was = if b.0 == buf then Some parcel else was
popped_or buf _ was = was

-- the parcel with which a role last popped a buffer
abbrev pub last_popped_parcel : ℕ → Log → Option Parcel
last_popped_parcel buf [] = None
last_popped_parcel buf (act ∷ before) = popped_or buf act (last_popped_parcel buf before)

abbrev pub verdict_in : Option Crumb → Verdict
verdict_in None = Drop
verdict_in (Some crumb) = crumb.verdict

abbrev pub handling : Option Parcel → Parcel → List Handling
handling (Some was) after =
    record { before = was; verdict = verdict_in (last_crumb after.trail); bytes = after.packet } ∷ []
handling None after = []

-- what an act of the function's core adds to the function's journal
abbrev pub handlings : FnId → Act → Log → List Handling
handlings f (Push (Output g) (Buffer b after)) before =
    if g.0 == f.0 then handling (last_popped_parcel b.0 before) after else []
handlings f _ before = []

-- the journal of a function, in the log of its core: an entry for each push on its output ring, the oldest first
abbrev pub journal : FnId → Log → List Handling
journal f [] = []
journal f (act ∷ before) = journal f before ++ handlings f act before

abbrev pub journal_of : Setting → History → FnId → List Handling
journal_of setting past f = journal f (log_of (core_role setting.layout f.0) past)

-- no journal has more entries than crumbs can tell apart
abbrev pub HasShortJournals : Setting → History → Type 0
HasShortJournals setting past = (f : FnId) → length (journal_of setting past f) ≤ MAX_PLACE + 1

-- a function that acts so goes through these handlings, from one state to another
abbrev pub GoesThrough : {S : Type 0} → (S → Handling → S → Type 0) → S → List Handling → S → Type 0
GoesThrough acts start [] end = start ≡ end
GoesThrough {S} acts start (h ∷ hs) end = (next : S) × acts start h next × GoesThrough acts next hs end

-- each crumb names the entry of its function's journal with this frame and verdict; the first entry's bytes in are the
-- input, each next one's the bytes out before, and the output is the last bytes out
abbrev pub LeadsTo : (FnId → List Handling) → FrameId → List ℕ → List Crumb → List ℕ → Type 0
LeadsTo journals frame input [] output = output ≡ input
LeadsTo journals frame input (crumb ∷ crumbs) output =
    (h : Handling) × (slice_get (journals crumb.function) crumb.place ≡ Some h) × (h.before.frame ≡ frame)
    × (h.verdict ≡ crumb.verdict) × (h.before.packet ≡ input) × (LeadsTo journals frame h.bytes crumbs output)

-- a parcel is what functions and moves make of another: its bytes, cursor and trail may differ, and nothing else
abbrev pub IsMadeOf : (was parcel : Parcel) → Type 0
IsMadeOf was parcel =
    parcel ≡ record was {
      packet = parcel.packet;
      cursor = parcel.cursor;
      trail = parcel.trail;
    }

-- the parcel is made of its frame's as it entered, and its crumbs lead from the captured bytes to its own
pub record IsTraced (setting : Setting) (past : History) (parcel : Parcel) : Type 0 where
  pub entry : Entry
  pub port : ℕ
  pub done : ℕ
  pub captured : entry_after setting port done ≡ Some entry
  pub made : IsMadeOf (entry_parcel entry) parcel
  pub leads : LeadsTo (journal_of setting past) parcel.frame entry.packet parcel.trail parcel.packet

-- the act pushes, pops or gives this parcel
abbrev pub Names : Act → Parcel → Type 0
Names (Push ring (Buffer b p)) parcel = p ≡ parcel
Names (Pop ring (Buffer b p)) parcel = p ≡ parcel
Names (Give b outcome p) parcel = p ≡ parcel
Names _ parcel = ⊥
