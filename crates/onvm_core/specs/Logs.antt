-- What a run is of, and the log of a role.
use Rattle.std.specs.Prelude.{ℕ, ◌≡◌, ◌+◌, ◌-◌, ◌==◌, if◌then◌else◌, List, [], ◌∷◌, ◌++◌, length, Option, Some, slice_get}
use Rattle.onvm_base.specs.declared.ids.FnId.{FnId}
use Rattle.onvm_base.specs.declared.ids.RingId.{RingId}
use Rattle.onvm_base.specs.declared.outcome.Verdict.{Verdict}
use Rattle.onvm_base.specs.declared.plan.Plan.{Plan}
use Rattle.onvm_core.specs.declared.entry.Entry.{Entry}
use Rattle.onvm_core.specs.declared.layout.Layout.{Layout}
use Rattle.onvm_core.specs.declared.parcel.Crumb.{Crumb}
use Rattle.onvm_core.specs.declared.parcel.Parcel.{Parcel}
use Rattle.onvm_core.specs.declared.step.Act.{Act}
use Rattle.onvm_core.specs.declared.step.Act.TheVariants.{Push}
use Rattle.onvm_core.specs.Layouts.{same_ring}
use Rattle.onvm_core.specs.History.{History}

-- the acts of one role, the newest first
abbrev pub Log : Type 0
Log = List Act

abbrev pub log_of : ℕ → History → Log
log_of role [] = []
log_of role (step ∷ before) = if step.role == role then step.act ∷ log_of role before else log_of role before

-- how often a log has a push on a ring
abbrev pub push_count_after : RingId → Act → ℕ → ℕ
push_count_after ring (Push r item) n = if same_ring r ring then n + 1 else n
push_count_after ring _ n = n

abbrev pub push_count : RingId → Log → ℕ
push_count ring [] = 0
push_count ring (act ∷ before) = push_count_after ring act (push_count ring before)

-- what a run is of
pub record Setting : Type 0 where
  pub layout : Layout
  pub plan : Plan
  pub entries : List Entry

-- Frames

abbrev pub entries_of_port : ℕ → List Entry → List Entry
entries_of_port port [] = []
entries_of_port port (e ∷ es) = if e.frame.port.0 == port then e ∷ entries_of_port port es else entries_of_port port es

-- the frame of a port that comes after so many of its frames
abbrev pub entry_after : Setting → (port done : ℕ) → Option Entry
entry_after setting port done = slice_get (entries_of_port port setting.entries) done

-- the frames of each port have the numbers 1, 2, .. in order
abbrev pub IsNumbered : Setting → Type 0
IsNumbered setting = (port done : ℕ) (e : Entry) → entry_after setting port done ≡ Some e
    → e.frame ≡ record { port = record { 0 = port }; number = done + 1 }

-- Parcels

-- the parcel of a frame as it enters
abbrev pub entry_parcel : Entry → Parcel
entry_parcel e =
    record {
      frame = e.frame;
      stamp = e.stamp;
      packet = e.packet;
      chain = e.chain;
      cursor = 0;
      hash = e.hash;
      trail = [];
    }

-- the parcel after a function handled it, with this place in the function's journal, a verdict and its bytes
pub record IsHandled (function : FnId) (place : ℕ) (before after : Parcel) : Type 0 where
  pub verdict : Verdict
  pub same : after ≡ record before {
    packet = after.packet;
    trail = before.trail ++ record { function = function; place = place; verdict = verdict } ∷ [];
  }

-- the parcel after a move
abbrev pub with_cursor : ℕ → Parcel → Parcel
with_cursor cursor parcel = record parcel { cursor = cursor }

abbrev pub last_crumb : List Crumb → Option Crumb
last_crumb trail = slice_get trail (length trail - 1)

-- a parcel that a role popped, from a lane or the output ring of a function
pub record Hand : Type 0 where
  pub function : FnId
  pub buf : ℕ
  pub parcel : Parcel
