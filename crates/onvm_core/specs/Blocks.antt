-- What the log of each role looks like, the last block perhaps unfinished.
use Rattle.std.specs.Prelude.{ℕ, ◌≡◌, ◌+◌, ◌<◌, ◌==◌, nat_lt, if◌then◌else◌, [], ◌∷◌, None}
use Rattle.onvm_base.specs.declared.ids.RingId.TheVariants.{Mail}
use Rattle.onvm_core.specs.declared.layout.Layout.{Layout}
use Rattle.onvm_core.specs.declared.layout.Word.TheVariants.{Weight}
use Rattle.onvm_core.specs.declared.step.Item.TheVariants.{Number}
use Rattle.onvm_core.specs.declared.step.Act.{Act}
use Rattle.onvm_core.specs.declared.step.Act.TheVariants.{Split, Join, Pop, Empty, Look, Post}
use Rattle.onvm_core.specs.History.{History}
use Rattle.onvm_core.specs.Logs.{Log, Setting, log_of}
use Rattle.onvm_core.specs.Receiving.{MayReceive}
use Rattle.onvm_core.specs.Handling.{MayHandle}
use Rattle.onvm_core.specs.Sending.{MaySend, send_phase}

-- the tick role reads mail rings and posts weights
abbrev pub MayTick : Setting → Act → Type 0
MayTick setting (Pop (Mail f) (Number n)) = f.0 < setting.layout.functions
MayTick setting (Empty (Mail f)) = f.0 < setting.layout.functions
MayTick setting (Post (Weight f) new) = f.0 < setting.layout.functions
MayTick setting _ = ⊥

-- the first token splits, joins, and looks without a record
abbrev pub MayLead : Act → Type 0
MayLead (Split role) = Unit {0}
MayLead (Join role) = Unit {0}
MayLead (Look word seen told) = told ≡ None
MayLead _ = ⊥

pub data RoleKind : Type 0 where
  Receives : RoleKind
  Sends : RoleKind
  Handles : RoleKind
  Ticks : RoleKind
  Leads : RoleKind

abbrev pub kind_of : Layout → ℕ → RoleKind
kind_of layout role =
    if nat_lt role layout.ports then Receives
    else if nat_lt role (layout.ports + layout.transmit) then Sends
    else if nat_lt role (layout.ports + layout.transmit + layout.cores) then Handles
    else if role == layout.ports + layout.transmit + layout.cores then Ticks else Leads

-- the act may follow in the log of a role of this kind
abbrev pub MayFollow : Setting → ℕ → RoleKind → Log → Act → Type 0
MayFollow setting role Receives before act = MayReceive setting role before act
MayFollow setting role Sends before act = MaySend setting role (send_phase before) act
MayFollow setting role Handles before act = MayHandle setting role before act
MayFollow setting role Ticks before act = MayTick setting act
MayFollow setting role Leads before act = MayLead act

-- the log is made of blocks
abbrev pub IsOfBlocks : Setting → ℕ → Log → Type 0
IsOfBlocks setting role [] = Unit {0}
IsOfBlocks setting role (act ∷ before) =
    MayFollow setting role (kind_of setting.layout role) before act × IsOfBlocks setting role before

-- each role's log is made of blocks
abbrev pub AllOfBlocks : Setting → History → Type 0
AllOfBlocks setting past = (role : ℕ) → IsOfBlocks setting role (log_of role past)
