-- What the first token knows at the end, and how it gave the roles away and took them back.
use Rattle.std.specs.Prelude.{ℕ, zero, suc, ◌≡◌, ◌+◌, ◌-◌, ◌<◌, Bool, true, false, ◌==◌, nat_lt, if◌then◌else◌, List, [], ◌∷◌, ◌++◌, None}
use Rattle.onvm_core.specs.declared.layout.Layout.{Layout}
use Rattle.onvm_core.specs.declared.layout.Word.TheVariants.{Pool}
use Rattle.onvm_core.specs.declared.step.Act.{Act}
use Rattle.onvm_core.specs.declared.step.Act.TheVariants.{Split, Join, Look}
use Rattle.onvm_core.specs.Layouts.{first_role, tick_role}
use Rattle.onvm_core.specs.History.{History}
use Rattle.onvm_core.specs.Lawful.{IsLawful}
use Rattle.onvm_core.specs.Logs.{Log, log_of}
use Rattle.onvm_session.specs.Turns.{Turn, join_counts, turns}

-- the first token's own log, the other roles' logs, and of each join how many steps the joined role had made by then
pub record FinalView : Type 0 where
  pub lead : Log
  pub logs : ℕ → Log
  pub counts : List ℕ

-- these are the logs and numbers of a lawful history
pub record IsHistoryOf (layout : Layout) (final : FinalView) (past : History) : Type 0 where
  pub lawful : IsLawful layout past
  pub lead : final.lead ≡ log_of (first_role layout) past
  pub logs : (role : ℕ) → role < first_role layout → final.logs role ≡ log_of role past
  pub counts : final.counts ≡ join_counts past

abbrev pub turns_in : FinalView → List Turn
turns_in final = turns final.lead final.counts

-- The first token's acts

-- the look that ends a turn or a phase
abbrev pub closing_look : ℕ → Act
closing_look seen = Look (Pool (record { 0 = 0 }) 0) seen None

-- of a role: its split, its join, and the look behind
abbrev pub turn_of : (role seen : ℕ) → Log
turn_of role seen = closing_look seen ∷ Join role ∷ Split role ∷ []

abbrev pub joins_after : Act → ℕ → ℕ
joins_after (Join r) n = n + 1
joins_after _ n = n

abbrev pub join_count : Log → ℕ
join_count [] = 0
join_count (act ∷ before) = joins_after act (join_count before)

-- A round has a place for each role below the first token's

abbrev pub next_place : Layout → ℕ → ℕ
next_place layout place = if place + 1 == first_role layout then 0 else place + 1

abbrev pub place_after : Layout → Act → ℕ → ℕ
place_after layout (Join r) place = next_place layout place
place_after layout _ place = place

-- the place of the next turn
abbrev pub place_in : Layout → Log → ℕ
place_in layout [] = 0
place_in layout (act ∷ before) = place_after layout act (place_in layout before)

-- the role at a place of a round: the receive roles by port, the cores, the transmit roles, and the tick role
abbrev pub role_at : Layout → ℕ → ℕ
role_at layout place =
    if nat_lt place layout.ports then place
    else if nat_lt place (layout.ports + layout.cores) then place + layout.transmit
    else if nat_lt place (layout.ports + layout.cores + layout.transmit) then place - layout.cores
    else tick_role layout

-- turn after turn, as the rounds go
pub data AreTurns (layout : Layout) : Log → Type 0 where
  NoTurn : AreTurns layout []
  ATurn : (seen : ℕ) (before : Log) → AreTurns layout before
      → AreTurns layout (turn_of (role_at layout (place_in layout before)) seen ++ before)

-- so many roles from this one on are split, the last one first
abbrev pub splits : (many role : ℕ) → Log
splits zero role = []
splits (suc n) role = Split role ∷ splits n (role + 1)

-- the roles below n are joined, in order
abbrev pub joins : ℕ → Log
joins zero = []
joins (suc n) = Join n ∷ joins n

-- phase after phase: all roles are split, and then joined
pub data ArePhases (layout : Layout) : Log → Type 0 where
  NoPhase : ArePhases layout []
  APhase : (seen : ℕ) (before : Log) → ArePhases layout before
      → ArePhases layout (closing_look seen ∷ joins (first_role layout) ++ splits (first_role layout) 0 ++ before)

-- whole rounds, and a turn of the tick role that closes the run
pub record IsSerialLead (layout : Layout) (lead : Log) : Type 0 where
  pub rounds : Log
  pub seen : ℕ
  pub turns : AreTurns layout rounds
  pub whole : place_in layout rounds ≡ 0
  pub closed : lead ≡ turn_of (tick_role layout) seen ++ rounds

-- phases, and a turn of the tick role that closes the run
pub record IsPhasedLead (layout : Layout) (lead : Log) : Type 0 where
  pub phases : Log
  pub seen : ℕ
  pub are : ArePhases layout phases
  pub closed : lead ≡ turn_of (tick_role layout) seen ++ phases

abbrev pub IsLead : Bool → Layout → Log → Type 0
IsLead true layout lead = IsSerialLead layout lead
IsLead false layout lead = IsPhasedLead layout lead
