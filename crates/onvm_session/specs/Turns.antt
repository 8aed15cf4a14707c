-- The turns of the roles: what the first token's log and kept numbers cut out of the other roles' logs.
use Rattle.std.specs.Prelude.{ℕ, ◌≡◌, ◌≤◌, ◌==◌, if◌then◌else◌, List, [], ◌∷◌, ◌++◌, length, Option, Some, None}
use Rattle.onvm_core.specs.declared.layout.Layout.{Layout}
use Rattle.onvm_core.specs.declared.step.Act.{Act}
use Rattle.onvm_core.specs.declared.step.Act.TheVariants.{Split, Join}
use Rattle.onvm_core.specs.Layouts.{first_role}
use Rattle.onvm_core.specs.History.{History}
use Rattle.onvm_core.specs.Logs.{Log, log_of}
use Rattle.onvm_promises.specs.Stretches.{acts_since, stretch}

-- Turns

-- a role was joined, and had made so many steps by then
pub record Turn : Type 0 where
  pub role : ℕ
  pub count : ℕ

-- how many steps each joined role had made, the newest join first: what the first token keeps
abbrev pub counts_after : Act → History → List ℕ → List ℕ
counts_after (Join r) before counts = length (log_of r before) ∷ counts
counts_after _ before counts = counts

abbrev pub join_counts : History → List ℕ
join_counts [] = []
join_counts (step ∷ before) = counts_after step.act before (join_counts before)

-- the turns by the first token's log and what it keeps, the newest first
abbrev pub turns : Log → List ℕ → List Turn
turns [] counts = []
turns (Join r ∷ acts) [] = []
turns (Join r ∷ acts) (n ∷ counts) = record { role = r; count = n } ∷ turns acts counts
turns (_ ∷ acts) counts = turns acts counts

-- the same by the history
abbrev pub turns_after : Act → History → List Turn → List Turn
turns_after (Join r) before ts = record { role = r; count = length (log_of r before) } ∷ ts
turns_after _ before ts = ts

abbrev pub turns_of : History → List Turn
turns_of [] = []
turns_of (step ∷ before) = turns_after step.act before (turns_of before)

-- how many steps a role had made at its latest join
abbrev pub joined_count : ℕ → List Turn → ℕ
joined_count role [] = 0
joined_count role (t ∷ ts) = if t.role == role then t.count else joined_count role ts

-- each turn's count is within its role's log
abbrev pub AreWithinLogs : (ℕ → Log) → List Turn → Type 0
AreWithinLogs logs [] = Unit {0}
AreWithinLogs logs (t ∷ ts) = (t.count ≤ length (logs t.role)) × AreWithinLogs logs ts

-- One role at a time

-- the role that is split, where no two ever are
abbrev pub seated_after : Act → Option ℕ → Option ℕ
seated_after (Split r) was = Some r
seated_after (Join r) was = None
seated_after _ was = was

abbrev pub seated : Log → Option ℕ
seated [] = None
seated (act ∷ before) = seated_after act (seated before)

-- a role is split where none is, and that one is joined
abbrev pub MaySeat : Act → Option ℕ → Type 0
MaySeat (Split r) was = was ≡ None
MaySeat (Join r) was = was ≡ Some r
MaySeat _ was = Unit {0}

abbrev pub IsOneByOne : Log → Type 0
IsOneByOne [] = Unit {0}
IsOneByOne (act ∷ before) = MaySeat act (seated before) × IsOneByOne before

-- The order of the steps

-- the steps of all roles but the first token's
abbrev pub role_steps : Layout → History → History
role_steps layout [] = []
role_steps layout (step ∷ before) =
    if step.role == first_role layout then role_steps layout before else step ∷ role_steps layout before

-- a role's steps
abbrev pub steps_of : ℕ → Log → History
steps_of role [] = []
steps_of role (act ∷ acts) = record { role = role; act = act } ∷ steps_of role acts

-- turn after turn, the steps that the turn's role made since its turn before
abbrev pub turn_steps : (ℕ → Log) → List Turn → History
turn_steps logs [] = []
turn_steps logs (t ∷ ts) = steps_of t.role (stretch (joined_count t.role ts) t.count (logs t.role))
    ++ turn_steps logs ts

-- the steps that the role which is split now made since its last turn
abbrev pub open_steps : (ℕ → Log) → List Turn → Option ℕ → History
open_steps logs ts None = []
open_steps logs ts (Some r) = steps_of r (acts_since (joined_count r ts) (logs r))
