-- The moments of a serial run, which its order tells.
use Rattle.std.specs.Prelude.{ℕ, ◌≡◌, ◌≢◌, ◌+◌, ◌-◌, ◌*◌, ◌^◌, ◌⊎◌, min, Bool, false, not, ◌==◌, ◌&&◌, if◌then◌else◌, List, [], ◌∷◌, ◌++◌, length}
use Rattle.onvm_core.specs.declared.layout.Layout.{Layout}
use Rattle.onvm_core.specs.Layouts.{first_role, tick_role}
use Rattle.onvm_core.specs.History.{History}
use Rattle.onvm_core.specs.Places.{one_if}
use Rattle.onvm_core.specs.Logs.{Log, log_of}
use Rattle.onvm_promises.specs.Stretches.{stretch}
use Rattle.onvm_session.specs.Turns.{Turn, joined_count, steps_of, turn_steps}
use Rattle.onvm_session.specs.Views.{next_place, role_at}

-- Of steps without the first token's

abbrev pub ends_with_tick : Layout → History → Bool
ends_with_tick layout [] = false
ends_with_tick layout (step ∷ before) = step.role == tick_role layout

-- how often a step of the tick role is followed by another role's
abbrev pub rounds_begun : Layout → History → ℕ
rounds_begun layout [] = 0
rounds_begun layout (step ∷ before) =
    one_if (ends_with_tick layout before && not (step.role == tick_role layout)) + rounds_begun layout before

abbrev pub moment_of_round : ℕ → ℕ
moment_of_round round = min (2 ^ 64 - 1) (1000 * round)

-- the moment of a role's act with this number, counted from 0
abbrev pub moment_in : Layout → History → (role number : ℕ) → ℕ
moment_in layout [] role number = 0
moment_in layout (step ∷ before) role number =
    if (step.role == role) && (length (log_of role before) == number)
    then moment_of_round (rounds_begun layout (step ∷ before))
    else moment_in layout before role number

-- Turns as the rounds go

-- the round and the place of the next turn
abbrev pub place_of_turn : Layout → List Turn → ℕ
place_of_turn layout [] = 0
place_of_turn layout (t ∷ ts) = next_place layout (place_of_turn layout ts)

abbrev pub round_of_turn : Layout → List Turn → ℕ
round_of_turn layout [] = 0
round_of_turn layout (t ∷ ts) =
    if place_of_turn layout ts + 1 == first_role layout then round_of_turn layout ts + 1 else round_of_turn layout ts

-- each turn is of the role of its place
abbrev pub AreInRounds : Layout → List Turn → Type 0
AreInRounds layout [] = Unit {0}
AreInRounds layout (t ∷ ts) = (t.role ≡ role_at layout (place_of_turn layout ts)) × AreInRounds layout ts

-- in each turn of this core and of the tick role there is a step
abbrev pub AreShown : Layout → ℕ → (ℕ → Log) → List Turn → Type 0
AreShown layout core logs [] = Unit {0}
AreShown layout core logs (t ∷ ts) =
    ((t.role ≡ layout.ports + layout.transmit + core) ⊎ (t.role ≡ tick_role layout)
    → stretch (joined_count t.role ts) t.count (logs t.role) ≢ [])
    × AreShown layout core logs ts

-- the steps of a role's turn have the number of a round
abbrev pub AreOfRound : Layout → (role round : ℕ) → Log → History → Type 0
AreOfRound layout role round [] before = Unit {0}
AreOfRound layout role round (act ∷ acts) before =
    (rounds_begun layout (steps_of role (act ∷ acts) ++ before) ≡ round)
    × AreOfRound layout role round acts before

-- the steps of each turn have the number of its round
abbrev pub AreAllOfRounds : Layout → (ℕ → Log) → List Turn → Type 0
AreAllOfRounds layout logs [] = Unit {0}
AreAllOfRounds layout logs (t ∷ ts) =
    AreOfRound layout t.role (round_of_turn layout ts) (stretch (joined_count t.role ts) t.count (logs t.role))
    (turn_steps logs ts)
    × AreAllOfRounds layout logs ts
