-- The places of a round.
use Rattle.std.proofs.Common.{◌≡◌, ◌≢◌, ℕ, ◌+◌, ◌-◌, ◌<◌, ◌≤◌, inl, inr, List, [], ◌∷◌, arith}
use Rattle.std.specs.Prelude.{◌==◌, nat_lt}
use Rattle.std.proofs.lemmas.Bool.{cases_Bool, eq-eqb, eqb-false, ltb-true, ltb-false, ne_eqb}
use Rattle.onvm_core.specs.declared.layout.Layout.{Layout}
use Rattle.onvm_core.proofs.Lists.{if_met, if_unmet}
use Rattle.onvm_core.specs.Layouts.{first_role, tick_role}
use Rattle.onvm_session.specs.Moments.{place_of_turn, round_of_turn}
use Rattle.onvm_session.specs.Turns.{Turn}
use Rattle.onvm_session.specs.Views.{next_place, role_at}

next_below : (layout : Layout) (place : ℕ) → place < first_role layout → next_place layout place < first_role layout
next_below layout place less =
    elim (cases_Bool (place + 1 == first_role layout)) [
      | inl met ↦ let is = if_met (place + 1 == first_role layout) 0 (place + 1) met in omega (arith, is)
      | inr unmet ↦
          let is = if_unmet (place + 1 == first_role layout) 0 (place + 1) unmet in
          let apart = eqb-false (place + 1) (first_role layout) unmet in
          omega (arith, is, apart, less)
    ]

pub place_below : (layout : Layout) (ts : List Turn) → place_of_turn layout ts < first_role layout
place_below layout [] = omega arith
place_below layout (t ∷ ts) = next_below layout (place_of_turn layout ts) (place_below layout ts)

-- the three kinds of places before the tick role's, with their roles
pub role_cases : (layout : Layout) (place : ℕ) (P : ℕ → Type 0)
    → (place < layout.ports → P place)
    → (layout.ports ≤ place → place < layout.ports + layout.cores → P (place + layout.transmit))
    → (layout.ports + layout.cores ≤ place → place < layout.ports + layout.cores + layout.transmit
    → P (place - layout.cores))
    → (layout.ports + layout.cores + layout.transmit ≤ place → P (tick_role layout))
    → P (role_at layout place)
role_cases layout place P receives handles sends ticks =
    elim (cases_Bool (nat_lt place layout.ports)) [
      | inl a ↦ rw a (receives (ltb-true place layout.ports a))
      | inr a ↦ elim (cases_Bool (nat_lt place (layout.ports + layout.cores))) [
        | inl b ↦ rw (a, b) (handles (ltb-false place layout.ports a) (ltb-true place (layout.ports + layout.cores) b))
        | inr b ↦ elim (cases_Bool (nat_lt place (layout.ports + layout.cores + layout.transmit))) [
          | inl c ↦ rw (a, b, c) (sends (ltb-false place (layout.ports + layout.cores) b)
              (ltb-true place (layout.ports + layout.cores + layout.transmit) c))
          | inr c ↦ rw (a, b, c) (ticks (ltb-false place (layout.ports + layout.cores + layout.transmit) c))
        ]
      ]
    ]

pub role_below : (layout : Layout) (place : ℕ) → role_at layout place < first_role layout
role_below layout place =
    role_cases layout place (λ r. r < first_role layout) (λ less. omega (arith, less)) (λ from less. omega
    (arith, less))
    (λ from less. omega (arith, from, less)) (λ from. omega arith)

-- behind the tick role's turn a round ends
pub tick_last : (layout : Layout) (place : ℕ) → place < first_role layout → role_at layout place ≡ tick_role layout
    → place + 1 ≡ first_role layout
tick_last layout place below =
    role_cases layout place (λ r. r ≡ tick_role layout → place + 1 ≡ first_role layout)
    (λ less e. absurd (omega (arith, less, e))) (λ from less e. absurd (omega (arith, less, e)))
    (λ from less e. absurd (omega (arith, from, less, e))) (λ from e. omega (arith, from, below))

-- what a turn does to the number of rounds
pub round_ends : (layout : Layout) (t : Turn) (ts : List Turn) → place_of_turn layout ts + 1 ≡ first_role layout
    → round_of_turn layout (t ∷ ts) ≡ round_of_turn layout ts + 1
round_ends layout t ts e =
    if_met (place_of_turn layout ts + 1 == first_role layout) (round_of_turn layout ts + 1) (round_of_turn layout ts)
    (eq-eqb (place_of_turn layout ts + 1) (first_role layout) e)

pub round_stays : (layout : Layout) (t : Turn) (ts : List Turn) → place_of_turn layout ts + 1 ≢ first_role layout
    → round_of_turn layout (t ∷ ts) ≡ round_of_turn layout ts
round_stays layout t ts apart =
    if_unmet (place_of_turn layout ts + 1 == first_role layout) (round_of_turn layout ts + 1) (round_of_turn layout ts)
    (ne_eqb (place_of_turn layout ts + 1) (first_role layout) apart)
