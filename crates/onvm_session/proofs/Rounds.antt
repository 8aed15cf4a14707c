-- The moment of each step of a serial run is that of its round.
use Rattle.std.proofs.Common.{◌≡◌, ◌≢◌, ℕ, ◌+◌, ◌-◌, ◌<◌, ◌≤◌, Bool, true, false, if◌then◌else◌, inl, inr, List, [], ◌∷◌, ◌++◌, length, refl, sym, ◌∙◌, ap, subst, arith}
use Rattle.std.specs.Prelude.{◌==◌, ◌&&◌, ◌⊎◌, not, nat_lt}
use Rattle.std.proofs.lemmas.Bool.{cases_Bool, eqb-true, eqb-false, eq-eqb, ne_eqb, lt-ltb, le-ltb, ltb-true, ltb-false, and_from, and_right}
use Rattle.onvm_core.specs.declared.layout.Layout.{Layout}
use Rattle.onvm_core.proofs.Lists.{if_met, if_unmet}
use Rattle.onvm_core.proofs.Told.{own_log}
use Rattle.onvm_core.specs.History.{History}
use Rattle.onvm_core.specs.Layouts.{first_role, tick_role}
use Rattle.onvm_core.specs.Logs.{Log, log_of}
use Rattle.onvm_core.specs.Places.{one_if}
use Rattle.onvm_promises.specs.Stretches.{stretch}
use Rattle.onvm_session.proofs.Seating.{log_grows}
use Rattle.onvm_session.specs.Moments.{ends_with_tick, rounds_begun, moment_of_round, moment_in, place_of_turn, round_of_turn, AreInRounds, AreShown, AreOfRound, AreAllOfRounds}
use Rattle.onvm_session.specs.Turns.{Turn, joined_count, steps_of, turn_steps}
use Rattle.onvm_session.specs.Views.{next_place, role_at}

-- The round in which a role acts next

abbrev pub round_for : Layout → ℕ → History → ℕ
round_for layout role past =
    one_if (ends_with_tick layout past && not (role == tick_role layout)) + rounds_begun layout past

-- where it isn't the tick role
abbrev pub open_round : Layout → History → ℕ
open_round layout past = one_if (ends_with_tick layout past) + rounds_begun layout past

none_more : (n : ℕ) → one_if false + n ≡ n
none_more n = omega arith

and_not_true : (b c : Bool) → c ≡ true → (b && not c) ≡ false
and_not_true true c e = rw e refl
and_not_true false c e = refl

and_not_false : (b c : Bool) → c ≡ false → (b && not c) ≡ b
and_not_false true c e = rw e refl
and_not_false false c e = refl

and_not_same : (c : Bool) → (c && not c) ≡ false
and_not_same true = refl
and_not_same false = refl

pub round_tick : (layout : Layout) (role : ℕ) (past : History) → (role == tick_role layout) ≡ true
    → round_for layout role past ≡ rounds_begun layout past
round_tick layout role past e =
    ap (λ (b : Bool). one_if b + rounds_begun layout past)
    (and_not_true (ends_with_tick layout past) (role == tick_role layout) e)
    ∙ none_more (rounds_begun layout past)

round_open : (layout : Layout) (role : ℕ) (past : History) → (role == tick_role layout) ≡ false
    → round_for layout role past ≡ open_round layout past
round_open layout role past e =
    ap (λ (b : Bool). one_if b + rounds_begun layout past)
    (and_not_false (ends_with_tick layout past) (role == tick_role layout) e)

-- a role's steps one after another are of one round
pub one_round : (layout : Layout) (role : ℕ) (acts : Log) (past : History)
    → round_for layout role (steps_of role acts ++ past) ≡ round_for layout role past
one_round layout role [] past = refl
one_round layout role (act ∷ acts) past =
    ap (λ (b : Bool). one_if b + round_for layout role (steps_of role acts ++ past))
    (and_not_same (role == tick_role layout))
    ∙ none_more (round_for layout role (steps_of role acts ++ past))
    ∙ one_round layout role acts past

pub of_round : (layout : Layout) (role round : ℕ) (acts : Log) (past : History)
    → round_for layout role past ≡ round
    → AreOfRound layout role round acts past
of_round layout role round [] past e = tt
of_round layout role round (act ∷ acts) past e =
    (one_round layout role acts past ∙ e, of_round layout role round acts past e)

-- What a turn leaves

open_after : (layout : Layout) (role : ℕ) (acts : Log) (past : History) → (role == tick_role layout) ≡ false
    → open_round layout (steps_of role acts ++ past) ≡ open_round layout past
open_after layout role acts past e =
    sym (round_open layout role (steps_of role acts ++ past) e) ∙ one_round layout role acts past
    ∙ round_open layout role past e

ends_after : (layout : Layout) (role : ℕ) (acts : Log) (past : History) → acts ≢ []
    → ends_with_tick layout (steps_of role acts ++ past) ≡ (role == tick_role layout)
ends_after layout role [] past some = absurd (some refl)
ends_after layout role (act ∷ acts) past some = refl

ends_still : (layout : Layout) (role : ℕ) (acts : Log) (past : History) → (role == tick_role layout) ≡ false
    → ends_with_tick layout past ≡ false
    → ends_with_tick layout (steps_of role acts ++ past) ≡ false
ends_still layout role [] past e before = before
ends_still layout role (act ∷ acts) past e before = e

begun_after : (layout : Layout) (role : ℕ) (acts : Log) (past : History) → (role == tick_role layout) ≡ true
    → rounds_begun layout (steps_of role acts ++ past) ≡ rounds_begun layout past
begun_after layout role acts past e =
    sym (round_tick layout role (steps_of role acts ++ past) e) ∙ one_round layout role acts past
    ∙ round_tick layout role past e

-- Places

-- what the tests of a place leave, after the first and the second
abbrev role_third : Layout → ℕ → ℕ
role_third layout place =
    if nat_lt place (layout.ports + layout.cores + layout.transmit) then place - layout.cores else tick_role layout

abbrev role_second : Layout → ℕ → ℕ
role_second layout place =
    if nat_lt place (layout.ports + layout.cores) then place + layout.transmit else role_third layout place

-- which role a place has, by where it stands
role_fourth : (layout : Layout) (place : ℕ) → layout.ports + layout.cores + layout.transmit ≤ place
    → role_at layout place ≡ tick_role layout
role_fourth layout place behind =
    if_unmet (nat_lt place layout.ports) place (role_second layout place)
    (le-ltb place layout.ports (omega (arith, behind)))
    ∙ if_unmet (nat_lt place (layout.ports + layout.cores)) (place + layout.transmit) (role_third layout place)
    (le-ltb place (layout.ports + layout.cores) (omega (arith, behind)))
    ∙ if_unmet (nat_lt place (layout.ports + layout.cores + layout.transmit)) (place - layout.cores) (tick_role layout)
    (le-ltb place (layout.ports + layout.cores + layout.transmit) (omega (arith, behind)))

pub role_last : (layout : Layout) → role_at layout (layout.ports + layout.cores + layout.transmit) ≡ tick_role layout
role_last layout = role_fourth layout (layout.ports + layout.cores + layout.transmit) (omega arith)

role_core : (layout : Layout) (core : ℕ) → core < layout.cores
    → role_at layout (layout.ports + core) ≡ layout.ports + layout.transmit + core
role_core layout core less =
    if_unmet (nat_lt (layout.ports + core) layout.ports) (layout.ports + core) (role_second layout
    (layout.ports + core))
    (le-ltb (layout.ports + core) layout.ports (omega arith))
    ∙ if_met (nat_lt (layout.ports + core) (layout.ports + layout.cores)) (layout.ports + core + layout.transmit)
    (role_third layout (layout.ports + core))
    (lt-ltb (layout.ports + core) (layout.ports + layout.cores) (omega (arith, less)))
    ∙ omega arith

role_below : (layout : Layout) (place : ℕ) → place + 1 < first_role layout
    → (role_at layout place == tick_role layout) ≡ false
role_below layout place less =
    elim (cases_Bool (nat_lt place layout.ports)) [
      | inl first ↦
          let less_ports : place < layout.ports = ltb-true place layout.ports first in
          let at : role_at layout place ≡ place =
          if_met (nat_lt place layout.ports) place (role_second layout place) first in
          ne_eqb (role_at layout place) (tick_role layout) (λ e. omega (arith, e, at, less_ports))
      | inr behind ↦
          let at : role_at layout place ≡ role_second layout place =
          if_unmet (nat_lt place layout.ports) place (role_second layout place) behind in
          elim (cases_Bool (nat_lt place (layout.ports + layout.cores))) [
            | inl core ↦
                let less_cores : place < layout.ports + layout.cores =
                ltb-true place (layout.ports + layout.cores) core in
                let is : role_second layout place ≡ place + layout.transmit =
                if_met (nat_lt place (layout.ports + layout.cores)) (place + layout.transmit)
                (role_third layout place) core in
                ne_eqb (role_at layout place) (tick_role layout) (λ e. omega (arith, e, at, is, less_cores))
            | inr later ↦
                let is : role_second layout place ≡ role_third layout place =
                if_unmet (nat_lt place (layout.ports + layout.cores)) (place + layout.transmit)
                (role_third layout place) later in
                let fewer : place < layout.ports + layout.cores + layout.transmit = omega (arith, less) in
                let more : layout.ports + layout.cores ≤ place =
                ltb-false place (layout.ports + layout.cores) later in
                let is_third : role_third layout place ≡ place - layout.cores =
                if_met (nat_lt place (layout.ports + layout.cores + layout.transmit)) (place - layout.cores)
                (tick_role layout)
                (lt-ltb place (layout.ports + layout.cores + layout.transmit) fewer) in
                ne_eqb (role_at layout place) (tick_role layout)
                (λ e. omega (arith, e, at, is, is_third, fewer, more))
          ]
    ]

-- Where the turns stand

pub record Stands (layout : Layout) (core place round : ℕ) (past : History) : Type 0 where
  pub within : place < first_role layout
  pub now : open_round layout past ≡ round
  pub shown : layout.ports + core < place → ends_with_tick layout past ≡ false
  pub ended : place ≡ 0 → 0 < round → ends_with_tick layout past ≡ true

-- the round of the next turn's steps
pub round_here : (layout : Layout) (core place round : ℕ) (past : History)
    → core < layout.cores → Stands layout core place round past
    → round_for layout (role_at layout place) past ≡ round
round_here layout core place round past ranges stands =
    elim (cases_Bool (place + 1 == first_role layout)) [
      | inl last ↦
          let at : place ≡ layout.ports + layout.cores + layout.transmit =
          omega (arith, eqb-true (place + 1) (first_role layout) last) in
          let tick : role_at layout place ≡ tick_role layout = ap (role_at layout) at ∙ role_last layout in
          let off : ends_with_tick layout past ≡ false =
          stands.shown (omega (arith, at, ranges)) in
          round_tick layout (role_at layout place) past (eq-eqb (role_at layout place) (tick_role layout) tick)
          ∙ sym (none_more (rounds_begun layout past))
          ∙ ap (λ (b : Bool). one_if b + rounds_begun layout past) (sym off)
          ∙ stands.now
      | inr more ↦
          let less : place + 1 < first_role layout =
          omega (arith, stands.within, eqb-false (place + 1) (first_role layout) more) in
          round_open layout (role_at layout place) past (role_below layout place less) ∙ stands.now
    ]

stands_next : (layout : Layout) (core place round : ℕ) (acts : Log) (past : History)
    → core < layout.cores → Stands layout core place round past
    → ((role_at layout place ≡ layout.ports + layout.transmit + core) ⊎ (role_at layout place ≡ tick_role layout)
    → acts ≢ [])
    → Stands layout core (next_place layout place)
    (if place + 1 == first_role layout then round + 1 else round)
    (steps_of (role_at layout place) acts ++ past)
stands_next layout core place round acts past ranges stands some =
    elim (cases_Bool (place + 1 == first_role layout)) [
      | inl last ↦
          let at : place ≡ layout.ports + layout.cores + layout.transmit =
          omega (arith, eqb-true (place + 1) (first_role layout) last) in
          let tick : role_at layout place ≡ tick_role layout = ap (role_at layout) at ∙ role_last layout in
          let is : (role_at layout place == tick_role layout) ≡ true =
          eq-eqb (role_at layout place) (tick_role layout) tick in
          let off : ends_with_tick layout past ≡ false =
          stands.shown (omega (arith, at, ranges)) in
          let acts_some : acts ≢ [] = some (inr tick) in
          let ends : ends_with_tick layout (steps_of (role_at layout place) acts ++ past) ≡ true =
          ends_after layout (role_at layout place) acts past acts_some ∙ is in
          let begun : rounds_begun layout (steps_of (role_at layout place) acts ++ past) ≡ round =
          begun_after layout (role_at layout place) acts past is
          ∙ sym (none_more (rounds_begun layout past))
          ∙ ap (λ (b : Bool). one_if b + rounds_begun layout past) (sym off)
          ∙ stands.now in
          rw last (record {
            within = omega arith;
            now =
                ap (λ (b : Bool). one_if b + rounds_begun layout (steps_of (role_at layout place) acts ++ past)) ends
                ∙ omega (arith, begun);
            shown = λ less. absurd (omega (arith, less));
            ended = λ first later. ends;
          })
      | inr more ↦
          let less : place + 1 < first_role layout =
          omega (arith, stands.within, eqb-false (place + 1) (first_role layout) more) in
          let not_tick : (role_at layout place == tick_role layout) ≡ false = role_below layout place less in
          rw more (record {
            within = less;
            now = open_after layout (role_at layout place) acts past not_tick ∙ stands.now;
            shown = λ behind. elim (cases_Bool (place == layout.ports + core)) [
              | inl here ↦
                  let at : role_at layout place ≡ layout.ports + layout.transmit + core =
                  ap (role_at layout) (eqb-true place (layout.ports + core) here) ∙ role_core layout core ranges in
                  ends_after layout (role_at layout place) acts past (some (inl at)) ∙ not_tick
              | inr other ↦
                  ends_still layout (role_at layout place) acts past not_tick
                  (stands.shown (omega (arith, behind, eqb-false place (layout.ports + core) other)))
            ];
            ended = λ first later. absurd (omega (arith, first));
          })
    ]

pub stands_turns : (layout : Layout) (core : ℕ) (logs : ℕ → Log) (ts : List Turn)
    → core < layout.cores → AreInRounds layout ts → AreShown layout core logs ts
    → Stands layout core (place_of_turn layout ts) (round_of_turn layout ts) (turn_steps logs ts)
stands_turns layout core logs [] ranges are shown =
    record {
      within = omega arith;
      now = refl;
      shown = λ less. refl;
      ended = λ first later. absurd (omega
          (arith, later));
    }
stands_turns layout core logs (t ∷ ts) ranges are shown =
    let at : t.role ≡ role_at layout (place_of_turn layout ts) = are.0 in
    subst (λ (role : ℕ).
    Stands layout core (place_of_turn layout (t ∷ ts)) (round_of_turn layout (t ∷ ts))
    (steps_of role (stretch (joined_count t.role ts) t.count (logs t.role)) ++ turn_steps logs ts))
    (sym at)
    (stands_next layout core (place_of_turn layout ts) (round_of_turn layout ts)
    (stretch (joined_count t.role ts) t.count (logs t.role)) (turn_steps logs ts) ranges
    (stands_turns layout core logs ts ranges are.1 shown.1)
    (subst (λ (role : ℕ).
    (role ≡ layout.ports + layout.transmit + core) ⊎ (role ≡ tick_role layout)
    → stretch (joined_count t.role ts) t.count (logs t.role) ≢ [])
    at shown.0))

-- the steps of each turn have the number of its round
pub all_of_rounds : (layout : Layout) (core : ℕ) (logs : ℕ → Log) (ts : List Turn)
    → core < layout.cores → AreInRounds layout ts → AreShown layout core logs ts
    → AreAllOfRounds layout logs ts
all_of_rounds layout core logs [] ranges are shown = tt
all_of_rounds layout core logs (t ∷ ts) ranges are shown = (
  of_round layout t.role (round_of_turn layout ts) (stretch (joined_count t.role ts) t.count (logs t.role))
      (turn_steps logs ts)
      (ap (λ (role : ℕ). round_for layout role (turn_steps logs ts)) are.0
      ∙ round_here layout core (place_of_turn layout ts) (round_of_turn layout ts) (turn_steps logs ts) ranges
      (stands_turns layout core logs ts ranges are.1 shown.1)),
  all_of_rounds layout core logs ts ranges are.1 shown.1,
)

-- the tick role's next step, right behind one of its own, is of the same round
pub closing_is : (layout : Layout) (round : ℕ) (past : History) → ends_with_tick layout past ≡ true
    → open_round layout past ≡ round
    → round_for layout (tick_role layout) past ≡ round - 1
closing_is layout round past ends now =
    let one : one_if (ends_with_tick layout past) ≡ 1 = ap one_if ends in
    round_tick layout (tick_role layout) past (eq-eqb (tick_role layout) (tick_role layout) refl)
    ∙ omega (arith, now, one)

-- a turn of the tick role behind whole rounds is of the last round
pub closing_round : (layout : Layout) (core : ℕ) (logs : ℕ → Log) (ts : List Turn) (acts : Log)
    → core < layout.cores → AreInRounds layout ts → AreShown layout core logs ts
    → place_of_turn layout ts ≡ 0 → 0 < round_of_turn layout ts
    → AreOfRound layout (tick_role layout) (round_of_turn layout ts - 1) acts (turn_steps logs ts)
closing_round layout core logs ts acts ranges are shown whole some =
    let stands : Stands layout core (place_of_turn layout ts) (round_of_turn layout ts) (turn_steps logs ts) =
    stands_turns layout core logs ts ranges are shown in
    let ends : one_if (ends_with_tick layout (turn_steps logs ts)) ≡ 1 = ap one_if (stands.ended whole some) in
    of_round layout (tick_role layout) (round_of_turn layout ts - 1) acts (turn_steps logs ts)
    (round_tick layout (tick_role layout) (turn_steps logs ts) (eq-eqb (tick_role layout) (tick_role layout) refl)
    ∙ omega (arith, stands.now, ends))

-- Moments by number

log_of_steps : (role : ℕ) (acts : Log) (past : History)
    → length (log_of role (steps_of role acts ++ past)) ≡ length acts + length (log_of role past)
log_of_steps role [] past = omega arith
log_of_steps role (act ∷ acts) past =
    ap length (own_log role (record { role = role; act = act }) (steps_of role acts ++ past) (eq-eqb role role refl))
    ∙ omega (arith, log_of_steps role acts past)

log_longer : (role other : ℕ) (acts : Log) (past : History)
    → length (log_of other past) ≤ length (log_of other (steps_of role acts ++ past))
log_longer role other [] past = omega arith
log_longer role other (act ∷ acts) past =
    omega (
      arith,
      log_longer role other acts past,
      log_grows other (record { role = role; act = act }) (steps_of role acts ++ past),
    )

-- a turn leaves the moments of earlier acts
pub moment_old : (layout : Layout) (role other number : ℕ) (acts : Log) (past : History)
    → number < length (log_of other past)
    → moment_in layout (steps_of role acts ++ past) other number ≡ moment_in layout past other number
moment_old layout role other number [] past less = refl
moment_old layout role other number (act ∷ acts) past less =
    let off : ((role == other) && (length (log_of other (steps_of role acts ++ past)) == number)) ≡ false =
    and_right (role == other) (length (log_of other (steps_of role acts ++ past)) == number)
    (ne_eqb (length (log_of other (steps_of role acts ++ past))) number
    (λ e. omega (arith, e, less, log_longer role other acts past))) in
    if_unmet ((role == other) && (length (log_of other (steps_of role acts ++ past)) == number))
    (moment_of_round (rounds_begun layout (steps_of role (act ∷ acts) ++ past)))
    (moment_in layout (steps_of role acts ++ past) other number) off
    ∙ moment_old layout role other number acts past less

-- and its own acts have the moment of its round
pub moment_new : (layout : Layout) (role number round : ℕ) (acts : Log) (past : History)
    → round_for layout role past ≡ round
    → length (log_of role past) ≤ number → number < length acts + length (log_of role past)
    → moment_in layout (steps_of role acts ++ past) role number ≡ moment_of_round round
moment_new layout role number round [] past at from less = absurd (omega (arith, from, less))
moment_new layout role number round (act ∷ acts) past at from less =
    elim (cases_Bool (length (log_of role (steps_of role acts ++ past)) == number)) [
      | inl met ↦
          if_met ((role == role) && (length (log_of role (steps_of role acts ++ past)) == number))
          (moment_of_round (rounds_begun layout (steps_of role (act ∷ acts) ++ past)))
          (moment_in layout (steps_of role acts ++ past) role number)
          (and_from (role == role) (length (log_of role (steps_of role acts ++ past)) == number)
          (eq-eqb role role refl) met)
          ∙ ap moment_of_round (one_round layout role acts past ∙ at)
      | inr unmet ↦
          if_unmet ((role == role) && (length (log_of role (steps_of role acts ++ past)) == number))
          (moment_of_round (rounds_begun layout (steps_of role (act ∷ acts) ++ past)))
          (moment_in layout (steps_of role acts ++ past) role number)
          (and_right (role == role) (length (log_of role (steps_of role acts ++ past)) == number) unmet)
          ∙ moment_new layout role number round acts past at from
          (omega (
            arith,
            less,
            log_of_steps role acts past,
            eqb-false (length (log_of role (steps_of role acts ++ past))) number unmet,
          ))
    ]
