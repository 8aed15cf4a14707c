-- Turns of a round.
use Rattle.std.proofs.Common.{◌≡◌, ℕ, ◌+◌, ◌-◌, ◌^◌, ◌<◌, ◌≤◌, refl, ◌∙◌, ap, arith}
use Rattle.std.specs.Prelude.{◌==◌, if◌then◌else◌, min}
use Rattle.std.proofs.lemmas.Bool.{eq-eqb, ne_eqb}
use Rattle.onvm_core.proofs.Lists.{if_met, if_unmet}
use Rattle.onvm_core.specs.Layouts.{first_role}
use Rattle.onvm_session.specs.declared.manager.Manager.{Manager}
use Rattle.onvm_session.specs.declared.role.Role.{Role}
use Rattle.onvm_session.specs.declared.role.Role.TheVariants.{Receive, Send, Handle, Tick}
use Rattle.onvm_session.specs.Managers.{place_now, round_now}
use Rattle.onvm_session.specs.Moments.{moment_of_round}
use Rattle.onvm_session.specs.RoleStates.{IsUpTo}
use Rattle.onvm_session.specs.Views.{next_place}

-- so many turns of the round were made that began with this manager
pub record IsInRound {I N : Type 0} (began : Manager I N) (place : ℕ) (manager : Manager I N) : Type 0 where
  pub board : manager.board ≡ began.board
  pub on_way : place < first_role began.board.layout
      → (place_now manager ≡ place) × (round_now manager ≡ round_now began)
  pub at_end : place ≡ first_role began.board.layout
      → (place_now manager ≡ 0) × (round_now manager ≡ round_now began + 1)

module _ (first place round was_place was_round new_place new_round : ℕ) (place_is : was_place ≡ place)
    (round_is : was_round ≡ round) (next : new_place ≡ (if was_place + 1 == first then 0 else was_place + 1))
    (count : new_round ≡ (if was_place + 1 == first then was_round + 1 else was_round))
  where
    still_on_way : place + 1 < first → (new_place ≡ place + 1) × (new_round ≡ round)
    still_on_way less =
        let apart = ne_eqb (was_place + 1) first (λ e. omega (arith, e, less, place_is)) in (
          next ∙ if_unmet (was_place + 1 == first) 0 (was_place + 1) apart ∙ ap (λ n. n + 1) place_is,
          count ∙ if_unmet (was_place + 1 == first) (was_round + 1) was_round apart ∙ round_is,
        )

    at_its_end : place + 1 ≡ first → (new_place ≡ 0) × (new_round ≡ round + 1)
    at_its_end last =
        let same = eq-eqb (was_place + 1) first (ap (λ n. n + 1) place_is ∙ last) in (
          next ∙ if_met (was_place + 1 == first) 0 (was_place + 1) same,
          count ∙ if_met (was_place + 1 == first) (was_round + 1) was_round same ∙ ap (λ n. n + 1) round_is,
        )

-- a round begins
pub round_begins : {I N : Type 0} (manager : Manager I N) → place_now manager ≡ 0 → IsInRound manager 0 manager
round_begins manager begins = record {
  board = refl;
  on_way = λ less. (begins, refl);
  at_end = λ e. absurd (omega (arith, e));
}

-- and goes on by a turn
pub round_next : {I N : Type 0} (began old new : Manager I N) (place : ℕ) → IsInRound began place old
    → place < first_role began.board.layout → new.board ≡ old.board
    → place_now new ≡ next_place old.board.layout (place_now old)
    → round_now new
    ≡ (if place_now old + 1 == first_role old.board.layout then round_now old + 1 else round_now old)
    → IsInRound began (place + 1) new
round_next began old new place was less board next count =
    let stood = was.on_way less in
    let firsts : first_role old.board.layout ≡ first_role began.board.layout =
    ap (λ b. first_role b.layout) was.board in
    let next_there : place_now new
    ≡ (if place_now old + 1 == first_role began.board.layout then 0 else place_now old + 1) =
    next ∙ ap (λ (n : ℕ). if place_now old + 1 == n then 0 else place_now old + 1) firsts in
    let count_there : round_now new
    ≡ (if place_now old + 1 == first_role began.board.layout then round_now old + 1 else round_now old) =
    count ∙ ap (λ (n : ℕ). if place_now old + 1 == n then round_now old + 1 else round_now old) firsts in
    record {
      board = board ∙ was.board;
      on_way =
          still_on_way (first_role began.board.layout) place (round_now began) (place_now old) (round_now old)
          (place_now new) (round_now new) stood.0 stood.1 next_there count_there;
      at_end =
          at_its_end (first_role began.board.layout) place (round_now began) (place_now old) (round_now old)
          (place_now new) (round_now new) stood.0 stood.1 next_there count_there;
    }

-- Moments

-- the moment of the next round
pub next_moment : (now later round next : ℕ) → now ≡ moment_of_round round → next ≡ round + 1
    → later ≡ min (now + 1000) (2 ^ 64 - 1) → (later ≡ moment_of_round next) × (now ≤ later)
next_moment now later round next is count added =
    (omega (arith, is, count, added), omega (arith, is, added))

-- up to a moment is up to a later one
pub upto_later : {I N : Type 0} (now later : ℕ) (role : Role I N) → now ≤ later → IsUpTo now role → IsUpTo later role
upto_later now later (Receive rx) more is = tt
upto_later now later (Send tx) more is = tt
upto_later now later (Handle core) more is = tt
upto_later now later (Tick tick) more is = omega (arith, more, is)
