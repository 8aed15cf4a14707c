-- When a manager's session is over.
use Rattle.std.proofs.Common.{◌≡◌, ℕ, ◌+◌, ◌^◌, ◌<◌, ◌≤◌, Bool, true, inl, inr, List, length, sym, ◌∙◌, ap, subst, arith, Some}
use Rattle.std.specs.Prelude.{◌==◌, ◌↔◌, IsTrue, nat_lt, slice_get}
use Rattle.std.proofs.lemmas.Bool.{cases_Bool, eqb-true, eq-eqb, ltb-true, ltb-false}
use Rattle.onvm_core.specs.Potential.{sum_below}
use Rattle.onvm_promises.specs.Kept.{at_most_64_bits}
use Rattle.onvm_session.proofs.Growing.{got_below, some_inj}
use Rattle.onvm_session.specs.declared.manager.Manager.{Manager}
use Rattle.onvm_session.specs.declared.role.Role.{Role}
use Rattle.onvm_session.specs.Managers.{IsOver, OfEach, keeps_in, pulled_at}
use Rattle.onvm_session.specs.RoleStates.{ended_in}

-- the captures of the first of these roles were pulled to their ends
abbrev pub AreDoneBelow : {I N : Type 0} → ℕ → List (Role I N) → Type 0
AreDoneBelow {I} {N} n roles = (r : ℕ) (role : Role I N) → r < n → slice_get roles r ≡ Some role → ended_in role ≡ true

pub done_next : {I N : Type 0} (n : ℕ) (roles : List (Role I N)) (role : Role I N) → AreDoneBelow n roles
    → slice_get roles n ≡ Some role → ended_in role ≡ true → AreDoneBelow (n + 1) roles
done_next {I} {N} n roles role done at ended r other less found =
    elim (cases_Bool (nat_lt r n)) [
      | inl under ↦ done r other (ltb-true r n under) found
      | inr not_under ↦
          let from = ltb-false r n not_under in
          let same : r ≡ n = omega (arith, from, less) in
          let role_is : role ≡ other = some_inj role other (sym at ∙ ap (slice_get roles) (sym same) ∙ found) in
          subst (λ (one : Role I N). ended_in one ≡ true) role_is ended
    ]

pub done_all : {I N : Type 0} (n : ℕ) (roles : List (Role I N)) → AreDoneBelow n roles → length roles ≤ n
    → OfEach (λ r role. ended_in role ≡ true) roles
done_all n roles done past r role found =
    let below = got_below roles r role found in
    done r role (omega (arith, below, past)) found

-- the sums are equal where their cut ones are: fewer frames were pulled than where the sum of records is cut
pub over_is : {I N : Type 0} (manager : Manager I N) (pulled recorded : ℕ) (result : Bool)
    → manager.layout ≡ manager.board.layout
    → OfEach (λ r role. ended_in role ≡ true) manager.roles.items
    → pulled ≡ sum_below (λ r. pulled_at (slice_get manager.roles.items r)) manager.layout.ports
    → recorded ≡ at_most_64_bits (sum_below
    (λ r. length (keeps_in manager.roles.items r).feeder.outcomes.records)
    (manager.layout.ports + manager.layout.transmit))
    → pulled < 2 ^ 63 → result ≡ (pulled == recorded)
    → IsTrue result ↔ IsOver manager
over_is manager pulled recorded result layout ended pulled_is recorded_is few told =
    let records : ℕ =
    sum_below (λ r. length (keeps_in manager.roles.items r).feeder.outcomes.records)
    (manager.layout.ports + manager.layout.transmit) in
    let records_there : records ≡ sum_below (λ r. length (keeps_in manager.roles.items r).feeder.outcomes.records)
    (manager.board.layout.ports + manager.board.layout.transmit) =
    ap (λ l. sum_below (λ r. length (keeps_in manager.roles.items r).feeder.outcomes.records) (l.ports + l.transmit))
    layout in
    let pulled_there : pulled ≡ sum_below (λ r. pulled_at (slice_get manager.roles.items r)) manager.board.layout.ports =
    pulled_is ∙ ap (λ l. sum_below (λ r. pulled_at (slice_get manager.roles.items r)) l.ports) layout in (
      λ yes.
          let same : pulled ≡ recorded = eqb-true pulled recorded (sym told ∙ yes) in
          let exact : records ≡ pulled = omega (arith, same, recorded_is, few) in
          record { ended = ended; recorded = sym records_there ∙ exact ∙ pulled_there },
      λ over.
          let exact : records ≡ pulled = records_there ∙ over.recorded ∙ sym pulled_there in
          told ∙ eq-eqb pulled recorded (omega (arith, exact, recorded_is, few)),
    )
