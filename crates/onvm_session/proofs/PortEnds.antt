-- A port's capture is read to its end, or up to a fault.
use Rattle.std.proofs.Common.{◌≡◌, ◌≢◌, ℕ, zero, suc, ◌+◌, ◌<◌, ◌≤◌, true, inl, inr, List, [], ◌∷◌, length, refl, sym, ◌∙◌, ap, subst, arith, Some, None, Option}
use Rattle.std.specs.Prelude.{IsSome, slice_get, slice_index_or, slice_set}
use Rattle.std.proofs.lemmas.Bool.Decides.{eqb_tells}
use Rattle.std.proofs.lemmas.List.{length-set}
use Rattle.std.proofs.lemmas.Option.{slice_get_read}
use Rattle.rx_feed.specs.declared.fault.FeedFault.{FeedFault}
use Rattle.onvm_session.specs.declared.manager.Manager.{Manager}
use Rattle.onvm_session.specs.declared.role.Role.{Role}
use Rattle.onvm_session.proofs.Growing.{some_inj}
use Rattle.onvm_session.proofs.ManagerRuns.{got_other, got_same}
use Rattle.onvm_session.specs.Managers.{HasFault, IsDrainedAt}
use Rattle.onvm_session.specs.declared.run.Stop.{Stop}
use Rattle.onvm_session.specs.RoleStates.{HasNoMore, ended_in, fault_of}
use Rattle.onvm_session.specs.Runs.{told_fault}

set_same_item : {A : Type 0} (xs : List A) (at : ℕ) (x : A) → slice_get xs at ≡ Some x → slice_set xs at x ≡ xs
set_same_item [] at x found = refl
set_same_item (y ∷ ys) zero x found = ap (λ z. z ∷ ys) (sym (some_inj y x found))
set_same_item (y ∷ ys) (suc at) x found = ap (λ zs. y ∷ zs) (set_same_item ys at x found)

-- a role of which no more comes stays as it was
pub set_back : {I N : Type 0} (roles : List (Role I N)) (at : ℕ) (was role now : Role I N) → at < length roles
    → was ≡ slice_index_or roles at was → slice_get roles at ≡ Some role → HasNoMore role
    → (HasNoMore was → now ≡ was) → slice_set roles at now ≡ roles
set_back roles at was role now known read found no_more stays =
    let here = slice_get_read roles (length roles) at was refl known read in
    let same : role ≡ was = some_inj role was (sym found ∙ here) in
    ap (slice_set roles at) (stays (subst HasNoMore same no_more)) ∙ set_same_item roles at was here

ended_without : {I N : Type 0} (role : Role I N) → HasNoMore role → fault_of role ≡ None → ended_in role ≡ true
ended_without role (inl ended) none = ended
ended_without role (inr fault) none = absurd (fault none)

pub drained_at : {I N : Type 0} (old new : Manager I N) (at : ℕ) (now read : Role I N) (fault : Option FeedFault)
    → at < length old.roles.items → new.roles.items ≡ slice_set old.roles.items at now
    → read ≡ slice_index_or (slice_set old.roles.items at now) at read → HasNoMore now → fault ≡ fault_of read
    → IsDrainedAt at fault old new
drained_at old new at now read fault known roles is no_more told =
    let there = got_same old.roles.items at now known in
    let same : read ≡ now = some_inj read now
    (sym (slice_get_read (slice_set old.roles.items at now) (length old.roles.items) at read
    (sym (length-set old.roles.items at now)) known is)
    ∙ there) in
    let fault_is : fault_of now ≡ fault = ap fault_of (sym same) ∙ sym told in
    record {
      role = now;
      here = ap (λ items. slice_get items at) roles ∙ there;
      fault_is = fault_is;
      ended = λ none. ended_without now no_more (fault_is ∙ none);
      others = λ r apart.
          ap (λ items. slice_get items r) roles ∙ got_other old.roles.items at r now apart;
    }

-- Of which port a fault is told

not_none : (fault : Option FeedFault) → IsSome fault → fault ≢ None
not_none None some none = absurd (cc some)
not_none (Some fault) some none = absurd (cc none)

no_more_of : {I N : Type 0} (role : Role I N) → IsSome (fault_of role) → HasNoMore role
no_more_of role some = inr (not_none (fault_of role) some)

pub has_fault : {I N : Type 0} (old new : Manager I N) (at : ℕ) (found : Option FeedFault) (fault : FeedFault)
    → IsDrainedAt at found old new → found ≡ Some fault
    → ((r : ℕ) (role : Role I N) → r < at → slice_get old.roles.items r ≡ Some role → ended_in role ≡ true)
    → (stop : Stop) → told_fault stop ≡ Some (at, fault) → (port : ℕ) (told : FeedFault)
    → told_fault stop ≡ Some (port, told) → HasFault new.roles.items port told
has_fault old new at found fault drained is below stop first port told other =
    let same : (at, fault) ≡ (port, told) = some_inj (at, fault) (port, told) (sym first ∙ other) in
    let port_is : port ≡ at = sym (ap (λ x. x.0) same) in
    record {
      role = drained.role;
      at = ap (slice_get new.roles.items) port_is ∙ drained.here;
      fault_is = drained.fault_is ∙ is ∙ ap (λ x. Some x.1) same;
      lower = λ r role under held.
          let less : r < at = omega (arith, under, port_is) in
          below r role less (sym (drained.others r (λ e. omega (arith, e, less))) ∙ held);
    }

pub below_next : {I N : Type 0} (old new : Manager I N) (at : ℕ) (found : Option FeedFault)
    → IsDrainedAt at found old new → found ≡ None
    → ((r : ℕ) (role : Role I N) → r < at → slice_get old.roles.items r ≡ Some role → ended_in role ≡ true)
    → (r : ℕ) (role : Role I N) → r < at + 1 → slice_get new.roles.items r ≡ Some role → ended_in role ≡ true
below_next old new at found drained none below r role less held = elim (eqb_tells r at) [
  | inl here ↦
      ap ended_in
      (some_inj role drained.role (sym held ∙ ap (slice_get new.roles.items) here.1 ∙ drained.here))
      ∙ drained.ended none
  | inr apart ↦ below r role (omega (arith, less, apart.1)) (sym (drained.others r apart.1) ∙ held)
]

pub fault_next : {I N : Type 0} (old new : Manager I N) (at : ℕ) (found : Option FeedFault)
    → IsDrainedAt at found old new → found ≡ None
    → ((role : Role I N) → slice_get old.roles.items at ≡ Some role → HasNoMore role
    → new.roles.items ≡ old.roles.items)
    → (r : ℕ) (role : Role I N) → at ≤ r → slice_get old.roles.items r ≡ Some role → IsSome (fault_of role)
    → (at + 1 ≤ r) × (slice_get new.roles.items r ≡ Some role)
fault_next old new at found drained none stays r role from held some = elim (eqb_tells r at) [
  | inl here ↦
      let there : slice_get old.roles.items at ≡ Some role = ap (slice_get old.roles.items) (sym here.1) ∙ held in
      let same : drained.role ≡ role = some_inj drained.role role
      (sym drained.here ∙ ap (λ items. slice_get items at) (stays role there (no_more_of role some)) ∙ there) in
      absurd (not_none (fault_of role) some (ap fault_of (sym same) ∙ drained.fault_is ∙ none))
  | inr apart ↦ (omega (arith, from, apart.1), drained.others r apart.1 ∙ held)
]
