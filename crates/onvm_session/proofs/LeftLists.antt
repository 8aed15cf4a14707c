-- What roles leave, put together, is what they kept by their numbers.
use Rattle.std.proofs.Common.{◌≡◌, ◌≢◌, ℕ, zero, suc, ◌+◌, ◌-◌, ◌<◌, ◌≤◌, true, false, inl, inr, List, [], ◌∷◌, ◌++◌, length, refl, sym, ◌∙◌, ap, arith, append_assoc, Some, Option}
use Rattle.std.specs.Prelude.{◌==◌, ◌^◌, min, nat_lt, slice_get}
use Rattle.std.proofs.lemmas.Bool.{cases_Bool, le-ltb, ltb-false, ltb-true}
use Rattle.std.proofs.lemmas.List.{append-nil}
use Rattle.onvm_core.specs.declared.layout.Layout.{Layout}
use Rattle.onvm_core.proofs.RoleKinds.{kind_other, kind_port, kind_sends}
use Rattle.onvm_core.specs.Blocks.{kind_of}
use Rattle.onvm_core.specs.Blocks.RoleKind.{Receives, Sends, Handles, Ticks, Leads}
use Rattle.onvm_core.specs.Layouts.{first_role, tick_role}
use Rattle.onvm_core.specs.Potential.{sum_below}
use Rattle.onvm_promises.specs.Kept.{CoreKeeps, FeederKeeps}
use Rattle.tick_pass.specs.declared.role.TickRole.{TickRole}
use Rattle.tick_pass.specs.Roles.{logged, ticked}
use Rattle.onvm_session.specs.declared.leaving.Leavings.{Leavings}
use Rattle.onvm_session.specs.declared.role.Role.{Role}
use Rattle.onvm_session.specs.declared.role.Role.TheVariants.{Receive, Send, Handle, Tick}
use Rattle.onvm_session.proofs.Growing.{got_none, got_some, some_inj}
use Rattle.onvm_session.proofs.Summing.{sum_behind, sum_front}
use Rattle.onvm_session.specs.Gathering.{cores_counted, feeders_kept}
use Rattle.onvm_session.specs.Leaving.{HasLeft, HaveLeft, kept_of, samples_after, ticks_after}
use Rattle.onvm_session.specs.Managers.{OfEach, keeps_at, keeps_in}
use Rattle.onvm_session.specs.RoleStates.{keeps_of, kind_in}
use Rattle.onvm_session.specs.Sessions.{Keeps}
use Rattle.onvm_session.specs.Starts.{no_keeps}

-- each role is of the kind of its number
abbrev pub AreOfKinds : {I N : Type 0} → Layout → List (Role I N) → Type 0
AreOfKinds layout roles = OfEach (λ r role. kind_in role ≡ kind_of layout r) roles

-- Who keeps what

-- a role with a transmit role's kind is a feeder
sends_before : (layout : Layout) (r : ℕ) → layout.ports + layout.transmit ≤ r → Sends ≢ kind_of layout r
sends_before layout r from is =
    let one : nat_lt r layout.ports ≡ false = le-ltb r layout.ports (omega (arith, from)) in
    let two : nat_lt r (layout.ports + layout.transmit) ≡ false =
    le-ltb r (layout.ports + layout.transmit) from in
    elim (cases_Bool (nat_lt r (layout.ports + layout.transmit + layout.cores))) [
      | inl met ↦ let off : Sends ≡ Handles = rw (one, two, met) at is in absurd (cc off)
      | inr unmet ↦ elim (cases_Bool (r == layout.ports + layout.transmit + layout.cores)) [
        | inl met ↦ let off : Sends ≡ Ticks = rw (one, two, unmet, met) at is in absurd (cc off)
        | inr last ↦ let off : Sends ≡ Leads = rw (one, two, unmet, last) at is in absurd (cc off)
      ]
    ]

-- no feeder is a core
feeds_no_core : (layout : Layout) (r : ℕ) → r < layout.ports + layout.transmit → Handles ≢ kind_of layout r
feeds_no_core layout r below is =
    elim (cases_Bool (nat_lt r layout.ports)) [
      | inl met ↦
          let off : Handles ≡ Receives = is ∙ kind_port layout r (ltb-true r layout.ports met) in absurd (cc off)
      | inr unmet ↦
          let from = ltb-false r layout.ports unmet in
          let off : Handles ≡ Sends =
          is ∙ kind_sends layout r (r - layout.ports) (omega (arith, from)) (omega (arith, from, below)) in
          absurd (cc off)
    ]

-- nor is a role behind the cores
ticks_no_core : (layout : Layout) (r : ℕ) → tick_role layout ≤ r → Handles ≢ kind_of layout r
ticks_no_core layout r from is =
    let one : nat_lt r layout.ports ≡ false = le-ltb r layout.ports (omega (arith, from)) in
    let two : nat_lt r (layout.ports + layout.transmit) ≡ false =
    le-ltb r (layout.ports + layout.transmit) (omega (arith, from)) in
    let three : nat_lt r (layout.ports + layout.transmit + layout.cores) ≡ false =
    le-ltb r (layout.ports + layout.transmit + layout.cores) from in
    elim (cases_Bool (r == layout.ports + layout.transmit + layout.cores)) [
      | inl met ↦ let off : Handles ≡ Ticks = rw (one, two, three, met) at is in absurd (cc off)
      | inr last ↦ let off : Handles ≡ Leads = rw (one, two, three, last) at is in absurd (cc off)
    ]

-- only feeders keep records, sent frames and posts
feeder_none : {I N : Type 0} (layout : Layout) (r : ℕ) (role : Role I N) → kind_in role ≡ kind_of layout r
    → layout.ports + layout.transmit ≤ r → (keeps_of role).feeder ≡ no_keeps.feeder
feeder_none layout r (Receive rx) kind from =
    absurd (kind_other layout r (le-ltb r layout.ports (omega (arith, from))) (sym kind))
feeder_none layout r (Send tx) kind from = absurd (sends_before layout r from kind)
feeder_none layout r (Handle core) kind from = refl
feeder_none layout r (Tick tick) kind from = refl

-- only cores count
core_none : {I N : Type 0} (layout : Layout) (r : ℕ) (role : Role I N) → kind_in role ≡ kind_of layout r
    → Handles ≢ kind_of layout r → (keeps_of role).core ≡ no_keeps.core
core_none layout r (Receive rx) kind other = refl
core_none layout r (Send tx) kind other = refl
core_none layout r (Handle core) kind other = absurd (other kind)
core_none layout r (Tick tick) kind other = refl

core_none_at : {I N : Type 0} (layout : Layout) (roles : List (Role I N)) (r : ℕ) → AreOfKinds layout roles
    → Handles ≢ kind_of layout r → (keeps_in roles r).core ≡ no_keeps.core
core_none_at {I} {N} layout roles r kinds other =
    elim (cases_Bool (nat_lt r (length roles))) [
      | inl met ↦
          let got = got_some roles r (ltb-true r (length roles) met) in
          ap (λ (role : Option (Role I N)). (keeps_at role).core) got.1
          ∙ core_none layout r got.0 (kinds r got.0 got.1) other
      | inr unmet ↦
          ap (λ (role : Option (Role I N)). (keeps_at role).core)
          (got_none roles r (ltb-false r (length roles) unmet))
    ]

-- Lists

kept_shift : {A : Type 0} (part : FeederKeeps → List A) (keeps : ℕ → Keeps) (n : ℕ)
    → feeders_kept part keeps (suc n) ≡ part (keeps 0).feeder ++ feeders_kept part (λ r. keeps (suc r)) n
kept_shift part keeps zero = sym (append-nil (part (keeps 0).feeder))
kept_shift {A} part keeps (suc n) =
    ap (λ (xs : List A). xs ++ part (keeps (suc n)).feeder) (kept_shift part keeps n)
    ∙ append_assoc (part (keeps 0).feeder) (feeders_kept part (λ r. keeps (suc r)) n) (part (keeps (suc n)).feeder)

kept_empty : {A : Type 0} (part : FeederKeeps → List A) → part no_keeps.feeder ≡ [] → (n : ℕ)
    → feeders_kept part (λ r. no_keeps) n ≡ []
kept_empty part none zero = refl
kept_empty {A} part none (suc n) =
    ap (λ (xs : List A). xs ++ part no_keeps.feeder) (kept_empty part none n) ∙ none

module _ {A I N : Type 0} (part : FeederKeeps → List A) where
  -- where the roles from n on keep nothing
  kept_all : (roles : List (Role I N)) (n : ℕ) → part no_keeps.feeder ≡ []
      → ((r : ℕ) (role : Role I N) → n ≤ r → slice_get roles r ≡ Some role → part (keeps_of role).feeder ≡ [])
      → kept_of (λ keeps. part keeps.feeder) roles ≡ feeders_kept part (keeps_in roles) n
  kept_all [] n none past = sym (kept_empty part none n)
  kept_all (role ∷ roles) zero none past =
      ap (λ (xs : List A). xs ++ kept_of (λ keeps. part keeps.feeder) roles) (past 0 role (omega arith) refl)
      ∙ kept_all roles zero none (λ r other from at. past (suc r) other (omega arith) at)
  kept_all (role ∷ roles) (suc n) none past =
      ap (λ (xs : List A). part (keeps_of role).feeder ++ xs)
      (kept_all roles n none (λ r other from at. past (suc r) other (omega (arith, from)) at))
      ∙ sym (kept_shift part (keeps_in (role ∷ roles)) n)

  pub feeders_left : (layout : Layout) (roles : List (Role I N)) → AreOfKinds layout roles → part no_keeps.feeder ≡ []
      → kept_of (λ keeps. part keeps.feeder) roles
      ≡ feeders_kept part (keeps_in roles) (layout.ports + layout.transmit)
  feeders_left layout roles kinds none =
      kept_all roles (layout.ports + layout.transmit) none
      (λ r role from at. ap part (feeder_none layout r role (kinds r role at) from) ∙ none)

-- nothing was lost on the way
left_complete : {I N : Type 0} (roles : List (Role I N)) (old new : Leavings I) → HaveLeft roles old new
    → new.complete ≡ true → old.complete ≡ true
left_complete {I} [] old new left complete = ap (λ (l : Leavings I). l.complete) (sym left) ∙ complete
left_complete (role ∷ roles) old new left complete =
    left.1.complete (left_complete roles left.0 new left.2 complete)

module _ {A I N : Type 0} (part : Keeps → List A) (list : Leavings I → List A)
    (adds : (role : Role I N) (old new : Leavings I) → HasLeft role old new → new.complete ≡ true
    → list new ≡ list old ++ part (keeps_of role))
  where
    -- role by role
    pub lists_left : (roles : List (Role I N)) (old new : Leavings I) → HaveLeft roles old new → new.complete ≡ true
        → list new ≡ list old ++ kept_of part roles
    lists_left [] old new left complete = ap list left ∙ sym (append-nil (list old))
    lists_left (role ∷ roles) old new left complete =
        lists_left roles left.0 new left.2 complete
        ∙ ap (λ (xs : List A). xs ++ kept_of part roles)
        (adds role old left.0 left.1 (left_complete roles left.0 new left.2 complete))
        ∙ append_assoc (list old) (part (keeps_of role)) (kept_of part roles)

-- Counts

abbrev counts_of : {I N : Type 0} → (CoreKeeps → ℕ) → List (Role I N) → ℕ
counts_of part [] = 0
counts_of part (role ∷ roles) = part (keeps_of role).core + counts_of part roles

cut_again : (most a b s n m : ℕ) → n ≡ min most (a + b) → m ≡ min most (n + s) → m ≡ min most (a + (b + s))
cut_again most a b s n m one two = omega (arith, one, two)

cut_none : (most n : ℕ) → n ≤ most → n ≡ min most (n + 0)
cut_none most n few = omega (arith, few)

cut_few : (most n m : ℕ) → n ≡ min most m → n ≤ most
cut_few most n m e = omega (arith, e)

sum_shift : (f : ℕ → ℕ) (n : ℕ) → sum_below f (suc n) ≡ f 0 + sum_below (λ k. f (suc k)) n
sum_shift f zero = omega arith
sum_shift f (suc n) = omega (arith, sum_shift f n)

module _ {I N : Type 0} (part : CoreKeeps → ℕ) where
  counts_all : (roles : List (Role I N))
      → counts_of part roles ≡ sum_below (λ r. part (keeps_in roles r).core) (length roles)
  counts_all [] = refl
  counts_all (role ∷ roles) =
      ap (λ (n : ℕ). part (keeps_of role).core + n) (counts_all roles)
      ∙ sym (sum_shift (λ r. part (keeps_in (role ∷ roles) r).core) (length roles))

  -- the cores' counts are all
  cores_left : (layout : Layout) (roles : List (Role I N)) → AreOfKinds layout roles
      → length roles ≡ first_role layout → part no_keeps.core ≡ 0
      → counts_of part roles ≡ cores_counted part layout (keeps_in roles) layout.cores
  cores_left layout roles kinds many none =
      counts_all roles ∙ ap (sum_below (λ r. part (keeps_in roles r).core)) many
      ∙ sum_front (λ r. part (keeps_in roles r).core) (tick_role layout) (first_role layout) (omega arith)
      (λ r from less. ap part (core_none_at layout roles r kinds (ticks_no_core layout r from)) ∙ none)
      ∙ sum_behind (λ r. part (keeps_in roles r).core) (layout.ports + layout.transmit) layout.cores
      (tick_role layout) refl
      (λ r less. ap part (core_none_at layout roles r kinds (feeds_no_core layout r less)) ∙ none)

  module _ (count : Leavings I → ℕ)
      (adds : (role : Role I N) (old new : Leavings I) → HasLeft role old new
      → count new ≡ min (2 ^ 64 - 1) (count old + part (keeps_of role).core))
    where
      cuts_left : (roles : List (Role I N)) (old new : Leavings I) → count old ≤ 2 ^ 64 - 1 → HaveLeft roles old new
          → count new ≡ min (2 ^ 64 - 1) (count old + counts_of part roles)
      cuts_left [] old new few left = ap count left ∙ cut_none (2 ^ 64 - 1) (count old) few
      cuts_left (role ∷ roles) old new few left =
          let one = adds role old left.0 left.1 in
          cut_again (2 ^ 64 - 1) (count old) (part (keeps_of role).core) (counts_of part roles) (count left.0)
          (count new) one
          (cuts_left roles left.0 new
          (cut_few (2 ^ 64 - 1) (count left.0) (count old + part (keeps_of role).core) one) left.2)

      pub counts_left : (layout : Layout) (roles : List (Role I N)) (old new : Leavings I) → AreOfKinds layout roles
          → length roles ≡ first_role layout → part no_keeps.core ≡ 0 → count old ≡ 0 → HaveLeft roles old new
          → count new ≡ min (2 ^ 64 - 1) (cores_counted part layout (keeps_in roles) layout.cores)
      counts_left layout roles old new kinds many none first left =
          let all : count old + counts_of part roles ≡ cores_counted part layout (keeps_in roles) layout.cores =
          omega (arith, first, cores_left layout roles kinds many none) in
          cuts_left roles old new (omega (arith, first)) left ∙ ap (min (2 ^ 64 - 1)) all

-- Samples and ticks

-- the last role's are told
pub ticks_left : {I N : Type 0} (roles : List (Role I N)) (at : ℕ) (tick : TickRole) (old new : Leavings I)
    → slice_get roles at ≡ Some (Tick tick) → length roles ≡ at + 1 → HaveLeft roles old new
    → (new.samples ≡ logged tick) × (new.ticks ≡ ticked tick)
ticks_left [] at tick old new found many left = absurd (omega (arith, many))
ticks_left {I} {N} (role ∷ []) zero tick old new found many left =
    let is : role ≡ Tick tick = some_inj role (Tick tick) found in (
      ap (λ (l : Leavings I). l.samples) left.2 ∙ left.1.samples
          ∙ ap (λ (r : Role I N). samples_after r old.samples) is,
      ap (λ (l : Leavings I). l.ticks) left.2 ∙ left.1.ticks
          ∙ ap (λ (r : Role I N). ticks_after r old.ticks) is,
    )
ticks_left (role ∷ other ∷ roles) zero tick old new found many left = absurd (omega (arith, many))
ticks_left (role ∷ roles) (suc at) tick old new found many left =
    ticks_left roles at tick left.0 new found (omega (arith, many)) left.2
