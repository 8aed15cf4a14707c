-- Where one role at a time is split, the role that acts is the seated one, and another rests since its latest turn.
use Rattle.std.proofs.Common.{◌≡◌, ◌≢◌, ℕ, ◌<◌, ◌≤◌, Bool, true, false, if◌then◌else◌, inl, inr, List, [], ◌∷◌, ◌++◌, length, refl, sym, ◌∙◌, ap, subst, arith, Option, Some, None}
use Rattle.std.specs.Prelude.{◌==◌}
use Rattle.std.proofs.lemmas.Bool.{cases_Bool, or_cases, eqb-true, eqb-false, ne_eqb, both_ways}
use Rattle.onvm_core.specs.declared.layout.Layout.{Layout}
use Rattle.onvm_core.specs.declared.step.Act.{Act}
use Rattle.onvm_core.specs.declared.step.Act.TheVariants.{Split, Join, Take, Give, Push, Full, Pop, Empty, Look, Post}
use Rattle.onvm_core.specs.declared.step.Step.{Step}
use Rattle.onvm_core.proofs.Lists.{if_met, if_unmet}
use Rattle.onvm_core.proofs.Told.{foreign_log, own_log}
use Rattle.onvm_core.specs.History.{History, is_split, split_after, is_live}
use Rattle.onvm_core.specs.Lawful.{AllowsAct, IsLawful}
use Rattle.onvm_core.specs.Layouts.{first_role}
use Rattle.onvm_core.specs.Logs.{Log, log_of}
use Rattle.onvm_promises.proofs.Stretches.{until_longer}
use Rattle.onvm_promises.specs.Stretches.{log_until, acts_since, stretch}
use Rattle.onvm_session.specs.Turns.{Turn, turns_after, turns_of, joined_count, seated_after, seated, MaySeat, IsOneByOne, steps_of, turn_steps}

-- The log of a role after a step

pub log_grows : (role : ℕ) (step : Step) (before : History)
    → length (log_of role before) ≤ length (log_of role (step ∷ before))
log_grows role step before =
    elim (cases_Bool (step.role == role)) [
      | inl met ↦ rw (own_log role step before met) (omega arith)
      | inr unmet ↦ rw (foreign_log role step before unmet) (omega arith)
    ]

pub until_grown : (n role : ℕ) (step : Step) (before : History) → n ≤ length (log_of role before)
    → log_until n (log_of role (step ∷ before)) ≡ log_until n (log_of role before)
until_grown n role step before within =
    elim (cases_Bool (step.role == role)) [
      | inl met ↦ rw (own_log role step before met) (until_longer n step.act (log_of role before) within)
      | inr unmet ↦ rw (foreign_log role step before unmet) refl
    ]

-- Turns stay within the logs, and what they cut out stays the same

abbrev pub AreWithin : History → List Turn → Type 0
AreWithin past [] = Unit {0}
AreWithin past (t ∷ ts) = (t.count ≤ length (log_of t.role past)) × AreWithin past ts

within_grow : (step : Step) (before : History) (ts : List Turn) → AreWithin before ts → AreWithin (step ∷ before) ts
within_grow step before [] are = tt
within_grow step before (t ∷ ts) are =
    (omega (arith, are.0, log_grows t.role step before), within_grow step before ts are.1)

turns_within : (step : Step) (act : Act) (before : History) (ts : List Turn)
    → AreWithin before ts → AreWithin (step ∷ before) (turns_after act before ts)
turns_within step (Join r) before ts are = (log_grows r step before, within_grow step before ts are)
turns_within step (Split a) before ts are = within_grow step before ts are
turns_within step (Take a) before ts are = within_grow step before ts are
turns_within step (Give a b c) before ts are = within_grow step before ts are
turns_within step (Push a b) before ts are = within_grow step before ts are
turns_within step (Full a) before ts are = within_grow step before ts are
turns_within step (Pop a b) before ts are = within_grow step before ts are
turns_within step (Empty a) before ts are = within_grow step before ts are
turns_within step (Look a b c) before ts are = within_grow step before ts are
turns_within step (Post a b) before ts are = within_grow step before ts are

pub within : (past : History) → AreWithin past (turns_of past)
within [] = tt
within (step ∷ before) = turns_within step step.act before (turns_of before) (within before)

pub kept_within : (role : ℕ) (past : History) (ts : List Turn) → AreWithin past ts
    → joined_count role ts ≤ length (log_of role past)
kept_within role past [] are = omega arith
kept_within role past (t ∷ ts) are =
    elim (cases_Bool (t.role == role)) [
      | inl met ↦
          rw met (subst (λ (r : ℕ). t.count ≤ length (log_of r past)) (eqb-true t.role role met) are.0)
      | inr unmet ↦ rw unmet (kept_within role past ts are.1)
    ]

pub woven_grows : (step : Step) (before : History) (ts : List Turn) → AreWithin before ts
    → turn_steps (λ r. log_of r (step ∷ before)) ts ≡ turn_steps (λ r. log_of r before) ts
woven_grows step before [] are = refl
woven_grows step before (t ∷ ts) are =
    ap (λ (log : Log).
    steps_of t.role (acts_since (joined_count t.role ts) log) ++ turn_steps (λ r. log_of r (step ∷ before)) ts)
    (until_grown t.count t.role step before are.0)
    ∙ ap (λ (past : History).
    steps_of t.role (stretch (joined_count t.role ts) t.count (log_of t.role before)) ++ past)
    (woven_grows step before ts are.1)

-- The role that is split is the seated one

pub some_is : (a b : ℕ) → ◌≡◌ {A = Option ℕ} (Some a) (Some b) → a ≡ b
some_is a b e = cc

pub none_is_not : (a : ℕ) → ◌≡◌ {A = Option ℕ} None (Some a) → ⊥
none_is_not a e = cc

pub other_split : (layout : Layout) (before : History) (role r : ℕ) (act : Act) (was : Bool)
    → AllowsAct layout before role act → (role == first_role layout) ≡ false
    → split_after r act was ≡ was
other_split layout before role r (Split a) was allowed apart =
    absurd (eqb-false role (first_role layout) apart allowed.first)
other_split layout before role r (Join a) was allowed apart =
    absurd (eqb-false role (first_role layout) apart allowed.first)
other_split layout before role r (Take a) was allowed apart = refl
other_split layout before role r (Give a b c) was allowed apart = refl
other_split layout before role r (Push a b) was allowed apart = refl
other_split layout before role r (Full a) was allowed apart = refl
other_split layout before role r (Pop a b) was allowed apart = refl
other_split layout before role r (Empty a) was allowed apart = refl
other_split layout before role r (Look a b c) was allowed apart = refl
other_split layout before role r (Post a b) was allowed apart = refl

pub other_turns : (layout : Layout) (before : History) (role : ℕ) (act : Act) (ts : List Turn)
    → AllowsAct layout before role act → (role == first_role layout) ≡ false
    → turns_after act before ts ≡ ts
other_turns layout before role (Join a) ts allowed apart =
    absurd (eqb-false role (first_role layout) apart allowed.first)
other_turns layout before role (Split a) ts allowed apart = refl
other_turns layout before role (Take a) ts allowed apart = refl
other_turns layout before role (Give a b c) ts allowed apart = refl
other_turns layout before role (Push a b) ts allowed apart = refl
other_turns layout before role (Full a) ts allowed apart = refl
other_turns layout before role (Pop a b) ts allowed apart = refl
other_turns layout before role (Empty a) ts allowed apart = refl
other_turns layout before role (Look a b c) ts allowed apart = refl
other_turns layout before role (Post a b) ts allowed apart = refl

seated_step : (role : ℕ) (act : Act) (was : Bool) (seat : Option ℕ)
    → MaySeat act seat → (was ≡ true → seat ≡ Some role) → split_after role act was ≡ true
    → seated_after act seat ≡ Some role
seated_step role (Split r) was seat may earlier now =
    elim (cases_Bool (r == role)) [
      | inl met ↦ ap Some (eqb-true r role met)
      | inr unmet ↦
          absurd (none_is_not role (sym may ∙ earlier (sym (if_unmet (r == role) true was unmet) ∙ now)))
    ]
seated_step role (Join r) was seat may earlier now =
    elim (cases_Bool (r == role)) [
      | inl met ↦ absurd (both_ways (if r == role then false else was) (if_met (r == role) false was met) now)
      | inr unmet ↦
          absurd (eqb-false r role unmet
          (some_is r role (sym may ∙ earlier (sym (if_unmet (r == role) false was unmet) ∙ now))))
    ]
seated_step role (Take a) was seat may earlier now = earlier now
seated_step role (Give a b c) was seat may earlier now = earlier now
seated_step role (Push a b) was seat may earlier now = earlier now
seated_step role (Full a) was seat may earlier now = earlier now
seated_step role (Pop a b) was seat may earlier now = earlier now
seated_step role (Empty a) was seat may earlier now = earlier now
seated_step role (Look a b c) was seat may earlier now = earlier now
seated_step role (Post a b) was seat may earlier now = earlier now

split_seated : (layout : Layout) (past : History) (role : ℕ)
    → IsLawful layout past → IsOneByOne (log_of (first_role layout) past) → is_split role past ≡ true
    → seated (log_of (first_role layout) past) ≡ Some role
split_seated layout [] role lawful one now = absurd (both_ways false refl now)
split_seated layout (step ∷ before) role lawful one now =
    elim (cases_Bool (step.role == first_role layout)) [
      | inl met ↦
          let grown : log_of (first_role layout) (step ∷ before) ≡ step.act ∷ log_of (first_role layout) before =
          own_log (first_role layout) step before met in
          let both : MaySeat step.act (seated (log_of (first_role layout) before))
          × IsOneByOne (log_of (first_role layout) before)
          = subst IsOneByOne grown one in
          ap seated grown
          ∙ seated_step role step.act (is_split role before) (seated (log_of (first_role layout) before)) both.0
          (split_seated layout before role lawful.1 both.1) now
      | inr unmet ↦
          let same : log_of (first_role layout) (step ∷ before) ≡ log_of (first_role layout) before =
          foreign_log (first_role layout) step before unmet in
          ap seated same
          ∙ split_seated layout before role lawful.1 (subst IsOneByOne same one)
          (sym (other_split layout before step.role role step.act (is_split role before) lawful.0.allowed unmet) ∙ now)
    ]

-- who acts, other than the first token, is seated
pub acting_seated : (layout : Layout) (before : History) (role : ℕ)
    → IsLawful layout before → IsOneByOne (log_of (first_role layout) before)
    → is_live layout role before ≡ true → (role == first_role layout) ≡ false
    → seated (log_of (first_role layout) before) ≡ Some role
acting_seated layout before role lawful one live apart =
    elim (or_cases (role == first_role layout) (is_split role before) live) [
      | inl first ↦ absurd (both_ways (role == first_role layout) apart first)
      | inr split ↦ split_seated layout before role lawful one split
    ]

-- A role that isn't seated made no step since its latest turn

turn_kept : (role r n : ℕ) (ts : List Turn) → (r == role) ≡ false
    → joined_count role (record { role = r; count = n } ∷ ts) ≡ joined_count role ts
turn_kept role r n ts apart = if_unmet (r == role) n (joined_count role ts) apart

rest_step : (role : ℕ) (act : Act) (before : History) (ts : List Turn) (seat : Option ℕ)
    → MaySeat act seat → (seat ≢ Some role → length (log_of role before) ≡ joined_count role ts)
    → seated_after act seat ≢ Some role
    → length (log_of role before) ≡ joined_count role (turns_after act before ts)
rest_step role (Split r) before ts seat may earlier away =
    earlier (λ seat_is. none_is_not role (sym may ∙ seat_is))
rest_step role (Join r) before ts seat may earlier away =
    elim (cases_Bool (r == role)) [
      | inl met ↦
          let same : length (log_of r before) ≡ length (log_of role before) =
          ap (λ (q : ℕ). length (log_of q before)) (eqb-true r role met) in
          sym same ∙ sym (if_met (r == role) (length (log_of r before)) (joined_count role ts) met)
      | inr unmet ↦
          earlier (λ seat_is. eqb-false r role unmet (some_is r role (sym may ∙ seat_is)))
          ∙ sym (turn_kept role r (length (log_of r before)) ts unmet)
    ]
rest_step role (Take a) before ts seat may earlier away = earlier away
rest_step role (Give a b c) before ts seat may earlier away = earlier away
rest_step role (Push a b) before ts seat may earlier away = earlier away
rest_step role (Full a) before ts seat may earlier away = earlier away
rest_step role (Pop a b) before ts seat may earlier away = earlier away
rest_step role (Empty a) before ts seat may earlier away = earlier away
rest_step role (Look a b c) before ts seat may earlier away = earlier away
rest_step role (Post a b) before ts seat may earlier away = earlier away

pub rest_kept : (layout : Layout) (past : History) (role : ℕ)
    → IsLawful layout past → IsOneByOne (log_of (first_role layout) past) → (role == first_role layout) ≡ false
    → seated (log_of (first_role layout) past) ≢ Some role
    → length (log_of role past) ≡ joined_count role (turns_of past)
rest_kept layout [] role lawful one apart away = refl
rest_kept layout (step ∷ before) role lawful one apart away =
    elim (cases_Bool (step.role == first_role layout)) [
      | inl met ↦
          let grown : log_of (first_role layout) (step ∷ before) ≡ step.act ∷ log_of (first_role layout) before =
          own_log (first_role layout) step before met in
          let both : MaySeat step.act (seated (log_of (first_role layout) before))
          × IsOneByOne (log_of (first_role layout) before)
          = subst IsOneByOne grown one in
          let foreign : (step.role == role) ≡ false =
          ne_eqb step.role role
          (λ same. eqb-false role (first_role layout) apart
          (sym same ∙ eqb-true step.role (first_role layout) met)) in
          ap length (foreign_log role step before foreign)
          ∙ rest_step role step.act before (turns_of before) (seated (log_of (first_role layout) before)) both.0
          (rest_kept layout before role lawful.1 both.1 apart)
          (λ now. away (ap seated grown ∙ now))
      | inr unmet ↦
          let same : log_of (first_role layout) (step ∷ before) ≡ log_of (first_role layout) before =
          foreign_log (first_role layout) step before unmet in
          let one_before : IsOneByOne (log_of (first_role layout) before) = subst IsOneByOne same one in
          let acts : seated (log_of (first_role layout) before) ≡ Some step.role =
          acting_seated layout before step.role lawful.1 one_before lawful.0.live unmet in
          let foreign : (step.role == role) ≡ false =
          ne_eqb step.role role (λ is. away (ap seated same ∙ acts ∙ ap Some is)) in
          ap length (foreign_log role step before foreign)
          ∙ rest_kept layout before role lawful.1 one_before apart (λ now. away (ap seated same ∙ now))
          ∙ ap (joined_count role) (sym (other_turns layout before step.role step.act (turns_of before)
          lawful.0.allowed unmet))
    ]

-- The seated role is none of the first token's

pub below_apart : (a b : ℕ) → a < b → (a == b) ≡ false
below_apart a b less = ne_eqb a b (λ e. omega (arith, less, e))

away_step : (layout : Layout) (before : History) (role : ℕ) (act : Act) (seat : Option ℕ)
    → AllowsAct layout before role act
    → ((r : ℕ) → seat ≡ Some r → (r == first_role layout) ≡ false)
    → (r : ℕ) → seated_after act seat ≡ Some r
    → (r == first_role layout) ≡ false
away_step layout before role (Split a) seat allowed earlier r now =
    subst (λ (k : ℕ). (k == first_role layout) ≡ false) (some_is a r now)
    (below_apart a (first_role layout) allowed.below)
away_step layout before role (Join a) seat allowed earlier r now = absurd (none_is_not r now)
away_step layout before role (Take a) seat allowed earlier r now = earlier r now
away_step layout before role (Give a b c) seat allowed earlier r now = earlier r now
away_step layout before role (Push a b) seat allowed earlier r now = earlier r now
away_step layout before role (Full a) seat allowed earlier r now = earlier r now
away_step layout before role (Pop a b) seat allowed earlier r now = earlier r now
away_step layout before role (Empty a) seat allowed earlier r now = earlier r now
away_step layout before role (Look a b c) seat allowed earlier r now = earlier r now
away_step layout before role (Post a b) seat allowed earlier r now = earlier r now

pub seated_away : (layout : Layout) (past : History) → IsLawful layout past
    → (r : ℕ) → seated (log_of (first_role layout) past) ≡ Some r
    → (r == first_role layout) ≡ false
seated_away layout [] lawful r now = absurd (none_is_not r now)
seated_away layout (step ∷ before) lawful r now =
    elim (cases_Bool (step.role == first_role layout)) [
      | inl met ↦
          away_step layout before step.role step.act (seated (log_of (first_role layout) before)) lawful.0.allowed
          (seated_away layout before lawful.1) r (sym (ap seated (own_log (first_role layout) step before met)) ∙ now)
      | inr unmet ↦
          seated_away layout before lawful.1 r
          (sym (ap seated (foreign_log (first_role layout) step before unmet)) ∙ now)
    ]
