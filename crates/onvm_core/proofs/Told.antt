-- Who acts, and what a history tells: what its roles' logs tell, together.
use Rattle.std.proofs.Common.{◌≡◌, ℕ, ◌+◌, ◌<◌, Bool, true, false, if◌then◌else◌, inl, inr, List, [], ◌∷◌, ◌++◌, length, refl, sym, ◌∙◌, ap, subst, arith}
use Rattle.std.specs.Prelude.{◌==◌}
use Rattle.std.proofs.lemmas.Bool.{both_ways, cases_Bool, eqb-true, ne_eqb, or_cases}
use Rattle.onvm_core.specs.declared.layout.Layout.{Layout}
use Rattle.onvm_core.specs.declared.step.Act.{Act}
use Rattle.onvm_core.specs.declared.step.Act.TheVariants.{Join, Split}
use Rattle.onvm_core.specs.declared.step.Step.{Step}
use Rattle.onvm_core.specs.Layouts.{first_role}
use Rattle.onvm_core.specs.History.{History, is_split, split_after}
use Rattle.onvm_core.specs.Lawful.{AllowsAct, IsLawful}
use Rattle.onvm_core.specs.Places.{how_many}
use Rattle.onvm_core.specs.Potential.{sum_below}
use Rattle.onvm_core.specs.Records.{gathered, gathered_of_log, records_in, records_of_act, sent_frames_in, sent_frames_of_act}
use Rattle.onvm_core.specs.Logs.{Log, log_of}
use Rattle.onvm_core.proofs.Lists.{if_met, if_unmet}
use Rattle.onvm_core.proofs.Once.{how_many-append}
use Rattle.onvm_core.proofs.Sums.{pick, sum_none, sum_pick, sum_plus, sum_same}

-- A step is in the log of its role, and in no other

pub own_log : (role : ℕ) (step : Step) (before : History) → (step.role == role) ≡ true
    → log_of role (step ∷ before) ≡ step.act ∷ log_of role before
own_log role step before met =
    if_met (step.role == role) (step.act ∷ log_of role before) (log_of role before) met

pub foreign_log : (role : ℕ) (step : Step) (before : History) → (step.role == role) ≡ false
    → log_of role (step ∷ before) ≡ log_of role before
foreign_log role step before unmet =
    if_unmet (step.role == role) (step.act ∷ log_of role before) (log_of role before) unmet

-- Who acts: no role is behind the first token's

below_step : (layout : Layout) (before : History) (role r : ℕ) (act : Act) (was : Bool)
    → AllowsAct layout before role act → (was ≡ true → r < first_role layout) → split_after r act was ≡ true
    → r < first_role layout
below_step layout before role r (Split a) was allowed earlier now =
    elim (cases_Bool (a == r)) [
      | inl met ↦ subst (λ (k : ℕ). k < first_role layout) (eqb-true a r met) allowed.below
      | inr unmet ↦ earlier (sym (if_unmet (a == r) true was unmet) ∙ now)
    ]
below_step layout before role r (Join a) was allowed earlier now =
    elim (cases_Bool (a == r)) [
      | inl met ↦ absurd (both_ways (if a == r then false else was) (if_met (a == r) false was met) now)
      | inr unmet ↦ earlier (sym (if_unmet (a == r) false was unmet) ∙ now)
    ]
below_step layout before role r act was allowed earlier now = earlier now

pub split_below : (layout : Layout) (past : History) (r : ℕ) → IsLawful layout past → is_split r past ≡ true
    → r < first_role layout
split_below layout [] r lawful now = absurd (both_ways false refl now)
split_below layout (step ∷ before) r lawful now =
    below_step layout before step.role r step.act (is_split r before) lawful.0.allowed
    (split_below layout before r lawful.1) now

pub acting_below : (layout : Layout) (step : Step) (before : History) → IsLawful layout (step ∷ before)
    → step.role < first_role layout + 1
acting_below layout step before lawful =
    elim (or_cases (step.role == first_role layout) (is_split step.role before) lawful.0.live) [
      | inl first ↦ omega (arith, eqb-true step.role (first_role layout) first)
      | inr split ↦ omega (arith, split_below layout before step.role lawful.1 split)
    ]

pub no_log_behind : (layout : Layout) (past : History) (role : ℕ) → IsLawful layout past → first_role layout < role
    → log_of role past ≡ []
no_log_behind layout [] role lawful behind = refl
no_log_behind layout (step ∷ before) role lawful behind =
    foreign_log role step before
    (ne_eqb step.role role (λ e. omega (arith, e, behind, acting_below layout step before lawful)))
    ∙ no_log_behind layout before role lawful.1 behind

-- What is told

told_by_role : {A : Type 0} (test : A → Bool) (tell : Act → List A) (step : Step) (before : History) (role : ℕ)
    → how_many test (gathered_of_log tell (log_of role (step ∷ before)))
    ≡ how_many test (gathered_of_log tell (log_of role before))
    + pick (step.role == role) (how_many test (tell step.act))
told_by_role test tell step before role =
    elim (cases_Bool (step.role == role)) [
      | inl met ↦
          ap (λ (log : Log). how_many test (gathered_of_log tell log)) (own_log role step before met)
          ∙ how_many-append test (gathered_of_log tell (log_of role before)) (tell step.act)
          ∙ ap (λ (b : Bool).
          how_many test (gathered_of_log tell (log_of role before)) + pick b (how_many test (tell step.act))) (sym met)
      | inr unmet ↦
          let none : pick (step.role == role) (how_many test (tell step.act)) ≡ 0 =
          ap (λ (b : Bool). pick b (how_many test (tell step.act))) unmet in
          ap (λ (log : Log). how_many test (gathered_of_log tell log)) (foreign_log role step before unmet)
          ∙ omega (arith, none)
    ]

-- what passes a test is told by a history as often as by all its roles' logs together
pub gathered_is : {A : Type 0} (test : A → Bool) (tell : Act → List A) (layout : Layout) (past : History)
    → IsLawful layout past
    → how_many test (gathered tell past)
    ≡ sum_below (λ role. how_many test (gathered_of_log tell (log_of role past))) (first_role layout + 1)
gathered_is test tell layout [] lawful = sym (sum_none (λ role. 0) (first_role layout + 1) (λ role less. refl))
gathered_is test tell layout (step ∷ before) lawful =
    how_many-append test (gathered tell before) (tell step.act)
    ∙ omega (
      arith,
      gathered_is test tell layout before lawful.1,
      sum_same (λ role. how_many test (gathered_of_log tell (log_of role (step ∷ before))))
          (λ role. how_many test (gathered_of_log tell (log_of role before))
          + pick (step.role == role) (how_many test (tell step.act)))
          (first_role layout + 1)
          (λ role less. told_by_role test tell step before role),
      sum_plus (λ role. how_many test (gathered_of_log tell (log_of role before)))
          (λ role. pick (step.role == role) (how_many test (tell step.act))) (first_role layout + 1),
      sum_pick (λ role. how_many test (tell step.act)) step.role (first_role layout + 1)
          (acting_below layout step before lawful),
    )

pub records_gathered : (past : History) → records_in past ≡ gathered records_of_act past
records_gathered [] = refl
records_gathered (step ∷ before) = ap (λ rs. rs ++ records_of_act step.act) (records_gathered before)

pub sent_gathered : (past : History) → sent_frames_in past ≡ gathered sent_frames_of_act past
sent_gathered [] = refl
sent_gathered (step ∷ before) = ap (λ fs. fs ++ sent_frames_of_act step.act) (sent_gathered before)

-- How much is told

how_many_all : {A : Type 0} (xs : List A) → how_many (λ x. true) xs ≡ length xs
how_many_all [] = refl
how_many_all (x ∷ xs) = omega (arith, how_many_all xs)

pub gathered_length : {A : Type 0} (tell : Act → List A) (layout : Layout) (past : History) → IsLawful layout past
    → length (gathered tell past)
    ≡ sum_below (λ role. length (gathered_of_log tell (log_of role past))) (first_role layout + 1)
gathered_length tell layout past lawful =
    sym (how_many_all (gathered tell past))
    ∙ gathered_is (λ x. true) tell layout past lawful
    ∙ sum_same (λ role. how_many (λ x. true) (gathered_of_log tell (log_of role past)))
    (λ role. length (gathered_of_log tell (log_of role past))) (first_role layout + 1)
    (λ role less. how_many_all (gathered_of_log tell (log_of role past)))

-- a history has as many records as all its roles' logs together
pub records_length : (layout : Layout) (past : History) → IsLawful layout past
    → length (records_in past)
    ≡ sum_below (λ role. length (gathered_of_log records_of_act (log_of role past))) (first_role layout + 1)
records_length layout past lawful =
    ap length (records_gathered past) ∙ gathered_length records_of_act layout past lawful
