-- A whole turn, off the end of a history behind which no role is split.
use Rattle.std.proofs.Common.{◌≡◌, ℕ, zero, suc, ◌+◌, ◌≤◌, Bool, true, false, if◌then◌else◌, inl, inr, List, [], ◌∷◌, ◌++◌, length, refl, sym, ◌∙◌, ap, subst, arith, append_assoc}
use Rattle.std.specs.Prelude.{◌==◌}
use Rattle.std.proofs.lemmas.Bool.{cases_Bool, or_cases, eqb-true, eqb-false, eq-eqb, ne_eqb, both_ways}
use Rattle.onvm_core.specs.declared.layout.Layout.{Layout}
use Rattle.onvm_core.specs.declared.step.Act.{Act}
use Rattle.onvm_core.specs.declared.step.Act.TheVariants.{Split, Join, Take, Give, Push, Full, Pop, Empty, Look, Post}
use Rattle.onvm_core.specs.declared.step.Step.{Step}
use Rattle.onvm_session.specs.Views.AreTurns.{NoTurn, ATurn}
use Rattle.onvm_session.specs.Views.ArePhases.{NoPhase, APhase}
use Rattle.onvm_core.proofs.Lists.{if_met, if_unmet}
use Rattle.onvm_core.proofs.Told.{own_log, foreign_log}
use Rattle.onvm_core.specs.History.{History, split_after, is_split}
use Rattle.onvm_core.specs.Lawful.{IsLawful}
use Rattle.onvm_core.specs.Layouts.{first_role}
use Rattle.onvm_core.specs.Logs.{Log, log_of}
use Rattle.onvm_session.proofs.Seating.{other_split, other_turns}
use Rattle.onvm_session.specs.Turns.{Turn, turns_after, turns_of, joined_count, steps_of}
use Rattle.onvm_session.specs.Views.{AreTurns, ArePhases, closing_look, turn_of, place_in, role_at, splits, joins}

-- Which roles are split, by the first token's log

abbrev pub split_in : ℕ → Log → Bool
split_in role [] = false
split_in role (act ∷ before) = split_after role act (split_in role before)

pub split_is : (layout : Layout) (past : History) (role : ℕ) → IsLawful layout past
    → is_split role past ≡ split_in role (log_of (first_role layout) past)
split_is layout [] role lawful = refl
split_is layout (step ∷ before) role lawful =
    elim (cases_Bool (step.role == first_role layout)) [
      | inl met ↦
          ap (split_after role step.act) (split_is layout before role lawful.1)
          ∙ sym (ap (split_in role) (own_log (first_role layout) step before met))
      | inr unmet ↦
          other_split layout before step.role role step.act (is_split role before) lawful.0.allowed unmet
          ∙ split_is layout before role lawful.1
          ∙ sym (ap (split_in role) (foreign_log (first_role layout) step before unmet))
    ]

-- no role is split
abbrev pub NoneSplit : Log → Type 0
NoneSplit lead = (role : ℕ) → split_in role lead ≡ false

-- a role that was split and joined again
split_joined : (r role : ℕ) (was : Bool) → was ≡ false
    → (if r == role then false else (if r == role then true else was)) ≡ false
split_joined r role was none =
    elim (cases_Bool (r == role)) [
      | inl met ↦ if_met (r == role) false (if r == role then true else was) met
      | inr unmet ↦
          if_unmet (r == role) false (if r == role then true else was) unmet
          ∙ if_unmet (r == role) true was unmet
          ∙ none
    ]

pub turns_none : (layout : Layout) (lead : Log) → AreTurns layout lead → NoneSplit lead
turns_none layout lead NoTurn role = refl
turns_none layout lead (ATurn seen before are) role =
    split_joined (role_at layout (place_in layout before)) role (split_in role before)
    (turns_none layout before are role)

joins_off : (n role : ℕ) (log : Log) → (n ≤ role → split_in role log ≡ false) → split_in role (joins n ++ log) ≡ false
joins_off zero role log off = off (omega arith)
joins_off (suc n) role log off =
    elim (cases_Bool (n == role)) [
      | inl met ↦ if_met (n == role) false (split_in role (joins n ++ log)) met
      | inr unmet ↦
          if_unmet (n == role) false (split_in role (joins n ++ log)) unmet
          ∙ joins_off n role log (λ from. off (omega (arith, from, eqb-false n role unmet)))
    ]

splits_off : (n from role : ℕ) (log : Log) → from + n ≤ role → split_in role log ≡ false
    → split_in role (splits n from ++ log) ≡ false
splits_off zero from role log behind off = off
splits_off (suc n) from role log behind off =
    if_unmet (from == role) true (split_in role (splits n (from + 1) ++ log))
    (ne_eqb from role (λ e. omega (arith, e, behind)))
    ∙ splits_off n (from + 1) role log (omega (arith, behind)) off

pub phases_none : (layout : Layout) (lead : Log) → ArePhases layout lead → NoneSplit lead
phases_none layout lead NoPhase role = refl
phases_none layout lead (APhase seen before are) role =
    ap (split_in role) (append_assoc (joins (first_role layout)) (splits (first_role layout) 0) before)
    ∙ joins_off (first_role layout) role (splits (first_role layout) 0 ++ before)
    (λ behind. splits_off (first_role layout) 0 role before (omega (arith, behind))
    (phases_none layout before are role))

-- who acts, other than the first token, is split
acting_split : (layout : Layout) (step : Step) (before : History) → IsLawful layout (step ∷ before)
    → (step.role == first_role layout) ≡ false
    → split_in step.role (log_of (first_role layout) before) ≡ true
acting_split layout step before lawful apart =
    elim (or_cases (step.role == first_role layout) (is_split step.role before) lawful.0.live) [
      | inl first ↦ absurd (both_ways (step.role == first_role layout) apart first)
      | inr split ↦ sym (split_is layout before step.role lawful.1) ∙ split
    ]

-- The steps of a turn, off the end of a history

cons_same : (a b : Act) (xs ys : Log) → a ∷ xs ≡ b ∷ ys → (a ≡ b) × (xs ≡ ys)
cons_same a b xs ys e = (cc, cc)

cons_none : (a : Act) (xs : Log) → ◌≡◌ {A = Log} [] (a ∷ xs) → ⊥
cons_none a xs e = cc

-- where no role is split, the newest step is the first token's
pub lead_peeled : (layout : Layout) (past : History) (act : Act) (rest : Log) → IsLawful layout past
    → log_of (first_role layout) past ≡ act ∷ rest
    → NoneSplit (act ∷ rest)
    → (step : Step) × (before : History) × (past ≡ step ∷ before) × (step.role ≡ first_role layout)
    × (step.act ≡ act) × (log_of (first_role layout) before ≡ rest)
lead_peeled layout [] act rest lawful lead none = absurd (cons_none act rest lead)
lead_peeled layout (step ∷ before) act rest lawful lead none =
    elim (cases_Bool (step.role == first_role layout)) [
      | inl met ↦
          let parts = cons_same step.act act (log_of (first_role layout) before) rest
          (sym (own_log (first_role layout) step before met) ∙ lead) in
          (step, before, refl, eqb-true step.role (first_role layout) met, parts.0, parts.1)
      | inr unmet ↦
          let same : log_of (first_role layout) before ≡ act ∷ rest =
          sym (foreign_log (first_role layout) step before unmet) ∙ lead in
          absurd
          (both_ways (split_in step.role (log_of (first_role layout) before))
          (ap (split_in step.role) same ∙ none step.role)
          (acting_split layout step before lawful unmet))
    ]

-- of a role that alone is split: what it did since its split
pub record Peeled (layout : Layout) (role : ℕ) (rest : Log) (past : History) : Type 0 where
  pub made : Log
  pub split : Step
  pub before : History
  pub parts : past ≡ steps_of role made ++ split ∷ before
  pub by_first : (split.role == role) ≡ false
  pub splits : split.act ≡ Split role
  pub lead : log_of (first_role layout) before ≡ rest

only_split : (role r : ℕ) (rest : Log) → NoneSplit rest → split_in r (Split role ∷ rest) ≡ true → role ≡ r
only_split role r rest none now =
    elim (cases_Bool (role == r)) [
      | inl met ↦ eqb-true role r met
      | inr unmet ↦
          absurd (both_ways (split_in r rest) (none r) (sym (if_unmet (role == r) true (split_in r rest) unmet) ∙ now))
    ]

pub turn_peeled : (layout : Layout) (past : History) (role : ℕ) (rest : Log) → IsLawful layout past
    → log_of (first_role layout) past ≡ Split role ∷ rest → NoneSplit rest → (role == first_role layout) ≡ false
    → Peeled layout role rest past
turn_peeled layout [] role rest lawful lead none apart = absurd (cons_none (Split role) rest lead)
turn_peeled layout (step ∷ before) role rest lawful lead none apart =
    elim (cases_Bool (step.role == first_role layout)) [
      | inl met ↦
          let parts = cons_same step.act (Split role) (log_of (first_role layout) before) rest
          (sym (own_log (first_role layout) step before met) ∙ lead) in
          record {
            made = [];
            split = step;
            before = before;
            parts = refl;
            by_first = ne_eqb step.role role
                (λ e. eqb-false role (first_role layout) apart
                (sym e ∙ eqb-true step.role (first_role layout) met));
            splits = parts.0;
            lead = parts.1;
          }
      | inr unmet ↦
          let same : log_of (first_role layout) before ≡ Split role ∷ rest =
          sym (foreign_log (first_role layout) step before unmet) ∙ lead in
          let earlier : Peeled layout role rest before =
          turn_peeled layout before role rest lawful.1 same none apart in
          let mine : role ≡ step.role =
          only_split role step.role rest none
          (sym (ap (split_in step.role) same) ∙ acting_split layout step before lawful unmet) in
          record {
            made = step.act ∷ earlier.made;
            split = earlier.split;
            before = earlier.before;
            parts =
                ap (λ (past : History). step ∷ past) earlier.parts
                ∙ ap (λ (r : ℕ).
                record { role = r; act = step.act } ∷ (steps_of role earlier.made ++ earlier.split ∷ earlier.before))
                (sym mine);
            by_first = earlier.by_first;
            splits = earlier.splits;
            lead = earlier.lead;
          }
    ]

-- A role that isn't split made no step since its latest turn

rested_step : (role : ℕ) (act : Act) (before : History) (ts : List Turn) (was : Bool)
    → (was ≡ false → length (log_of role before) ≡ joined_count role ts) → split_after role act was ≡ false
    → length (log_of role before) ≡ joined_count role (turns_after act before ts)
rested_step role (Split r) before ts was earlier now =
    elim (cases_Bool (r == role)) [
      | inl met ↦ absurd (both_ways (if r == role then true else was) now (if_met (r == role) true was met))
      | inr unmet ↦ earlier (sym (if_unmet (r == role) true was unmet) ∙ now)
    ]
rested_step role (Join r) before ts was earlier now =
    elim (cases_Bool (r == role)) [
      | inl met ↦
          ap (λ (q : ℕ). length (log_of q before)) (sym (eqb-true r role met))
          ∙ sym (if_met (r == role) (length (log_of r before)) (joined_count role ts) met)
      | inr unmet ↦
          earlier (sym (if_unmet (r == role) false was unmet) ∙ now)
          ∙ sym (if_unmet (r == role) (length (log_of r before)) (joined_count role ts) unmet)
    ]
rested_step role (Take a) before ts was earlier now = earlier now
rested_step role (Give a b c) before ts was earlier now = earlier now
rested_step role (Push a b) before ts was earlier now = earlier now
rested_step role (Full a) before ts was earlier now = earlier now
rested_step role (Pop a b) before ts was earlier now = earlier now
rested_step role (Empty a) before ts was earlier now = earlier now
rested_step role (Look a b c) before ts was earlier now = earlier now
rested_step role (Post a b) before ts was earlier now = earlier now

pub rested : (layout : Layout) (past : History) (role : ℕ)
    → IsLawful layout past → (role == first_role layout) ≡ false → is_split role past ≡ false
    → length (log_of role past) ≡ joined_count role (turns_of past)
rested layout [] role lawful apart now = refl
rested layout (step ∷ before) role lawful apart now =
    elim (cases_Bool (step.role == first_role layout)) [
      | inl met ↦
          let foreign : (step.role == role) ≡ false =
          ne_eqb step.role role
          (λ same. eqb-false role (first_role layout) apart
          (sym same ∙ eqb-true step.role (first_role layout) met)) in
          ap length (foreign_log role step before foreign)
          ∙ rested_step role step.act before (turns_of before) (is_split role before)
          (rested layout before role lawful.1 apart) now
      | inr unmet ↦
          let was : is_split role before ≡ false =
          sym (other_split layout before step.role role step.act (is_split role before) lawful.0.allowed unmet)
          ∙ now in
          let foreign : (step.role == role) ≡ false =
          ne_eqb step.role role
          (λ same.
          both_ways (is_split role before) was
          (subst (λ (r : ℕ). is_split r before ≡ true) same
          (elim (or_cases (step.role == first_role layout) (is_split step.role before) lawful.0.live) [
            | inl first ↦ absurd (both_ways (step.role == first_role layout) unmet first)
            | inr split ↦ split
          ]))) in
          ap length (foreign_log role step before foreign)
          ∙ rested layout before role lawful.1 apart was
          ∙ ap (joined_count role)
          (sym (other_turns layout before step.role step.act (turns_of before) lawful.0.allowed unmet))
    ]

-- A whole turn, off the end of a history

pub record TurnOff (layout : Layout) (role : ℕ) (rest : Log) (past : History) : Type 0 where
  pub look : Step
  pub join : Step
  pub made : Log
  pub split : Step
  pub before : History
  pub parts : past ≡ look ∷ join ∷ (steps_of role made ++ split ∷ before)
  pub lead : log_of (first_role layout) before ≡ rest
  pub looks : (seen : ℕ) × (look.act ≡ closing_look seen)
  pub joins : join.act ≡ Join role
  pub splits : split.act ≡ Split role
  pub log : log_of role past ≡ made ++ log_of role before
  pub kept : length (log_of role before) ≡ joined_count role (turns_of before)
  pub turns : turns_of past ≡ record { role = role; count = length (log_of role past) } ∷ turns_of before

log_of_made : (role : ℕ) (made : Log) (split : Step) (before : History) → (split.role == role) ≡ false
    → log_of role (steps_of role made ++ split ∷ before) ≡ made ++ log_of role before
log_of_made role [] split before apart = foreign_log role split before apart
log_of_made role (act ∷ made) split before apart =
    own_log role (record { role = role; act = act }) (steps_of role made ++ split ∷ before) (eq-eqb role role refl)
    ∙ ap (λ (acts : Log). act ∷ acts) (log_of_made role made split before apart)

turns_made : (layout : Layout) (role : ℕ) (made : Log) (before : History)
    → IsLawful layout (steps_of role made ++ before) → (role == first_role layout) ≡ false
    → turns_of (steps_of role made ++ before) ≡ turns_of before
turns_made layout role [] before lawful apart = refl
turns_made layout role (act ∷ made) before lawful apart =
    other_turns layout (steps_of role made ++ before) role act (turns_of (steps_of role made ++ before))
    lawful.0.allowed apart
    ∙ turns_made layout role made before lawful.1 apart

pub lawful_made : (layout : Layout) (role : ℕ) (made : Log) (before : History)
    → IsLawful layout (steps_of role made ++ before)
    → IsLawful layout before
lawful_made layout role [] before lawful = lawful
lawful_made layout role (act ∷ made) before lawful = lawful_made layout role made before lawful.1

pub turn_off : (layout : Layout) (past : History) (role seen : ℕ) (rest : Log) → IsLawful layout past
    → log_of (first_role layout) past ≡ turn_of role seen ++ rest
    → NoneSplit rest → (role == first_role layout) ≡ false
    → TurnOff layout role rest past
turn_off layout past role seen rest lawful lead none apart =
    let off : NoneSplit (closing_look seen ∷ Join role ∷ Split role ∷ rest) =
    λ r. split_joined role r (split_in r rest) (none r) in
    let first = lead_peeled layout past (closing_look seen) (Join role ∷ Split role ∷ rest) lawful lead off in
    let look : Step = first.0 in
    let past_1 : History = first.1 in
    let lawful_0 : IsLawful layout (look ∷ past_1) = subst (IsLawful layout) first.2 lawful in
    let second = lead_peeled layout past_1 (Join role) (Split role ∷ rest) lawful_0.1 first.5 off in
    let join : Step = second.0 in
    let past_2 : History = second.1 in
    let lawful_1 : IsLawful layout (join ∷ past_2) = subst (IsLawful layout) second.2 lawful_0.1 in
    let third : Peeled layout role rest past_2 =
    turn_peeled layout past_2 role rest lawful_1.1 second.5 none apart in
    let split : Step = third.split in
    let before : History = third.before in
    let made : Log = third.made in
    let lawful_2 : IsLawful layout (steps_of role made ++ split ∷ before) =
    subst (IsLawful layout) third.parts lawful_1.1 in
    let lawful_3 : IsLawful layout (split ∷ before) = lawful_made layout role made (split ∷ before) lawful_2 in
    let look_away : (look.role == role) ≡ false =
    ne_eqb look.role role (λ e. eqb-false role (first_role layout) apart (sym e ∙ first.3)) in
    let join_away : (join.role == role) ≡ false =
    ne_eqb join.role role (λ e. eqb-false role (first_role layout) apart (sym e ∙ second.3)) in
    let log_2 : log_of role past_2 ≡ made ++ log_of role before =
    ap (log_of role) third.parts ∙ log_of_made role made split before third.by_first in
    let log_1 : log_of role past_1 ≡ log_of role past_2 =
    ap (log_of role) second.2 ∙ foreign_log role join past_2 join_away in
    let log_0 : log_of role past ≡ log_of role past_1 =
    ap (log_of role) first.2 ∙ foreign_log role look past_1 look_away in
    let turns_2 : turns_of past_2 ≡ turns_of before =
    ap turns_of third.parts
    ∙ turns_made layout role made (split ∷ before) lawful_2 apart
    ∙ ap (λ (act : Act). turns_after act before (turns_of before)) third.splits in
    let turns_1 : turns_of past_1 ≡ record { role = role; count = length (log_of role past_2) } ∷ turns_of past_2 =
    ap turns_of second.2 ∙ ap (λ (act : Act). turns_after act past_2 (turns_of past_2)) second.4 in
    record {
      look = look;
      join = join;
      made = made;
      split = split;
      before = before;
      parts =
          first.2
          ∙ ap (λ (steps : History). look ∷ steps) (second.2 ∙ ap (λ (steps : History). join ∷ steps) third.parts);
      lead = third.lead;
      looks = (seen, first.4);
      joins = second.4;
      splits = third.splits;
      log = log_0 ∙ log_1 ∙ log_2;
      kept =
          rested layout before role lawful_3.1 apart
          (split_is layout before role lawful_3.1 ∙ ap (split_in role) third.lead ∙ none role);
      turns =
          ap turns_of first.2
          ∙ ap (λ (act : Act). turns_after act past_1 (turns_of past_1)) first.4
          ∙ turns_1
          ∙ ap (λ (n : ℕ). record { role = role; count = n } ∷ turns_of past_2)
          (ap length (sym (log_0 ∙ log_1)))
          ∙ ap (λ (ts : List Turn). record { role = role; count = length (log_of role past) } ∷ ts) turns_2;
    }
