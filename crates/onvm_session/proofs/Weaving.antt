-- Where one role at a time is split, the steps of the other roles are, turn after turn, cut out of their logs.
use Rattle.std.proofs.Common.{◌≡◌, ◌≢◌, ℕ, true, false, inl, inr, List, [], ◌∷◌, ◌++◌, length, refl, sym, ◌∙◌, ap, subst, arith, Option, Some, None}
use Rattle.std.specs.Prelude.{◌==◌}
use Rattle.std.proofs.lemmas.Bool.{cases_Bool, eqb-true, eqb-false, eq-eqb, ne_eqb}
use Rattle.onvm_core.specs.declared.layout.Layout.{Layout}
use Rattle.onvm_core.specs.declared.step.Act.{Act}
use Rattle.onvm_core.specs.declared.step.Act.TheVariants.{Split, Join, Take, Give, Push, Full, Pop, Empty, Look, Post}
use Rattle.onvm_core.specs.declared.step.Step.{Step}
use Rattle.onvm_core.proofs.Lists.{if_met, if_unmet}
use Rattle.onvm_core.proofs.Told.{foreign_log, own_log}
use Rattle.onvm_core.specs.History.{History}
use Rattle.onvm_core.specs.Lawful.{AllowsAct, IsLawful}
use Rattle.onvm_core.specs.Layouts.{first_role}
use Rattle.onvm_core.specs.Logs.{Log, log_of}
use Rattle.onvm_promises.proofs.Stretches.{since_none, since_longer, until_all}
use Rattle.onvm_promises.specs.Stretches.{log_until, acts_since, stretch}
use Rattle.onvm_session.proofs.Seating.{none_is_not, woven_grows, below_apart, within, kept_within, other_turns, acting_seated, rest_kept, seated_away}
use Rattle.onvm_session.specs.Turns.{Turn, turns_after, turns_of, joined_count, seated_after, seated, MaySeat, IsOneByOne, role_steps, steps_of, turn_steps, open_steps}

-- The order of the steps

open_none : (logs : ℕ → Log) (ts : List Turn) (r : ℕ) → length (logs r) ≡ joined_count r ts
    → open_steps logs ts (Some r) ≡ []
open_none logs ts r all = ap (steps_of r) (since_none (joined_count r ts) (logs r) (omega (arith, all)))

-- the seated role's log isn't changed by a step of the first token
open_same : (layout : Layout) (step : Step) (before : History) (ts : List Turn) (seat : Option ℕ)
    → (step.role == first_role layout) ≡ true
    → ((r : ℕ) → seat ≡ Some r → (r == first_role layout) ≡ false)
    → open_steps (λ r. log_of r (step ∷ before)) ts seat ≡ open_steps (λ r. log_of r before) ts seat
open_same layout step before ts None met away = refl
open_same layout step before ts (Some r) met away =
    let foreign : (step.role == r) ≡ false =
    ne_eqb step.role r
    (λ same. eqb-false r (first_role layout) (away r refl) (sym same ∙ eqb-true step.role (first_role layout) met)) in
    ap (λ (log : Log). steps_of r (acts_since (joined_count r ts) log)) (foreign_log r step before foreign)

-- a step of the first token that neither splits nor joins
lead_plain : (layout : Layout) (step : Step) (before : History) (seat : Option ℕ)
    → (step.role == first_role layout) ≡ true
    → ((r : ℕ) → seat ≡ Some r → (r == first_role layout) ≡ false)
    → open_steps (λ r. log_of r before) (turns_of before) seat ++ turn_steps (λ r. log_of r before) (turns_of before)
    ≡ open_steps (λ r. log_of r (step ∷ before)) (turns_of before) seat
    ++ turn_steps (λ r. log_of r (step ∷ before)) (turns_of before)
lead_plain layout step before seat met away =
    ap (λ (past : History). past ++ turn_steps (λ r. log_of r before) (turns_of before))
    (sym (open_same layout step before (turns_of before) seat met away))
    ∙ ap (λ (past : History). open_steps (λ r. log_of r (step ∷ before)) (turns_of before) seat ++ past)
    (sym (woven_grows step before (turns_of before) (within before)))

-- a step of the first token
lead_step : (layout : Layout) (step : Step) (act : Act) (before : History) (seat : Option ℕ)
    → AllowsAct layout before (first_role layout) act → MaySeat act seat
    → (step.role == first_role layout) ≡ true
    → ((r : ℕ) → seat ≡ Some r → (r == first_role layout) ≡ false)
    → ((r : ℕ) → (r == first_role layout) ≡ false → seat ≢ Some r
    → length (log_of r before) ≡ joined_count r (turns_of before))
    → open_steps (λ r. log_of r before) (turns_of before) seat ++ turn_steps (λ r. log_of r before) (turns_of before)
    ≡ open_steps (λ r. log_of r (step ∷ before)) (turns_after act before (turns_of before)) (seated_after act seat)
    ++ turn_steps (λ r. log_of r (step ∷ before)) (turns_after act before (turns_of before))
lead_step layout step (Split a) before seat allowed may met away rest =
    let apart : (a == first_role layout) ≡ false = below_apart a (first_role layout) allowed.below in
    let foreign : (step.role == a) ≡ false =
    ne_eqb step.role a
    (λ same. eqb-false a (first_role layout) apart (sym same ∙ eqb-true step.role (first_role layout) met)) in
    let all : length (log_of a (step ∷ before)) ≡ joined_count a (turns_of before) =
    ap length (foreign_log a step before foreign)
    ∙ rest a apart (λ is. none_is_not a (sym may ∙ is)) in
    ap (λ (s : Option ℕ).
    open_steps (λ r. log_of r before) (turns_of before) s ++ turn_steps (λ r. log_of r before) (turns_of before)) may
    ∙ sym (woven_grows step before (turns_of before) (within before))
    ∙ ap (λ (past : History). past ++ turn_steps (λ r. log_of r (step ∷ before)) (turns_of before))
    (sym (open_none (λ r. log_of r (step ∷ before)) (turns_of before) a all))
lead_step layout step (Join a) before seat allowed may met away rest =
    let apart : (a == first_role layout) ≡ false = away a may in
    let foreign : (step.role == a) ≡ false =
    ne_eqb step.role a
    (λ same. eqb-false a (first_role layout) apart (sym same ∙ eqb-true step.role (first_role layout) met)) in
    let until : log_until (length (log_of a before)) (log_of a (step ∷ before)) ≡ log_of a before =
    ap (log_until (length (log_of a before))) (foreign_log a step before foreign)
    ∙ until_all (log_of a before) in
    ap (λ (s : Option ℕ).
    open_steps (λ r. log_of r before) (turns_of before) s ++ turn_steps (λ r. log_of r before) (turns_of before)) may
    ∙ ap (λ (log : Log).
    steps_of a (acts_since (joined_count a (turns_of before)) log) ++ turn_steps (λ r. log_of r before)
    (turns_of before))
    (sym until)
    ∙ ap (λ (past : History).
    steps_of a (stretch (joined_count a (turns_of before)) (length (log_of a before)) (log_of a (step ∷ before)))
    ++ past)
    (sym (woven_grows step before (turns_of before) (within before)))
lead_step layout step (Take a) before seat allowed may met away rest = lead_plain layout step before seat met away
lead_step layout step (Give a b c) before seat allowed may met away rest = lead_plain layout step before seat met away
lead_step layout step (Push a b) before seat allowed may met away rest = lead_plain layout step before seat met away
lead_step layout step (Full a) before seat allowed may met away rest = lead_plain layout step before seat met away
lead_step layout step (Pop a b) before seat allowed may met away rest = lead_plain layout step before seat met away
lead_step layout step (Empty a) before seat allowed may met away rest = lead_plain layout step before seat met away
lead_step layout step (Look a b c) before seat allowed may met away rest = lead_plain layout step before seat met away
lead_step layout step (Post a b) before seat allowed may met away rest = lead_plain layout step before seat met away

-- a step of a role that is split
turn_step : (layout : Layout) (step : Step) (before : History)
    → AllowsAct layout before step.role step.act → (step.role == first_role layout) ≡ false
    → step ∷ (open_steps (λ r. log_of r before) (turns_of before) (Some step.role)
    ++ turn_steps (λ r. log_of r before) (turns_of before))
    ≡ open_steps (λ r. log_of r (step ∷ before)) (turns_of (step ∷ before)) (Some step.role)
    ++ turn_steps (λ r. log_of r (step ∷ before)) (turns_of (step ∷ before))
turn_step layout step before allowed unmet =
    let same : turns_of (step ∷ before) ≡ turns_of before =
    other_turns layout before step.role step.act (turns_of before) allowed unmet in
    let mine : (step.role == step.role) ≡ true = eq-eqb step.role step.role refl in
    let longer : acts_since (joined_count step.role (turns_of before)) (log_of step.role (step ∷ before))
    ≡ step.act ∷ acts_since (joined_count step.role (turns_of before)) (log_of step.role before)
    = ap (acts_since (joined_count step.role (turns_of before))) (own_log step.role step before mine)
    ∙ since_longer (joined_count step.role (turns_of before)) step.act (log_of step.role before)
    (kept_within step.role before (turns_of before) (within before)) in
    ap (λ (past : History).
    step ∷ (open_steps (λ r. log_of r before) (turns_of before) (Some step.role) ++ past))
    (sym (woven_grows step before (turns_of before) (within before)))
    ∙ ap (λ (acts : Log). steps_of step.role acts ++ turn_steps (λ r. log_of r (step ∷ before)) (turns_of before))
    (sym longer)
    ∙ ap (λ (ts : List Turn).
    open_steps (λ r. log_of r (step ∷ before)) ts (Some step.role) ++ turn_steps (λ r. log_of r (step ∷ before)) ts)
    (sym same)

-- the steps of the other roles are their turns, and what the role that is split did since its last turn
pub woven_is : (layout : Layout) (past : History)
    → IsLawful layout past → IsOneByOne (log_of (first_role layout) past)
    → role_steps layout past
    ≡ open_steps (λ r. log_of r past) (turns_of past) (seated (log_of (first_role layout) past))
    ++ turn_steps (λ r. log_of r past) (turns_of past)
woven_is layout [] lawful one = refl
woven_is layout (step ∷ before) lawful one =
    elim (cases_Bool (step.role == first_role layout)) [
      | inl met ↦
          let grown : log_of (first_role layout) (step ∷ before) ≡ step.act ∷ log_of (first_role layout) before =
          own_log (first_role layout) step before met in
          let both : MaySeat step.act (seated (log_of (first_role layout) before))
          × IsOneByOne (log_of (first_role layout) before)
          = subst IsOneByOne grown one in
          let allowed : AllowsAct layout before (first_role layout) step.act =
          subst (λ (r : ℕ). AllowsAct layout before r step.act)
          (eqb-true step.role (first_role layout) met) lawful.0.allowed in
          if_met (step.role == first_role layout) (role_steps layout before) (step ∷ role_steps layout before) met
          ∙ woven_is layout before lawful.1 both.1
          ∙ lead_step layout step step.act before (seated (log_of (first_role layout) before)) allowed both.0 met
          (seated_away layout before lawful.1)
          (λ r apart away. rest_kept layout before r lawful.1 both.1 apart away)
          ∙ ap (λ (log : Log).
          open_steps (λ r. log_of r (step ∷ before)) (turns_of (step ∷ before)) (seated log)
          ++ turn_steps (λ r. log_of r (step ∷ before)) (turns_of (step ∷ before)))
          (sym grown)
      | inr unmet ↦
          let same : log_of (first_role layout) (step ∷ before) ≡ log_of (first_role layout) before =
          foreign_log (first_role layout) step before unmet in
          let one_before : IsOneByOne (log_of (first_role layout) before) = subst IsOneByOne same one in
          let acts : seated (log_of (first_role layout) before) ≡ Some step.role =
          acting_seated layout before step.role lawful.1 one_before lawful.0.live unmet in
          if_unmet (step.role == first_role layout) (role_steps layout before) (step ∷ role_steps layout before) unmet
          ∙ ap (λ (past : History). step ∷ past) (woven_is layout before lawful.1 one_before)
          ∙ ap (λ (s : Option ℕ).
          step ∷ (open_steps (λ r. log_of r before) (turns_of before) s
          ++ turn_steps (λ r. log_of r before) (turns_of before)))
          acts
          ∙ turn_step layout step before lawful.0.allowed unmet
          ∙ ap (λ (s : Option ℕ).
          open_steps (λ r. log_of r (step ∷ before)) (turns_of (step ∷ before)) s
          ++ turn_steps (λ r. log_of r (step ∷ before)) (turns_of (step ∷ before)))
          (sym (ap seated same ∙ acts))
    ]

-- where no role is split, they are the turns alone
pub all_woven : (layout : Layout) (past : History)
    → IsLawful layout past → IsOneByOne (log_of (first_role layout) past)
    → seated (log_of (first_role layout) past) ≡ None
    → role_steps layout past ≡ turn_steps (λ r. log_of r past) (turns_of past)
all_woven layout past lawful one none =
    woven_is layout past lawful one
    ∙ ap (λ (s : Option ℕ).
    open_steps (λ r. log_of r past) (turns_of past) s ++ turn_steps (λ r. log_of r past) (turns_of past))
    none
