-- What the first token's log and numbers say of a history.
use Rattle.std.proofs.Common.{◌≡◌, ℕ, ◌<◌, false, inl, inr, List, [], ◌∷◌, ◌++◌, length, refl, sym, ◌∙◌, ap, subst, arith, Option, Some, None}
use Rattle.std.specs.Prelude.{◌==◌}
use Rattle.std.proofs.lemmas.Bool.{cases_Bool, eqb-false}
use Rattle.onvm_core.specs.declared.layout.Layout.{Layout}
use Rattle.onvm_core.specs.declared.step.Act.{Act}
use Rattle.onvm_core.specs.declared.step.Act.TheVariants.{Split, Join, Take, Give, Push, Full, Pop, Empty, Look, Post}
use Rattle.onvm_session.specs.Views.AreTurns.{NoTurn, ATurn}
use Rattle.onvm_core.proofs.Told.{own_log, foreign_log}
use Rattle.onvm_core.specs.History.{History}
use Rattle.onvm_core.specs.Lawful.{AllowsAct, IsLawful}
use Rattle.onvm_core.specs.Layouts.{first_role}
use Rattle.onvm_core.specs.Logs.{Log, log_of}
use Rattle.onvm_promises.specs.Stretches.{stretch}
use Rattle.onvm_session.proofs.Seating.{other_turns}
use Rattle.onvm_session.proofs.Weaving.{all_woven}
use Rattle.onvm_session.specs.Moments.{AreInRounds, place_of_turn}
use Rattle.onvm_session.specs.Turns.{Turn, counts_after, join_counts, turns, turns_after, turns_of, joined_count, seated_after, seated, MaySeat, IsOneByOne, role_steps, steps_of, turn_steps}
use Rattle.onvm_session.specs.Views.{FinalView, IsHistoryOf, turns_in, join_count, next_place, place_in, role_at, AreTurns, IsSerialLead}

-- The turns are read off the first token's log and numbers

other_counts : (layout : Layout) (before : History) (role : ℕ) (act : Act) (counts : List ℕ)
    → AllowsAct layout before role act → (role == first_role layout) ≡ false
    → counts_after act before counts ≡ counts
other_counts layout before role (Join a) counts allowed apart =
    absurd (eqb-false role (first_role layout) apart allowed.first)
other_counts layout before role (Split a) counts allowed apart = refl
other_counts layout before role (Take a) counts allowed apart = refl
other_counts layout before role (Give a b c) counts allowed apart = refl
other_counts layout before role (Push a b) counts allowed apart = refl
other_counts layout before role (Full a) counts allowed apart = refl
other_counts layout before role (Pop a b) counts allowed apart = refl
other_counts layout before role (Empty a) counts allowed apart = refl
other_counts layout before role (Look a b c) counts allowed apart = refl
other_counts layout before role (Post a b) counts allowed apart = refl

lead_turns : (act : Act) (before : History) (lead : Log) (ts : List Turn)
    → turns lead (join_counts before) ≡ ts
    → turns (act ∷ lead) (counts_after act before (join_counts before)) ≡ turns_after act before ts
lead_turns (Join r) before lead ts e =
    ap (λ (rest : List Turn). record { role = r; count = length (log_of r before) } ∷ rest) e
lead_turns (Split a) before lead ts e = e
lead_turns (Take a) before lead ts e = e
lead_turns (Give a b c) before lead ts e = e
lead_turns (Push a b) before lead ts e = e
lead_turns (Full a) before lead ts e = e
lead_turns (Pop a b) before lead ts e = e
lead_turns (Empty a) before lead ts e = e
lead_turns (Look a b c) before lead ts e = e
lead_turns (Post a b) before lead ts e = e

pub turns_read : (layout : Layout) (past : History) → IsLawful layout past
    → turns (log_of (first_role layout) past) (join_counts past) ≡ turns_of past
turns_read layout [] lawful = refl
turns_read layout (step ∷ before) lawful =
    elim (cases_Bool (step.role == first_role layout)) [
      | inl met ↦
          ap (λ (lead : Log). turns lead (join_counts (step ∷ before))) (own_log (first_role layout) step before met)
          ∙ lead_turns step.act before (log_of (first_role layout) before) (turns_of before)
          (turns_read layout before lawful.1)
      | inr unmet ↦
          ap (λ (lead : Log). turns lead (join_counts (step ∷ before)))
          (foreign_log (first_role layout) step before unmet)
          ∙ ap (turns (log_of (first_role layout) before))
          (other_counts layout before step.role step.act (join_counts before) lawful.0.allowed unmet)
          ∙ turns_read layout before lawful.1
          ∙ sym (other_turns layout before step.role step.act (turns_of before) lawful.0.allowed unmet)
    ]

-- A serial first token splits one role at a time

turns_one : (layout : Layout) (lead : Log) → AreTurns layout lead → IsOneByOne lead × (seated lead ≡ None)
turns_one layout lead NoTurn = (tt, refl)
turns_one layout lead (ATurn seen before are) =
    let earlier : IsOneByOne before × (seated before ≡ None) = turns_one layout before are in
    ((tt, (refl, (earlier.1, earlier.0))), refl)

pub serial_one : (layout : Layout) (lead : Log) → IsSerialLead layout lead → IsOneByOne lead × (seated lead ≡ None)
serial_one layout lead serial =
    let earlier : IsOneByOne serial.rounds × (seated serial.rounds ≡ None) =
    turns_one layout serial.rounds serial.turns in
    subst (λ (log : Log). IsOneByOne log × (seated log ≡ None)) (sym serial.closed)
    ((tt, (refl, (earlier.1, earlier.0))), refl)

-- The logs and numbers fix the order of the other roles' steps

abbrev pub AreBelow : ℕ → List Turn → Type 0
AreBelow n [] = Unit {0}
AreBelow n (t ∷ ts) = (t.role < n) × AreBelow n ts

some_is : (a b : ℕ) → ◌≡◌ {A = Option ℕ} (Some a) (Some b) → a ≡ b
some_is a b e = cc

none_is_not : (a : ℕ) → ◌≡◌ {A = Option ℕ} None (Some a) → ⊥
none_is_not a e = cc

below_step : (layout : Layout) (before : History) (role : ℕ) (act : Act) (seat : Option ℕ)
    → AllowsAct layout before role act → ((r : ℕ) → seat ≡ Some r → r < first_role layout)
    → (r : ℕ) → seated_after act seat ≡ Some r
    → r < first_role layout
below_step layout before role (Split a) seat allowed earlier r now =
    subst (λ (k : ℕ). k < first_role layout) (some_is a r now) allowed.below
below_step layout before role (Join a) seat allowed earlier r now = absurd (none_is_not r now)
below_step layout before role (Take a) seat allowed earlier r now = earlier r now
below_step layout before role (Give a b c) seat allowed earlier r now = earlier r now
below_step layout before role (Push a b) seat allowed earlier r now = earlier r now
below_step layout before role (Full a) seat allowed earlier r now = earlier r now
below_step layout before role (Pop a b) seat allowed earlier r now = earlier r now
below_step layout before role (Empty a) seat allowed earlier r now = earlier r now
below_step layout before role (Look a b c) seat allowed earlier r now = earlier r now
below_step layout before role (Post a b) seat allowed earlier r now = earlier r now

pub seated_below : (layout : Layout) (past : History) → IsLawful layout past
    → (r : ℕ) → seated (log_of (first_role layout) past) ≡ Some r
    → r < first_role layout
seated_below layout [] lawful r now = absurd (none_is_not r now)
seated_below layout (step ∷ before) lawful r now =
    elim (cases_Bool (step.role == first_role layout)) [
      | inl met ↦
          below_step layout before step.role step.act (seated (log_of (first_role layout) before)) lawful.0.allowed
          (seated_below layout before lawful.1) r (sym (ap seated (own_log (first_role layout) step before met)) ∙ now)
      | inr unmet ↦
          seated_below layout before lawful.1 r
          (sym (ap seated (foreign_log (first_role layout) step before unmet)) ∙ now)
    ]

turn_below : (n : ℕ) (act : Act) (before : History) (ts : List Turn) (seat : Option ℕ)
    → MaySeat act seat → ((r : ℕ) → seat ≡ Some r → r < n) → AreBelow n ts
    → AreBelow n (turns_after act before ts)
turn_below n (Join r) before ts seat may below are = (below r may, are)
turn_below n (Split a) before ts seat may below are = are
turn_below n (Take a) before ts seat may below are = are
turn_below n (Give a b c) before ts seat may below are = are
turn_below n (Push a b) before ts seat may below are = are
turn_below n (Full a) before ts seat may below are = are
turn_below n (Pop a b) before ts seat may below are = are
turn_below n (Empty a) before ts seat may below are = are
turn_below n (Look a b c) before ts seat may below are = are
turn_below n (Post a b) before ts seat may below are = are

pub turns_below : (layout : Layout) (past : History)
    → IsLawful layout past → IsOneByOne (log_of (first_role layout) past)
    → AreBelow (first_role layout) (turns_of past)
turns_below layout [] lawful one = tt
turns_below layout (step ∷ before) lawful one =
    elim (cases_Bool (step.role == first_role layout)) [
      | inl met ↦
          let both : MaySeat step.act (seated (log_of (first_role layout) before))
          × IsOneByOne (log_of (first_role layout) before)
          = subst IsOneByOne (own_log (first_role layout) step before met) one in
          turn_below (first_role layout) step.act before (turns_of before)
          (seated (log_of (first_role layout) before)) both.0
          (seated_below layout before lawful.1) (turns_below layout before lawful.1 both.1)
      | inr unmet ↦
          let one_before : IsOneByOne (log_of (first_role layout) before) =
          subst IsOneByOne (foreign_log (first_role layout) step before unmet) one in
          subst (AreBelow (first_role layout))
          (sym (other_turns layout before step.role step.act (turns_of before) lawful.0.allowed unmet))
          (turns_below layout before lawful.1 one_before)
    ]

woven_same : (n : ℕ) (ts : List Turn) (left right : ℕ → Log) → AreBelow n ts
    → ((role : ℕ) → role < n → left role ≡ right role)
    → turn_steps left ts ≡ turn_steps right ts
woven_same n [] left right below same = refl
woven_same n (t ∷ ts) left right below same =
    ap (λ (log : Log). steps_of t.role (stretch (joined_count t.role ts) t.count log) ++ turn_steps left ts)
    (same t.role below.0)
    ∙ ap (λ (past : History). steps_of t.role (stretch (joined_count t.role ts) t.count (right t.role)) ++ past)
    (woven_same n ts left right below.1 same)

-- of a run that splits one role at a time and ends with none split: the other roles' steps, by the final view alone
pub others_are : (layout : Layout) (final : FinalView) (past : History) → IsHistoryOf layout final past
    → IsOneByOne final.lead → seated final.lead ≡ None
    → role_steps layout past ≡ turn_steps final.logs (turns_in final)
others_are layout final past is one none =
    let one_past : IsOneByOne (log_of (first_role layout) past) = subst IsOneByOne is.lead one in
    let read : turns_in final ≡ turns_of past =
    ap (λ (lead : Log). turns lead final.counts) is.lead
    ∙ ap (turns (log_of (first_role layout) past)) is.counts
    ∙ turns_read layout past is.lawful in
    all_woven layout past is.lawful one_past (sym (ap seated is.lead) ∙ none)
    ∙ sym (woven_same (first_role layout) (turns_of past) final.logs (λ r. log_of r past)
    (turns_below layout past is.lawful one_past) is.logs)
    ∙ ap (turn_steps final.logs) (sym read)

-- so two histories of one view have the same
pub one_order : (layout : Layout) (final : FinalView) (past other : History)
    → IsHistoryOf layout final past → IsHistoryOf layout final other
    → IsOneByOne final.lead → seated final.lead ≡ None
    → role_steps layout past ≡ role_steps layout other
one_order layout final past other is was one none =
    others_are layout final past is one none ∙ sym (others_are layout final other was one none)

-- Turns as the rounds go are the serial first token's

pub rounds_read : (layout : Layout) (lead : Log) (counts : List ℕ) → AreTurns layout lead
    → length counts ≡ join_count lead
    → AreInRounds layout (turns lead counts) × (place_of_turn layout (turns lead counts) ≡ place_in layout lead)
rounds_read layout lead counts NoTurn enough = (tt, refl)
rounds_read layout lead [] (ATurn seen before are) enough = absurd (omega (arith, enough))
rounds_read layout lead (n ∷ counts) (ATurn seen before are) enough =
    let earlier : AreInRounds layout (turns before counts)
    × (place_of_turn layout (turns before counts) ≡ place_in layout before)
    = rounds_read layout before counts are (omega (arith, enough)) in
    ((ap (role_at layout) (sym earlier.1), earlier.0), ap (next_place layout) earlier.1)
