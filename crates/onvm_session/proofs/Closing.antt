-- The last turn is the tick role's alone, and it takes all samples that were mailed.
use Rattle.std.proofs.Common.{◌≡◌, ◌≢◌, ℕ, ◌+◌, ◌<◌, ◌≤◌, true, false, inl, inr, List, [], ◌∷◌, ◌++◌, length, refl, sym, ◌∙◌, ap, subst, arith}
use Rattle.std.specs.Prelude.{◌==◌}
use Rattle.std.proofs.lemmas.Bool.{cases_Bool, cases_order, ne_eqb, both_ways}
use Rattle.std.proofs.lemmas.List.{append-nil}
use Rattle.onvm_base.specs.declared.ids.FnId.{FnId}
use Rattle.onvm_base.specs.declared.ids.RingId.{RingId}
use Rattle.onvm_base.specs.declared.ids.RingId.TheVariants.{Mail}
use Rattle.onvm_core.specs.declared.layout.Layout.{Layout}
use Rattle.onvm_core.specs.declared.step.Act.{Act}
use Rattle.onvm_core.specs.declared.step.Act.TheVariants.{Split, Join, Take, Give, Push, Full, Pop, Empty, Look, Post}
use Rattle.onvm_core.specs.declared.step.Item.{Item}
use Rattle.onvm_core.specs.declared.step.Step.{Step}
use Rattle.onvm_base.specs.declared.limits.TheConstants.{MAIL_RING}
use Rattle.onvm_core.proofs.Contents.{content_moves, content_bounded, same_ring_is}
use Rattle.onvm_core.proofs.Lists.{if_met, if_unmet}
use Rattle.onvm_core.specs.History.{History, pushes, pops, content_of}
use Rattle.onvm_core.specs.Lawful.{AllowsAct, IsLawful}
use Rattle.onvm_core.specs.Layouts.{IsLayout, first_role, tick_role, core_role, producer, ring_size, same_ring}
use Rattle.onvm_core.specs.Logs.{Log, log_of}
use Rattle.onvm_core.specs.Places.{how_many, one_if}
use Rattle.onvm_promises.proofs.Stretches.{stretch_added}
use Rattle.onvm_promises.specs.Passes.{IsDrained, is_pop_of, ran_dry, dry_after}
use Rattle.onvm_promises.specs.Stretches.{stretch}
use Rattle.onvm_session.proofs.Peeling.{NoneSplit, TurnOff, lawful_made, turn_off}
use Rattle.onvm_session.specs.Turns.{Turn, turns_of, joined_count, steps_of}
use Rattle.onvm_session.specs.Views.{turn_of}

-- What the tick role leaves of a mail ring

pub record Left (ring : RingId) (first : ℕ) (made : Log) (past : History) : Type 0 where
  pub sum : length (content_of ring past) + how_many (is_pop_of ring) made ≡ first
  pub dry : ran_dry ring made ≡ true → content_of ring past ≡ []

nil_left : (xs ys : List Item) → xs ++ ys ≡ [] → ys ≡ []
nil_left [] ys e = e
nil_left (x ∷ xs) ys e = absurd (let off : x ∷ (xs ++ ys) ≡ [] = e in cc)

left_plain : (ring : RingId) (first n : ℕ) (made : Log) (act : Act) (before past : History)
    → Left ring first made before → content_of ring past ≡ content_of ring before
    → (is_pop_of ring act ≡ false) → (dry_after ring act (ran_dry ring made) ≡ ran_dry ring made)
    → Left ring first (act ∷ made) past
left_plain ring first n made act before past left same none dry =
    let off : one_if (is_pop_of ring act) ≡ 0 = ap one_if none in
    record {
      sum = omega (arith, left.sum, ap length same, off);
      dry = λ now. same ∙ left.dry (sym dry ∙ now);
    }

left_step : (layout : Layout) (ring : RingId) (first role : ℕ) (made : Log) (act : Act) (before past : History)
    → AllowsAct layout before role act → pops ring act ++ content_of ring past ≡ content_of ring before
    → Left ring first made before
    → Left ring first (act ∷ made) past
left_step layout ring first role made (Pop r item) before past allowed moves left =
    elim (cases_Bool (same_ring r ring)) [
      | inl met ↦
          let moved : item ∷ content_of ring past ≡ content_of ring before = rw met at moves in
          let one : one_if (same_ring r ring) ≡ 1 = ap one_if met in
          record {
            sum = omega (arith, left.sum, ap length moved, one);
            dry = λ now.
                absurd (both_ways (dry_after ring (Pop r item) (ran_dry ring made))
                (if_met (same_ring r ring) false (ran_dry ring made) met) now);
          }
      | inr unmet ↦
          left_plain ring first 0 made (Pop r item) before past left (rw unmet at moves) unmet
          (if_unmet (same_ring r ring) false (ran_dry ring made) unmet)
    ]
left_step layout ring first role made (Empty r) before past allowed moves left =
    elim (cases_Bool (same_ring r ring)) [
      | inl met ↦
          let none : content_of ring before ≡ [] =
          ap (λ (q : RingId). content_of q before) (sym (same_ring_is r ring met)) ∙ allowed.empty in
          record { sum = omega (arith, left.sum, ap length moves); dry = λ now. moves ∙ none }
      | inr unmet ↦
          left_plain ring first 0 made (Empty r) before past left moves refl
          (if_unmet (same_ring r ring) true (ran_dry ring made) unmet)
    ]
left_step layout ring first role made (Split a) before past allowed moves left =
    left_plain ring first 0 made (Split a) before past left moves refl refl
left_step layout ring first role made (Join a) before past allowed moves left =
    left_plain ring first 0 made (Join a) before past left moves refl refl
left_step layout ring first role made (Take a) before past allowed moves left =
    left_plain ring first 0 made (Take a) before past left moves refl refl
left_step layout ring first role made (Give a b c) before past allowed moves left =
    left_plain ring first 0 made (Give a b c) before past left moves refl refl
left_step layout ring first role made (Push a b) before past allowed moves left =
    left_plain ring first 0 made (Push a b) before past left moves refl refl
left_step layout ring first role made (Full a) before past allowed moves left =
    left_plain ring first 0 made (Full a) before past left moves refl refl
left_step layout ring first role made (Look a b c) before past allowed moves left =
    left_plain ring first 0 made (Look a b c) before past left moves refl refl
left_step layout ring first role made (Post a b) before past allowed moves left =
    left_plain ring first 0 made (Post a b) before past left moves refl refl

-- who doesn't push on a ring adds nothing to it
no_own_push : (layout : Layout) (before : History) (role : ℕ) (act : Act) (ring : RingId)
    → AllowsAct layout before role act → role ≢ producer layout ring
    → pushes ring act ≡ []
no_own_push layout before role (Push r item) ring allowed apart =
    elim (cases_Bool (same_ring r ring)) [
      | inl met ↦ absurd (apart (allowed.own_end ∙ ap (producer layout) (same_ring_is r ring met)))
      | inr unmet ↦ rw unmet refl
    ]
no_own_push layout before role (Split a) ring allowed apart = refl
no_own_push layout before role (Join a) ring allowed apart = refl
no_own_push layout before role (Take a) ring allowed apart = refl
no_own_push layout before role (Give a b c) ring allowed apart = refl
no_own_push layout before role (Pop a b) ring allowed apart = refl
no_own_push layout before role (Full a) ring allowed apart = refl
no_own_push layout before role (Empty a) ring allowed apart = refl
no_own_push layout before role (Look a b c) ring allowed apart = refl
no_own_push layout before role (Post a b) ring allowed apart = refl

pub left_made : (layout : Layout) (ring : RingId) (role : ℕ) (made : Log) (before : History)
    → IsLawful layout (steps_of role made ++ before) → role ≢ producer layout ring
    → Left ring (length (content_of ring before)) made (steps_of role made ++ before)
left_made layout ring role [] before lawful apart =
    record { sum = omega arith; dry = λ now. absurd (both_ways false refl now) }
left_made layout ring role (act ∷ made) before lawful apart =
    let step : Step = record { role = role; act = act } in
    let moves : pops ring act ++ content_of ring (step ∷ (steps_of role made ++ before))
    ≡ content_of ring (steps_of role made ++ before)
    = content_moves layout ring step (steps_of role made ++ before) lawful
    ∙ ap (λ (items : List Item). content_of ring (steps_of role made ++ before) ++ items)
    (no_own_push layout (steps_of role made ++ before) role act ring lawful.0.allowed apart)
    ∙ append-nil (content_of ring (steps_of role made ++ before)) in
    left_step layout ring (length (content_of ring before)) role made act (steps_of role made ++ before)
    (steps_of role (act ∷ made) ++ before) lawful.0.allowed moves
    (left_made layout ring role made before lawful.1 apart)

none_long : (items : List Item) → length items ≡ 0 → items ≡ []
none_long [] e = refl
none_long (x ∷ xs) e = absurd (omega (arith, e))

-- a role that drains a ring on which it doesn't push leaves nothing in it
pub drained : (layout : Layout) (ring : RingId) (role most : ℕ) (made : Log) (before : History)
    → IsLawful layout (steps_of role made ++ before) → IsLawful layout before
    → role ≢ producer layout ring → ring_size layout ring ≤ most → IsDrained ring most made
    → content_of ring (steps_of role made ++ before) ≡ []
drained layout ring role most made before lawful earlier apart size is =
    let left : Left ring (length (content_of ring before)) made (steps_of role made ++ before) =
    left_made layout ring role made before lawful apart in
    elim (cases_order (how_many (is_pop_of ring) made) most) [
      | inl all ↦
          none_long (content_of ring (steps_of role made ++ before))
          (omega (arith, left.sum, all, size, content_bounded layout before earlier ring))
      | inr (inl fewer) ↦ left.dry (is.fewer fewer)
      | inr (inr more) ↦ absurd (omega (arith, more, is.bounded))
    ]

-- the act of the first token's at a history's end neither pushes nor pops
pub content_lead : (layout : Layout) (ring : RingId) (step : Step) (before : History) → IsLawful layout (step ∷ before)
    → pushes ring step.act ≡ [] → pops ring step.act ≡ []
    → content_of ring (step ∷ before) ≡ content_of ring before
content_lead layout ring step before lawful no_push no_pop =
    ap (λ (items : List Item). items ++ content_of ring (step ∷ before)) (sym no_pop)
    ∙ content_moves layout ring step before lawful
    ∙ ap (λ (items : List Item). content_of ring before ++ items) no_push
    ∙ append-nil (content_of ring before)

pub core_away : (layout : Layout) (f : ℕ) → IsLayout layout → f < layout.functions
    → tick_role layout ≢ core_role layout f
core_away layout f ranges known e =
    omega (arith, e, ranges.core_of f 0 (omega (arith, ranges.places, ranges.functions.1, known)))

-- a tick pass that closes the run leaves no sample in a mail ring
pub all_taken : (layout : Layout) (past : History) (seen : ℕ) (rest : Log) (f : FnId)
    → IsLayout layout → f.0 < layout.functions → IsLawful layout past
    → log_of (first_role layout) past ≡ turn_of (tick_role layout) seen ++ rest → NoneSplit rest
    → ((t : Turn) (ts : List Turn) → turns_of past ≡ t ∷ ts
    → IsDrained (Mail f) MAIL_RING (stretch (joined_count t.role ts) t.count (log_of t.role past)))
    → content_of (Mail f) past ≡ []
all_taken layout past seen rest f ranges known lawful lead none drains =
    let tick : ℕ = tick_role layout in
    let apart : (tick == first_role layout) ≡ false =
    ne_eqb tick (first_role layout) (λ e. omega (arith, e)) in
    let off : TurnOff layout tick rest past = turn_off layout past tick seen rest lawful lead none apart in
    let whole : IsLawful layout (off.look ∷ off.join ∷ (steps_of tick off.made ++ off.split ∷ off.before)) =
    subst (IsLawful layout) off.parts lawful in
    let made : stretch (joined_count tick (turns_of off.before)) (length (log_of tick past)) (log_of tick past)
    ≡ off.made =
    ap (λ (m : ℕ). stretch m (length (log_of tick past)) (log_of tick past)) (sym off.kept)
    ∙ ap (λ (log : Log). stretch (length (log_of tick off.before)) (length log) log) off.log
    ∙ stretch_added off.made (log_of tick off.before) in
    let is : IsDrained (Mail f) MAIL_RING off.made =
    subst (IsDrained (Mail f) MAIL_RING) made
    (drains (record { role = tick; count = length (log_of tick past) }) (turns_of off.before) off.turns) in
    ap (content_of (Mail f)) off.parts
    ∙ content_lead layout (Mail f) off.look (off.join ∷ (steps_of tick off.made ++ off.split ∷ off.before)) whole
    (ap (pushes (Mail f)) off.looks.1) (ap (pops (Mail f)) off.looks.1)
    ∙ content_lead layout (Mail f) off.join (steps_of tick off.made ++ off.split ∷ off.before) whole.1
    (ap (pushes (Mail f)) off.joins) (ap (pops (Mail f)) off.joins)
    ∙ drained layout (Mail f) tick MAIL_RING off.made (off.split ∷ off.before) whole.1.1
    (lawful_made layout tick off.made (off.split ∷ off.before) whole.1.1)
    (core_away layout f.0 ranges known) (omega arith) is
