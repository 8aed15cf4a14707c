-- The looks of a marks pass are those that the pure core's definition demands.
use Rattle.std.proofs.Common.{◌≡◌, ◌∙◌, sym, ap, refl, subst, ℕ, ◌≤◌, false, List, [], ◌∷◌, ◌++◌, arith}
use Rattle.onvm_core.specs.declared.layout.Word.{Word}
use Rattle.onvm_core.specs.declared.layout.Word.TheVariants.{Post as PostWord}
use Rattle.onvm_core.specs.declared.step.Act.TheVariants.{Post}
use Rattle.onvm_core.specs.Logs.{Setting, Log}
use Rattle.onvm_core.specs.Receiving.{ReceivePhase, receive_phase}
use Rattle.onvm_core.specs.Receiving.ReceivePhase.{Between, Asks, Seeks, Sees, Took, Barred}
use Rattle.onvm_core.specs.Marks.{MarkEvents, MarkLook, MarkPhase, Pass, Ages, AreMarked, IsNextLook, IsPaid, IsResting, MayMark, events_in, looks_left, looks_of_pass, mark_after, mark_after_look, mark_events, mark_phase}
use Rattle.onvm_core.specs.Marks.MarkPhase.{AtRest, InPass}
use Rattle.onvm_core.specs.Pace.{IsPaced, IsPacedAt, begins_block, blocks_since_pass, pops_since_pass, since_ended_pass}
use Rattle.entry_throttle.specs.Looks.{act_of, acts_of, looks_then, phase_in_pass}

-- a feeder in no pass rests after its passes and posts
rests_after : (phase : MarkPhase) → IsResting phase → phase ≡ AtRest (events_in phase)
rests_after (AtRest events) rests = refl
rests_after (InPass next later found events) rests = absurd rests

-- One look more

module _ (setting : Setting) (feeder : ℕ) (before : Log) (events : MarkEvents) where
  look_on : (found : Pass) (look : MarkLook) (seen : ℕ) (rest : List MarkLook)
      → looks_then found (look ∷ rest) ≡ looks_of_pass setting feeder before
      → mark_after setting feeder (acts_of feeder found ++ before) (phase_in_pass events found (look ∷ rest))
      (act_of feeder (record { look = look; seen = seen }))
      ≡ phase_in_pass events (record { look = look; seen = seen } ∷ found) rest
  look_on [] look seen [] e = ap (λ (looks : List MarkLook). mark_after_look looks seen [] events) (sym e)
  look_on [] look seen (next ∷ later) e =
      ap (λ (looks : List MarkLook). mark_after_look looks seen [] events) (sym e)
  look_on (x ∷ xs) look seen [] e = refl
  look_on (x ∷ xs) look seen (next ∷ later) e = refl

  look_may : (aged : Ages) (found : Pass) (look : MarkLook) (seen : ℕ) (rest : List MarkLook)
      → looks_then found (look ∷ rest) ≡ looks_of_pass setting feeder before → IsPaid aged events
      → MayMark setting feeder aged (acts_of feeder found ++ before) (phase_in_pass events found (look ∷ rest))
      (act_of feeder (record { look = look; seen = seen }))
  look_may aged [] look seen rest e paid =
      (subst (λ (looks : List MarkLook). IsNextLook looks look.function look.cell) e (refl, refl), paid)
  look_may aged (x ∷ xs) look seen rest e paid = ((refl, refl), paid)

-- All looks so far

module _ (setting : Setting) (feeder : ℕ) (before : Log) (rests : IsResting (mark_phase setting feeder before)) where
  pub looks_phase : (found : Pass) (rest : List MarkLook)
      → looks_then found rest ≡ looks_of_pass setting feeder before
      → mark_phase setting feeder (acts_of feeder found ++ before)
      ≡ phase_in_pass (mark_events setting feeder before) found rest
  looks_phase [] rest e = rests_after (mark_phase setting feeder before) rests
  looks_phase (x ∷ xs) rest e =
      ap (λ (phase : MarkPhase). mark_after setting feeder (acts_of feeder xs ++ before) phase (act_of feeder x))
      (looks_phase xs (x.look ∷ rest) e)
      ∙ look_on setting feeder before (mark_events setting feeder before) xs x.look x.seen rest e

  pub looks_marked : (aged : Ages) (found : Pass) (rest : List MarkLook)
      → IsPaid aged (mark_events setting feeder before) → AreMarked setting feeder aged before
      → looks_then found rest ≡ looks_of_pass setting feeder before
      → AreMarked setting feeder aged (acts_of feeder found ++ before)
  looks_marked aged [] rest paid marked e = marked
  looks_marked aged (x ∷ xs) rest paid marked e = (
    subst (λ (phase : MarkPhase). MayMark setting feeder aged (acts_of feeder xs ++ before) phase (act_of feeder x))
        (sym (looks_phase xs (x.look ∷ rest) e))
        (look_may setting feeder before (mark_events setting feeder before) aged xs x.look x.seen rest e paid),
    looks_marked aged xs (x.look ∷ rest) paid marked e,
  )

-- Marks passes keep the pace

ends_less : (looks : List MarkLook) (n : ℕ) → since_ended_pass looks n ≤ n
ends_less [] n = omega arith
ends_less (look ∷ []) n = omega arith
ends_less (look ∷ next ∷ later) n = omega arith

paced_at : (setting : Setting) (feeder : ℕ) (log : Log) → IsPaced setting feeder log → IsPacedAt setting feeder log
paced_at setting feeder [] paced = ((λ port. omega arith), λ f. omega arith)
paced_at setting feeder (act ∷ before) paced = paced.0

pub looks_paced : (setting : Setting) (feeder : ℕ) (before : Log) (found : Pass) → IsPaced setting feeder before
    → IsPaced setting feeder (acts_of feeder found ++ before)
looks_paced setting feeder before [] paced = paced
looks_paced setting feeder before (x ∷ xs) paced =
    let log = acts_of feeder xs ++ before in
    let earlier = looks_paced setting feeder before xs paced in
    let now = paced_at setting feeder log earlier in
    let looks = looks_left setting feeder log (mark_phase setting feeder log) in (
      (
        (λ port. omega (arith, now.0 port, ends_less looks (blocks_since_pass setting feeder log))),
        λ f. omega (arith, now.1 f, ends_less looks (pops_since_pass setting feeder f log)),
      ),
      earlier,
    )

no_block : (phase : ReceivePhase) (word : Word) (value : ℕ) → begins_block phase (Post word value) ≡ false
no_block (Between done) word value = refl
no_block (Asks done k) word value = refl
no_block (Seeks done k) word value = refl
no_block (Sees done index seen) word value = refl
no_block (Took done buf) word value = refl
no_block (Barred done buf ring) word value = refl

pub post_paced : (setting : Setting) (feeder value : ℕ) (log : Log) → IsPaced setting feeder log
    → IsPaced setting feeder (Post (PostWord feeder) value ∷ log)
post_paced setting feeder value log paced =
    let now = paced_at setting feeder log paced in
    let same : blocks_since_pass setting feeder (Post (PostWord feeder) value ∷ log)
    ≡ blocks_since_pass setting feeder log =
    rw (no_block (receive_phase setting log) (PostWord feeder) value) refl in
    (((λ port. omega (arith, now.0 port, same)), λ f. now.1 f), paced)
