-- The turn that closes a serial run takes no sample: the last round's tick pass has left none.
use Rattle.std.proofs.Common.{◌≡◌, ◌≢◌, ℕ, ◌+◌, ◌<◌, false, inl, inr, List, [], ◌∷◌, ◌++◌, length, refl, sym, ◌∙◌, ap, subst, arith, length-append}
use Rattle.std.specs.Prelude.{◌==◌}
use Rattle.std.proofs.lemmas.Bool.{cases_Bool, eqb-true, eq-eqb, ne_eqb}
use Rattle.onvm_base.specs.declared.ids.FnId.{FnId}
use Rattle.onvm_base.specs.declared.ids.RingId.TheVariants.{Lane, Output, Mail}
use Rattle.onvm_core.specs.declared.layout.Layout.{Layout}
use Rattle.onvm_core.specs.declared.step.Act.{Act}
use Rattle.onvm_core.specs.declared.step.Act.TheVariants.{Split, Join, Take, Give, Push, Full, Pop, Empty, Look, Post}
use Rattle.onvm_core.specs.declared.step.Item.TheVariants.{Buffer, Number}
use Rattle.onvm_core.specs.Blocks.RoleKind.{Ticks}
use Rattle.onvm_session.specs.Views.AreTurns.{NoTurn, ATurn}
use Rattle.onvm_base.specs.declared.limits.TheConstants.{MAIL_RING}
use Rattle.onvm_core.proofs.Lists.{if_met, if_unmet}
use Rattle.onvm_core.specs.Blocks.{RoleKind, kind_of, MayFollow, MayTick, IsOfBlocks}
use Rattle.onvm_core.specs.History.{History, pushes, pops, content_of}
use Rattle.onvm_core.specs.Lawful.{IsLawful}
use Rattle.onvm_core.specs.Layouts.{IsLayout, first_role, tick_role}
use Rattle.onvm_core.specs.Logs.{Setting, Log, log_of}
use Rattle.onvm_core.specs.Marks.{Ages}
use Rattle.onvm_core.specs.Places.{how_many, one_if}
use Rattle.onvm_promises.specs.Kept.{kept_now, samples_by}
use Rattle.onvm_promises.specs.Passes.{IsDrained, IsTickPass, is_pop_of}
use Rattle.onvm_promises.specs.Stretches.{log_until, stretch}
use Rattle.onvm_session.proofs.Closing.{Left, left_made, all_taken, content_lead, core_away}
use Rattle.onvm_session.proofs.Peeling.{NoneSplit, TurnOff, turn_off, turns_none, lawful_made}
use Rattle.onvm_session.proofs.Reading.{turns_read}
use Rattle.onvm_session.proofs.Rounds.{role_last}
use Rattle.onvm_session.proofs.Serial.{kind_tick}
use Rattle.onvm_session.specs.Accounts.{IsWhole, AreWhole, aged_of}
use Rattle.onvm_session.specs.Sessions.{HasTurns, after_turn, with_log}
use Rattle.onvm_session.specs.Turns.{Turn, turns, turns_of, joined_count, steps_of}
use Rattle.onvm_session.specs.Views.{FinalView, IsHistoryOf, turns_in, turn_of, AreTurns, next_place, place_in, role_at}

module _ (layout : Layout) (past : History) (seen : ℕ) (rest : Log) (f : FnId) (ranges : IsLayout layout)
    (known : f.0 < layout.functions) (lawful : IsLawful layout past)
    (lead : log_of (first_role layout) past ≡ turn_of (tick_role layout) seen ++ rest) (none : NoneSplit rest) where
  pub apart : (tick_role layout == first_role layout) ≡ false
  apart = ne_eqb (tick_role layout) (first_role layout) (λ e. omega (arith, e))

  abbrev pub last_turn : TurnOff layout (tick_role layout) rest past
  last_turn = turn_off layout past (tick_role layout) seen rest lawful lead none apart

  -- where a mail ring was empty behind the turn before, the last turn pops nothing from it
  pub takes_none : content_of (Mail f) (last_turn.before) ≡ [] → how_many (is_pop_of (Mail f)) last_turn.made ≡ 0
  takes_none empty =
      let off : TurnOff layout (tick_role layout) rest past = last_turn in
      let whole : IsLawful layout (off.look ∷ off.join ∷ (steps_of (tick_role layout) off.made ++ off.split
      ∷ off.before)) =
      subst (IsLawful layout) off.parts lawful in
      let split_lawful : IsLawful layout (off.split ∷ off.before) =
      lawful_made layout (tick_role layout) off.made (off.split ∷ off.before) whole.1.1 in
      let at_split : content_of (Mail f) (off.split ∷ off.before) ≡ [] =
      content_lead layout (Mail f) off.split off.before split_lawful
      (ap (pushes (Mail f)) off.splits) (ap (pops (Mail f)) off.splits)
      ∙ empty in
      let left : Left (Mail f) (length (content_of (Mail f) (off.split ∷ off.before))) off.made
      (steps_of (tick_role layout) off.made ++ off.split ∷ off.before)
      = left_made layout (Mail f) (tick_role layout) off.made (off.split ∷ off.before) whole.1.1
      (core_away layout f.0 ranges known) in
      omega (arith, left.sum, ap length at_split)

-- Off the view: behind whole rounds the tick role's last pass was drained

suffix_same : (xs zs ys ws : Log) → xs ++ ys ≡ zs ++ ws → length ys ≡ length ws → (xs ≡ zs) × (ys ≡ ws)
suffix_same [] [] ys ws e size = (refl, e)
suffix_same [] (z ∷ zs) ys ws e size =
    absurd (omega (arith, ap length e, length-append zs ws, size))
suffix_same (x ∷ xs) [] ys ws e size =
    absurd (omega (arith, ap length e, length-append xs ys, size))
suffix_same (x ∷ xs) (z ∷ zs) ys ws e size =
    let head : x ≡ z = cc in
    let rest : xs ++ ys ≡ zs ++ ws = cc in
    let both = suffix_same xs zs ys ws rest size in
    (ap (λ (log : Log). x ∷ log) both.0 ∙ ap (λ (act : Act). act ∷ zs) head, both.1)

-- the turn behind which a round ends is the tick role's
pub ends_round : (layout : Layout) (place : ℕ) → place + 1 ≡ first_role layout → role_at layout place ≡ tick_role layout
ends_round layout place e =
    ap (role_at layout) (at_last place e) ∙ role_last layout
  where
    at_last : (p : ℕ) → p + 1 ≡ first_role layout → p ≡ layout.ports + layout.cores + layout.transmit
    at_last p q = omega (arith, q)

pub record EndsRound (layout : Layout) (lead : Log) : Type 0 where
  pub seen : ℕ
  pub rest : Log
  pub parts : lead ≡ turn_of (tick_role layout) seen ++ rest
  pub turns : AreTurns layout rest

next_zero : (layout : Layout) (place : ℕ) → next_place layout place ≡ 0 → place + 1 ≡ first_role layout
next_zero layout place e =
    elim (cases_Bool (place + 1 == first_role layout)) [
      | inl met ↦ eqb-true (place + 1) (first_role layout) met
      | inr unmet ↦
          absurd (omega (arith, e, if_unmet (place + 1 == first_role layout) 0 (place + 1) unmet))
    ]

pub ends_with_round : (layout : Layout) (lead : Log) → AreTurns layout lead → place_in layout lead ≡ 0 → lead ≢ []
    → EndsRound layout lead
ends_with_round layout lead NoTurn whole some = absurd (some refl)
ends_with_round layout lead (ATurn seen before are) whole some = record {
  seen = seen;
  rest = before;
  parts =
      ap (λ (r : ℕ). turn_of r seen ++ before)
      (ends_round layout (place_in layout before) (next_zero layout (place_in layout before) whole));
  turns = are;
}

cons_same : (t u : Turn) (ts us : List Turn) → t ∷ ts ≡ u ∷ us → (t ≡ u) × (ts ≡ us)
cons_same t u ts us e = (cc, cc)

head_of : (tick seen : ℕ) (rest : Log) (counts : List ℕ) (t : Turn) (ts : List Turn)
    → turns (turn_of tick seen ++ rest) counts ≡ t ∷ ts
    → t.role ≡ tick
head_of tick seen rest [] t ts e = absurd (let off : ◌≡◌ {A = List Turn} [] (t ∷ ts) = e in cc)
head_of tick seen rest (n ∷ counts) t ts e =
    let both = cons_same (record { role = tick; count = n }) t (turns rest counts) ts e in
    ap (λ (u : Turn). u.role) (sym both.0)

drained_there : (setting : Setting) (aged : ℕ → Ages) (final : FinalView) (f : FnId) (t : Turn) (ts : List Turn)
    (before : History)
    → EndsRound setting.layout final.lead → f.0 < setting.layout.functions → turns_in final ≡ t ∷ ts
    → log_of (tick_role setting.layout) before ≡ final.logs (tick_role setting.layout)
    → AreWhole setting aged final.logs (turns_in final)
    → IsDrained (Mail f) MAIL_RING (stretch (joined_count t.role ts) t.count (log_of t.role before))
drained_there setting aged final f t ts before round known are same whole =
    let role : t.role ≡ tick_role setting.layout =
    head_of (tick_role setting.layout) round.seen round.rest final.counts t ts
    (ap (λ (lead : Log). turns lead final.counts) (sym round.parts) ∙ are) in
    let head : AreWhole setting aged final.logs (t ∷ ts) =
    subst (AreWhole setting aged final.logs) are whole in
    let pass : IsTickPass setting t.role (log_until (joined_count t.role ts) (final.logs t.role))
    (stretch (joined_count t.role ts) t.count (final.logs t.role))
    = subst (λ (kind : RoleKind).
    IsWhole setting aged t.role kind (log_until (joined_count t.role ts) (final.logs t.role))
    (stretch (joined_count t.role ts) t.count (final.logs t.role)))
    (ap (kind_of setting.layout) role ∙ kind_tick setting.layout) head.0 in
    let log_is : final.logs t.role ≡ log_of t.role before =
    subst (λ (r : ℕ). final.logs r ≡ log_of r before) (sym role) (sym same) in
    subst (λ (log : Log). IsDrained (Mail f) MAIL_RING (stretch (joined_count t.role ts) t.count log)) log_is
    (pass.drained f known)

-- the closing turn pops from no mail ring
pub closing_takes_none : (setting : Setting) (moments : ℕ → ℕ → ℕ) (final : FinalView) (past : History) (seen : ℕ)
    (added : Log) (f : FnId)
    → IsLayout setting.layout → f.0 < setting.layout.functions
    → AreTurns setting.layout final.lead → place_in setting.layout final.lead ≡ 0 → final.lead ≢ []
    → HasTurns setting moments final
    → IsHistoryOf setting.layout
    (after_turn (tick_role setting.layout) seen (added ++ final.logs (tick_role setting.layout)) final) past
    → how_many (is_pop_of (Mail f)) added ≡ 0
closing_takes_none setting moments final past seen added f ranges known turns_are whole some has is =
    let layout : Layout = setting.layout in
    let tick : ℕ = tick_role layout in
    let none : NoneSplit final.lead = turns_none layout final.lead turns_are in
    let lead : log_of (first_role layout) past ≡ turn_of tick seen ++ final.lead = sym is.lead in
    let off : TurnOff layout tick final.lead past =
    last_turn layout past seen final.lead f ranges known is.lawful lead none in
    let all : Log = added ++ final.logs tick in
    let read : turns_of past ≡ record { role = tick; count = length all } ∷ turns_in final =
    sym (turns_read layout past is.lawful)
    ∙ ap (turns (log_of (first_role layout) past)) (sym is.counts)
    ∙ ap (λ (log : Log). turns log (length all ∷ final.counts)) lead in
    let tails = cons_same (record { role = tick; count = length (log_of tick past) })
    (record { role = tick; count = length all }) (turns_of off.before) (turns_in final) (sym off.turns ∙ read) in
    let own : with_log tick all final.logs tick ≡ all =
    if_met (tick == tick) all (final.logs tick) (eq-eqb tick tick refl) in
    let logged : log_of tick past ≡ all = sym (is.logs tick (omega arith)) ∙ own in
    let size : length (log_of tick off.before) ≡ length (final.logs tick) =
    off.kept ∙ ap (joined_count tick) tails.1 ∙ has.kept tick in
    let parts = suffix_same off.made added (log_of tick off.before) (final.logs tick) (sym off.log ∙ logged) size in
    -- the round behind which it stands
    let round : EndsRound layout final.lead = ends_with_round layout final.lead turns_are whole some in
    let lawful_off : IsLawful layout (off.look ∷ off.join ∷ (steps_of tick off.made ++ off.split ∷ off.before)) =
    subst (IsLawful layout) off.parts is.lawful in
    let lawful_before : IsLawful layout off.before =
    (lawful_made layout tick off.made (off.split ∷ off.before) lawful_off.1.1).1 in
    let empty : content_of (Mail f) off.before ≡ [] =
    all_taken layout off.before round.seen round.rest f ranges known lawful_before (off.lead ∙ round.parts)
    (turns_none layout round.rest round.turns)
    (λ t ts are.
    drained_there setting (aged_of setting moments final.logs) final f t ts off.before round known
    (sym tails.1 ∙ are) parts.1 has.whole) in
    ap (how_many (is_pop_of (Mail f))) (sym parts.0)
    ∙ takes_none layout past seen final.lead f ranges known is.lawful lead none empty

-- so it takes no sample
no_sample : (setting : Setting) (now role : ℕ) (act : Act) → MayTick setting act
    → ((f : FnId) → f.0 < setting.layout.functions → one_if (is_pop_of (Mail f) act) ≡ 0)
    → samples_by now act ≡ []
no_sample setting now role (Pop (Mail f) (Number n)) may none =
    let one : one_if (is_pop_of (Mail f) (Pop (Mail f) (Number n))) ≡ 1 = ap one_if (eq-eqb f.0 f.0 refl) in
    absurd (omega (arith, one, none f may))
no_sample setting now role (Pop (Mail f) (Buffer b p)) may none = refl
no_sample setting now role (Pop (Lane f p) item) may none = absurd may
no_sample setting now role (Pop (Output f) item) may none = absurd may
no_sample setting now role (Empty r) may none = refl
no_sample setting now role (Post a b) may none = refl
no_sample setting now role (Split a) may none = absurd may
no_sample setting now role (Join a) may none = absurd may
no_sample setting now role (Take a) may none = absurd may
no_sample setting now role (Give a b c) may none = absurd may
no_sample setting now role (Push a b) may none = absurd may
no_sample setting now role (Full a) may none = absurd may
no_sample setting now role (Look a b c) may none = absurd may

front_blocks : (setting : Setting) (role : ℕ) (act : Act) (added before : Log)
    → kind_of setting.layout role ≡ Ticks → IsOfBlocks setting role (act ∷ (added ++ before))
    → MayTick setting act
front_blocks setting role act added before kind blocks =
    subst (λ (k : RoleKind). MayFollow setting role k (added ++ before) act) kind blocks.0

pub no_samples : (setting : Setting) (now role : ℕ) (added before : Log)
    → kind_of setting.layout role ≡ Ticks → IsOfBlocks setting role (added ++ before)
    → ((f : FnId) → f.0 < setting.layout.functions → how_many (is_pop_of (Mail f)) added ≡ 0)
    → kept_now samples_by now added ≡ []
no_samples setting now role [] before kind blocks none = refl
no_samples setting now role (act ∷ added) before kind blocks none =
    rw (
      no_samples setting now role added before kind blocks.1 (λ f known. omega (arith, none f known)),
      no_sample setting now role act (front_blocks setting role act added before kind blocks)
          (λ f known. omega (arith, none f known)),
    ) refl
