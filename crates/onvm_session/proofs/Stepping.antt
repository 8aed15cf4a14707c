-- A turn of a serial session keeps what holds between turns.
use Rattle.std.proofs.Common.{◌≡◌, ℕ, ◌+◌, ◌<◌, ◌≤◌, false, inl, inr, List, [], ◌∷◌, ◌++◌, length, refl, sym, ◌∙◌, ap, subst, arith, length-append, append_assoc}
use Rattle.std.specs.Prelude.{◌==◌, nat_lt}
use Rattle.std.proofs.lemmas.Bool.{cases_Bool, eqb-true, eqb-false, eq-eqb, ne_eqb, ltb-true, ltb-false}
use Rattle.onvm_core.specs.Blocks.RoleKind.{Receives, Sends, Handles, Ticks, Leads}
use Rattle.onvm_core.proofs.Agreeing.{Agree, passes_grow, agree_less}
use Rattle.onvm_core.proofs.Lists.{if_met, if_unmet}
use Rattle.onvm_core.proofs.Told.{own_log, foreign_log}
use Rattle.onvm_core.specs.Blocks.{RoleKind, kind_of}
use Rattle.onvm_core.specs.History.{History}
use Rattle.onvm_core.specs.Logs.{Setting, Log, log_of}
use Rattle.onvm_core.specs.Marks.{Ages}
use Rattle.onvm_promises.proofs.Aging.{aged_stays, marks_pass_same, feeder_same}
use Rattle.onvm_promises.proofs.Keeping.{earlier_moment, later_moment}
use Rattle.onvm_promises.proofs.Stretches.{until_all, since_until, stretch_parts, until_none}
use Rattle.onvm_promises.specs.Kept.{moment_then}
use Rattle.onvm_promises.specs.Stretches.{log_until, acts_since, stretch}
use Rattle.onvm_promises.specs.Times.{aged_by, passes_in}
use Rattle.onvm_session.proofs.Rounds.{round_for, moment_old, moment_new}
use Rattle.onvm_session.proofs.Turning.{HaveGrown, in_grew, whole_turn, woven_turn}
use Rattle.onvm_session.specs.Accounts.{IsWhole, AreWhole, aged_of}
use Rattle.onvm_session.specs.Moments.{moment_in, moment_of_round}
use Rattle.onvm_session.specs.Sessions.{AreRising, HasTurns, with_log, with_moment, after_turn}
use Rattle.onvm_session.specs.Turns.{Turn, joined_count, steps_of, turn_steps}
use Rattle.onvm_session.specs.Views.{FinalView, turns_in}

-- A pass under other answers on the age that agree on its readings

marks_fewer : (setting : Setting) (feeder : ℕ) (later marks before added : Log) → added ≡ later ++ marks
    → passes_in setting feeder (marks ++ before) ≤ passes_in setting feeder (added ++ before)
marks_fewer setting feeder later marks before added parts =
    let same : added ++ before ≡ later ++ (marks ++ before) =
    ap (λ (log : Log). log ++ before) parts ∙ append_assoc later marks before in
    omega (arith, passes_grow setting feeder later (marks ++ before), ap (passes_in setting feeder) same)

whole_same : (setting : Setting) (left right : ℕ → Ages) (role : ℕ) (kind : RoleKind) (before added : Log)
    → Agree (left role) (right role) (passes_in setting role (added ++ before))
    → IsWhole setting left role kind before added
    → IsWhole setting right role kind before added
whole_same setting left right role Receives before added same is =
    record {
      marks = is.marks;
      blocks = is.blocks;
      parts = is.parts;
      pass =
          marks_pass_same setting role (left role) (right role) before is.marks
          (agree_less (left role) (right role) (passes_in setting role (is.marks ++ before))
          (passes_in setting role (added ++ before))
          (marks_fewer setting role is.blocks is.marks before added is.parts) same)
          is.pass;
      steps = is.steps;
      count = is.count;
      rests = record {
        blocks = is.rests.blocks;
        between = is.rests.between;
        feeder = feeder_same setting role (left role) (right role) (added ++ before) same is.rests.feeder;
      };
    }
whole_same setting left right role Sends before added same is =
    record {
      marks = is.marks;
      moves = is.moves;
      parts = is.parts;
      pass =
          marks_pass_same setting role (left role) (right role) before is.marks
          (agree_less (left role) (right role) (passes_in setting role (is.marks ++ before))
          (passes_in setting role (added ++ before))
          (marks_fewer setting role is.moves is.marks before added is.parts) same)
          is.pass;
      steps = is.steps;
      few = is.few;
      drained = is.drained;
      rests = record {
        blocks = is.rests.blocks;
        free = is.rests.free;
        feeder = feeder_same setting role (left role) (right role) (added ++ before) same is.rests.feeder;
      };
    }
whole_same setting left right role Handles before added same is = is
whole_same setting left right role Ticks before added same is = is
whole_same setting left right role Leads before added same is = absurd is

until_fewer : (setting : Setting) (feeder n : ℕ) (log : Log)
    → passes_in setting feeder (log_until n log) ≤ passes_in setting feeder log
until_fewer setting feeder n log =
    omega (
      arith,
      passes_grow setting feeder (acts_since n log) (log_until n log),
      ap (passes_in setting feeder) (since_until n log),
    )

-- the turns before stay whole under the answers of longer logs
whole_aged : (setting : Setting) (left right : ℕ → Ages) (logs : ℕ → Log) (ts : List Turn) → AreRising ts
    → ((role : ℕ) → Agree (left role) (right role) (passes_in setting role (logs role)))
    → AreWhole setting left logs ts
    → AreWhole setting right logs ts
whole_aged setting left right logs [] rising same whole = tt
whole_aged setting left right logs (t ∷ ts) rising same whole =
    let parts : stretch (joined_count t.role ts) t.count (logs t.role) ++ log_until (joined_count t.role ts)
    (logs t.role)
    ≡ log_until t.count (logs t.role)
    = stretch_parts (joined_count t.role ts) t.count (logs t.role) rising.0 in (
      whole_same setting left right t.role (kind_of setting.layout t.role)
          (log_until (joined_count t.role ts) (logs t.role)) (stretch (joined_count t.role ts) t.count (logs t.role))
          (agree_less (left t.role) (right t.role)
          (passes_in setting t.role
          (stretch (joined_count t.role ts) t.count (logs t.role) ++ log_until (joined_count t.role ts) (logs t.role)))
          (passes_in setting t.role (logs t.role))
          (omega (arith, ap (passes_in setting t.role) parts, until_fewer setting t.role t.count (logs t.role)))
          (same t.role))
          whole.0,
      whole_aged setting left right logs ts rising.1 same whole.1,
    )

-- A turn

grew_with : (role : ℕ) (added : Log) (logs : ℕ → Log) → HaveGrown logs (with_log role (added ++ logs role) logs)
grew_with role added logs r =
    elim (cases_Bool (r == role)) [
      | inl met ↦ (
        added,
        if_met (r == role) (added ++ logs role) (logs r) met
            ∙ ap (λ (q : ℕ). added ++ logs q) (sym (eqb-true r role met)),
      )
      | inr unmet ↦ ([], if_unmet (r == role) (added ++ logs role) (logs r) unmet)
    ]

-- The log of a role in what was turn_steps

log_of_own : (role : ℕ) (acts : Log) (past : History) → log_of role (steps_of role acts ++ past) ≡ acts
    ++ log_of role past
log_of_own role [] past = refl
log_of_own role (act ∷ acts) past =
    own_log role (record { role = role; act = act }) (steps_of role acts ++ past) (eq-eqb role role refl)
    ∙ ap (λ (log : Log). act ∷ log) (log_of_own role acts past)

log_of_other : (role other : ℕ) (acts : Log) (past : History) → (role == other) ≡ false
    → log_of other (steps_of role acts ++ past) ≡ log_of other past
log_of_other role other [] past apart = refl
log_of_other role other (act ∷ acts) past apart =
    foreign_log other (record { role = role; act = act }) (steps_of role acts ++ past) apart
    ∙ log_of_other role other acts past apart

pub log_woven : (logs : ℕ → Log) (ts : List Turn) (role : ℕ) → AreRising ts
    → log_of role (turn_steps logs ts) ≡ log_until (joined_count role ts) (logs role)
log_woven logs [] role rising = sym (until_none (logs role))
log_woven logs (t ∷ ts) role rising =
    elim (cases_Bool (t.role == role)) [
      | inl met ↦
          let same : t.role ≡ role = eqb-true t.role role met in
          ap (λ (r : ℕ). log_of r (turn_steps logs (t ∷ ts))) (sym same)
          ∙ log_of_own t.role (stretch (joined_count t.role ts) t.count (logs t.role)) (turn_steps logs ts)
          ∙ ap (λ (log : Log). stretch (joined_count t.role ts) t.count (logs t.role) ++ log)
          (log_woven logs ts t.role rising.1)
          ∙ stretch_parts (joined_count t.role ts) t.count (logs t.role) rising.0
          ∙ ap (λ (r : ℕ). log_until t.count (logs r)) same
          ∙ ap (λ (n : ℕ). log_until n (logs role)) (sym (if_met (t.role == role) t.count (joined_count role ts) met))
      | inr unmet ↦
          log_of_other t.role role (stretch (joined_count t.role ts) t.count (logs t.role)) (turn_steps logs ts) unmet
          ∙ log_woven logs ts role rising.1
          ∙ ap (λ (n : ℕ). log_until n (logs role)) (sym (if_unmet (t.role == role) t.count
          (joined_count role ts) unmet))
    ]

module _ (setting : Setting) (moments : ℕ → ℕ → ℕ) (final : FinalView) (role seen round : ℕ) (added : Log) where
  abbrev now_log : Log
  now_log = added ++ final.logs role

  abbrev now_logs : ℕ → Log
  now_logs = with_log role (added ++ final.logs role) final.logs

  abbrev now_moment : ℕ → ℕ
  now_moment = moment_then (moments role) (length (final.logs role)) (moment_of_round round)

  abbrev now_moments : ℕ → ℕ → ℕ
  now_moments = with_moment role (moment_then (moments role) (length (final.logs role)) (moment_of_round round)) moments

  own_log_now : now_logs role ≡ added ++ final.logs role
  own_log_now = if_met (role == role) (added ++ final.logs role) (final.logs role) (eq-eqb role role refl)

  own_moment_now : now_moments role ≡ moment_then (moments role) (length (final.logs role)) (moment_of_round round)
  own_moment_now =
      if_met (role == role) (moment_then (moments role) (length (final.logs role)) (moment_of_round round))
      (moments role) (eq-eqb role role refl)

  moments_agree : (r number : ℕ) → number < length (final.logs r) → now_moments r number ≡ moments r number
  moments_agree r number less =
      elim (cases_Bool (r == role)) [
        | inl met ↦
            let same : r ≡ role = eqb-true r role met in
            ap (λ (m : ℕ → ℕ). m number)
            (if_met (r == role) (moment_then (moments role) (length (final.logs role)) (moment_of_round round))
            (moments r) met)
            ∙ earlier_moment (moments role) (length (final.logs role)) (moment_of_round round) number
            (subst (λ (q : ℕ). number < length (final.logs q)) same less)
            ∙ ap (λ (q : ℕ). moments q number) (sym same)
        | inr unmet ↦
            ap (λ (m : ℕ → ℕ). m number)
            (if_unmet (r == role) (moment_then (moments role) (length (final.logs role)) (moment_of_round round))
            (moments r) unmet)
      ]

  ages_agree : (r : ℕ)
      → Agree (aged_of setting moments final.logs r) (aged_of setting now_moments now_logs r)
      (passes_in setting r (final.logs r))
  ages_agree r pass f less =
      let more = grew_with role added final.logs r in
      sym (ap (λ (log : Log). aged_by setting r (now_moments r) log pass f) more.1
      ∙ aged_stays setting r (moments r) (now_moments r) more.0 (final.logs r) pass f
      (λ k below. moments_agree r k below) less)

  pub turn_has : HasTurns setting moments final
      → round_for setting.layout role (turn_steps final.logs (turns_in final)) ≡ round
      → IsWhole setting
      (aged_of setting (with_moment role
      (moment_then (moments role) (length (final.logs role)) (moment_of_round round)) moments)
      (with_log role (added ++ final.logs role) final.logs))
      role (kind_of setting.layout role) (final.logs role) added
      → HasTurns setting
      (with_moment role (moment_then (moments role) (length (final.logs role)) (moment_of_round round)) moments)
      (after_turn role seen (added ++ final.logs role) final)
  turn_has has at pass =
      let ts : List Turn = turns_in final in
      let grew : HaveGrown final.logs now_logs = grew_with role added final.logs in
      let size : length (now_logs role) ≡ length (added ++ final.logs role) = ap length own_log_now in
      let longer : length (added ++ final.logs role) ≡ length added + length (final.logs role) =
      length-append added (final.logs role) in
      let woven_now : turn_steps now_logs (record { role = role; count = length (added ++ final.logs role) } ∷ ts)
      ≡ steps_of role added ++ turn_steps final.logs ts
      = ap (λ (n : ℕ). turn_steps now_logs (record { role = role; count = n } ∷ ts)) (sym size)
      ∙ woven_turn final.logs now_logs ts role added grew has.within own_log_now (has.kept role) in
      let logged : (r : ℕ) → log_of r (turn_steps final.logs ts) ≡ final.logs r =
      λ r.
      log_woven final.logs ts r has.rising
      ∙ ap (λ (n : ℕ). log_until n (final.logs r)) (has.kept r)
      ∙ until_all (final.logs r) in
      record {
        rising = (omega (arith, has.kept role, longer), has.rising);
        within = (omega (arith, size), in_grew final.logs now_logs ts grew has.within);
        kept = λ r. elim (cases_Bool (role == r)) [
          | inl met ↦
              let same : role ≡ r = eqb-true role r met in
              if_met (role == r) (length (added ++ final.logs role)) (joined_count r ts) met
              ∙ sym size
              ∙ ap (λ (q : ℕ). length (now_logs q)) same
          | inr unmet ↦
              let other : (r == role) ≡ false = ne_eqb r role (λ e. eqb-false role r unmet (sym e)) in
              if_unmet (role == r) (length (added ++ final.logs role)) (joined_count r ts) unmet
              ∙ has.kept r
              ∙ ap length (sym (if_unmet (r == role) (added ++ final.logs role) (final.logs r) other))
        ];
        whole =
            subst (λ (n : ℕ).
            AreWhole setting (aged_of setting now_moments now_logs) now_logs (record { role = role; count = n } ∷ ts))
            size
            (whole_turn setting (aged_of setting now_moments now_logs) final.logs now_logs ts role added grew has.within
            own_log_now (has.kept role)
            (whole_aged setting (aged_of setting moments final.logs) (aged_of setting now_moments now_logs)
            final.logs ts
            has.rising ages_agree has.whole)
            pass);
        timed = λ r number less. elim (cases_Bool (nat_lt number (length (final.logs r)))) [
          | inl early ↦
              let below : number < length (final.logs r) = ltb-true number (length (final.logs r)) early in
              moments_agree r number below
              ∙ has.timed r number below
              ∙ sym (moment_old setting.layout role r number added (turn_steps final.logs ts)
              (omega (arith, below, ap length (logged r))))
              ∙ ap (λ (past : History). moment_in setting.layout past r number) (sym woven_now)
          | inr late ↦
              let from : length (final.logs r) ≤ number = ltb-false number (length (final.logs r)) late in
              elim (cases_Bool (r == role)) [
                | inl met ↦
                    let same : r ≡ role = eqb-true r role met in
                    let bound : number < length added + length (log_of role (turn_steps final.logs ts)) =
                    omega (
                      arith,
                      less,
                      ap (λ (q : ℕ). length (now_logs q)) same,
                      size,
                      longer,
                      ap length (logged role),
                    ) in
                    let start : length (final.logs role) ≤ number =
                    subst (λ (q : ℕ). length (final.logs q) ≤ number) same from in
                    ap (λ (q : ℕ). now_moments q number) same
                    ∙ ap (λ (m : ℕ → ℕ). m number) own_moment_now
                    ∙ later_moment (moments role) (length (final.logs role)) (moment_of_round round) number start
                    ∙ sym (moment_new setting.layout role number round added (turn_steps final.logs ts) at
                    (omega (arith, start, ap length (logged role))) bound)
                    ∙ ap (λ (past : History). moment_in setting.layout past role number) (sym woven_now)
                    ∙ ap (λ (q : ℕ).
                    moment_in setting.layout
                    (turn_steps now_logs (record { role = role; count = length (added ++ final.logs role) }
                    ∷ ts)) q number)
                    (sym same)
                | inr unmet ↦
                    absurd (omega (
                      arith,
                      less,
                      from,
                      ap length (if_unmet (r == role) (added ++ final.logs role) (final.logs r) unmet),
                    ))
              ]
        ];
      }
