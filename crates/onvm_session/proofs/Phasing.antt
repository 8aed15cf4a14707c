-- The session by phases: from phase to phase, and the closing turn of any session.
use Rattle.std.proofs.Common.{◌≡◌, ℕ, zero, suc, ◌+◌, ◌<◌, ◌≤◌, inl, inr, List, [], ◌∷◌, ◌++◌, length, refl, sym, ◌∙◌, ap, subst, arith, append_assoc}
use Rattle.std.specs.Prelude.{◌==◌, nat_lt}
use Rattle.std.proofs.lemmas.Bool.{cases_Bool, eqb-true, eqb-false, eq-eqb, ne_eqb, ltb-true, ltb-false}
use Rattle.onvm_session.specs.Views.ArePhases.{APhase}
use Rattle.onvm_core.proofs.Lists.{if_met, if_unmet}
use Rattle.onvm_core.specs.Layouts.{first_role, tick_role}
use Rattle.onvm_core.specs.Logs.{Setting, Log}
use Rattle.onvm_promises.proofs.Stretches.{until_append, stretch_added, until_all}
use Rattle.onvm_promises.specs.Passes.{IsTickPass}
use Rattle.onvm_promises.specs.Stretches.{log_until, stretch}
use Rattle.onvm_session.specs.Sessions.{IsPhasedSoFar, lengths_of, after_phase, after_turn, with_log}
use Rattle.onvm_session.specs.Turns.{Turn, turns, joined_count}
use Rattle.onvm_session.specs.Views.{FinalView, turns_in, turn_of, joins, splits, IsPhasedLead}

-- The turns that a phase's joins make

abbrev joined : (ℕ → Log) → ℕ → List Turn
joined logs zero = []
joined logs (suc n) = record { role = n; count = length (logs n) } ∷ joined logs n

turns_splits : (n role : ℕ) (lead : Log) (counts : List ℕ) → turns (splits n role ++ lead) counts ≡ turns lead counts
turns_splits zero role lead counts = refl
turns_splits (suc n) role lead counts = turns_splits n (role + 1) lead counts

turns_joins : (logs : ℕ → Log) (n : ℕ) (lead : Log) (counts : List ℕ)
    → turns (joins n ++ lead) (lengths_of logs n ++ counts) ≡ joined logs n ++ turns lead counts
turns_joins logs zero lead counts = refl
turns_joins logs (suc n) lead counts =
    ap (λ (ts : List Turn). record { role = n; count = length (logs n) } ∷ ts) (turns_joins logs n lead counts)

kept_below : (logs : ℕ → Log) (n role : ℕ) (ts : List Turn) → role < n
    → joined_count role (joined logs n ++ ts) ≡ length (logs role)
kept_below logs zero role ts less = absurd (omega (arith, less))
kept_below logs (suc n) role ts less =
    elim (cases_Bool (n == role)) [
      | inl met ↦
          if_met (n == role) (length (logs n)) (joined_count role (joined logs n ++ ts)) met
          ∙ ap (λ (r : ℕ). length (logs r)) (eqb-true n role met)
      | inr unmet ↦
          if_unmet (n == role) (length (logs n)) (joined_count role (joined logs n ++ ts)) unmet
          ∙ kept_below logs n role ts (omega (arith, less, eqb-false n role unmet))
    ]

kept_behind : (logs : ℕ → Log) (n role : ℕ) (ts : List Turn) → n ≤ role
    → joined_count role (joined logs n ++ ts) ≡ joined_count role ts
kept_behind logs zero role ts behind = refl
kept_behind logs (suc n) role ts behind =
    if_unmet (n == role) (length (logs n)) (joined_count role (joined logs n ++ ts))
    (ne_eqb n role (λ e. omega (arith, e, behind)))
    ∙ kept_behind logs n role ts (omega (arith, behind))

-- after a phase all roles' logs are as long as their joins kept, and the clock may have told all moments
pub phase_next : (may_tell : ℕ → Type 0) (setting : Setting) (moments now : ℕ → ℕ → ℕ) (final : FinalView) (seen : ℕ)
    (logs : ℕ → Log)
    → IsPhasedSoFar may_tell setting moments final
    → ((role : ℕ) → first_role setting.layout ≤ role → logs role ≡ final.logs role)
    → ((role number : ℕ) → number < length (logs role) → may_tell (now role number))
    → IsPhasedSoFar may_tell setting now (after_phase (first_role setting.layout) seen logs final)
phase_next may_tell setting moments now final seen logs so_far role_steps timed =
    let n : ℕ = first_role setting.layout in
    let read : turns_in (after_phase n seen logs final) ≡ joined logs n ++ turns_in final =
    ap (λ (lead : Log). turns lead (lengths_of logs n ++ final.counts)) (append_assoc (joins n) (splits n 0) final.lead)
    ∙ turns_joins logs n (splits n 0 ++ final.lead) final.counts
    ∙ ap (λ (ts : List Turn). joined logs n ++ ts) (turns_splits n 0 final.lead final.counts) in
    record {
      phases = APhase seen final.lead so_far.phases;
      kept = λ role. elim (cases_Bool (nat_lt role n)) [
        | inl below ↦ ap (joined_count role) read ∙ kept_below logs n role (turns_in final) (ltb-true role n below)
        | inr behind ↦
            ap (joined_count role) read
            ∙ kept_behind logs n role (turns_in final) (ltb-false role n behind)
            ∙ so_far.kept role
            ∙ ap length (sym (role_steps role (ltb-false role n behind)))
      ];
      timed = timed;
    }

pub phased_lead : (may_tell : ℕ → Type 0) (setting : Setting) (moments : ℕ → ℕ → ℕ) (final : FinalView) (seen : ℕ)
    → IsPhasedSoFar may_tell setting moments final
    → IsPhasedLead setting.layout (turn_of (tick_role setting.layout) seen ++ final.lead)
phased_lead may_tell setting moments final seen so_far =
    record { phases = final.lead; seen = seen; are = so_far.phases; closed = refl }

-- the closing turn of any session is the tick role's pass
same_head : (t u : Turn) (ts us : List Turn) → t ∷ ts ≡ u ∷ us → (t ≡ u) × (ts ≡ us)
same_head t u ts us e = (cc, cc)

pub closing_of : (setting : Setting) (final : FinalView) (role seen : ℕ) (added : Log)
    → joined_count role (turns_in final) ≡ length (final.logs role) → IsTickPass setting role (final.logs role) added
    → (t : Turn) (ts : List Turn) → turns_in (after_turn role seen (added ++ final.logs role) final) ≡ t ∷ ts
    → IsTickPass setting t.role
    (log_until (joined_count t.role ts) (with_log role (added ++ final.logs role) final.logs t.role))
    (stretch (joined_count t.role ts) t.count (with_log role (added ++ final.logs role) final.logs t.role))
closing_of setting final role seen added kept pass t ts e =
    let now : Log = added ++ final.logs role in
    let logs : ℕ → Log = with_log role (added ++ final.logs role) final.logs in
    let parts = same_head (record { role = role; count = length (added ++ final.logs role) }) t (turns_in final) ts e in
    let own : logs role ≡ added ++ final.logs role =
    if_met (role == role) (added ++ final.logs role) (final.logs role) (eq-eqb role role refl) in
    let before : log_until (joined_count role (turns_in final)) (logs role) ≡ final.logs role =
    ap (λ (n : ℕ). log_until n (logs role)) kept
    ∙ ap (log_until (length (final.logs role))) own
    ∙ until_append (length (final.logs role)) added (final.logs role) (omega arith)
    ∙ until_all (final.logs role) in
    let made : stretch (joined_count role (turns_in final)) (length (added ++ final.logs role)) (logs role) ≡ added =
    ap (λ (n : ℕ). stretch n (length (added ++ final.logs role)) (logs role)) kept
    ∙ ap (stretch (length (final.logs role)) (length (added ++ final.logs role))) own
    ∙ stretch_added added (final.logs role) in
    subst (λ (u : Turn).
    IsTickPass setting u.role (log_until (joined_count u.role ts) (logs u.role))
    (stretch (joined_count u.role ts) u.count (logs u.role))) parts.0
    (subst (λ (us : List Turn).
    IsTickPass setting role (log_until (joined_count role us) (logs role))
    (stretch (joined_count role us) (length (added ++ final.logs role)) (logs role))) parts.1
    (subst (λ (log : Log).
    IsTickPass setting role log
    (stretch (joined_count role (turns_in final)) (length (added ++ final.logs role)) (logs role))) (sym before)
    (subst (IsTickPass setting role (final.logs role)) (sym made) pass)))
