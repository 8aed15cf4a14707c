-- What a turn, or a pass, adds: the turns before stay as they were, and the lists grow by what the pass tells.
use Rattle.std.proofs.Common.{◌≡◌, ℕ, ◌≤◌, inl, inr, List, [], ◌∷◌, ◌++◌, length, refl, sym, ◌∙◌, ap, subst, arith, length-append}
use Rattle.std.specs.Prelude.{◌==◌}
use Rattle.std.proofs.lemmas.Bool.{cases_Bool, eqb-true}
use Rattle.onvm_core.specs.Blocks.{kind_of}
use Rattle.onvm_core.specs.History.{History}
use Rattle.onvm_core.specs.Logs.{Setting, Log}
use Rattle.onvm_core.specs.Marks.{Ages}
use Rattle.onvm_promises.proofs.Stretches.{until_all, stretch_added, until_append}
use Rattle.onvm_promises.specs.Stretches.{log_until, acts_since, stretch}
use Rattle.onvm_session.specs.Accounts.{IsWhole, AreWhole}
use Rattle.onvm_session.specs.Turns.{AreWithinLogs, Turn, joined_count, steps_of, turn_steps}

-- Turns under logs that grew

abbrev pub HaveGrown : (ℕ → Log) → (ℕ → Log) → Type 0
HaveGrown logs now = (role : ℕ) → (added : Log) × (now role ≡ added ++ logs role)

pub in_grew : (logs now : ℕ → Log) (ts : List Turn) → HaveGrown logs now → AreWithinLogs logs ts → AreWithinLogs now ts
in_grew logs now [] grew are = tt
in_grew logs now (t ∷ ts) grew are =
    let more = grew t.role in (
      omega (arith, are.0, ap length more.1, length-append more.0 (logs t.role)),
      in_grew logs now ts grew are.1,
    )

until_grew : (logs now : ℕ → Log) (t : Turn) → HaveGrown logs now → t.count ≤ length (logs t.role)
    → log_until t.count (now t.role) ≡ log_until t.count (logs t.role)
until_grew logs now t grew within =
    ap (log_until t.count) (grew t.role).1 ∙ until_append t.count (grew t.role).0 (logs t.role) within

pub woven_grew : (logs now : ℕ → Log) (ts : List Turn) → HaveGrown logs now → AreWithinLogs logs ts
    → turn_steps now ts ≡ turn_steps logs ts
woven_grew logs now [] grew are = refl
woven_grew logs now (t ∷ ts) grew are =
    ap (λ (log : Log). steps_of t.role (acts_since (joined_count t.role ts) log) ++ turn_steps now ts)
    (until_grew logs now t grew are.0)
    ∙ ap (λ (past : History). steps_of t.role (stretch (joined_count t.role ts) t.count (logs t.role)) ++ past)
    (woven_grew logs now ts grew are.1)

kept_in : (role : ℕ) (logs : ℕ → Log) (ts : List Turn) → AreWithinLogs logs ts → joined_count role ts ≤ length
    (logs role)
kept_in role logs [] are = omega arith
kept_in role logs (t ∷ ts) are =
    elim (cases_Bool (t.role == role)) [
      | inl met ↦
          rw met (subst (λ (r : ℕ). t.count ≤ length (logs r)) (eqb-true t.role role met) are.0)
      | inr unmet ↦ rw unmet (kept_in role logs ts are.1)
    ]

-- the turns before stay whole passes
pub whole_grew : (setting : Setting) (aged : ℕ → Ages) (logs now : ℕ → Log) (ts : List Turn)
    → HaveGrown logs now → AreWithinLogs logs ts → AreWhole setting aged logs ts
    → AreWhole setting aged now ts
whole_grew setting aged logs now [] grew are whole = tt
whole_grew setting aged logs now (t ∷ ts) grew are whole =
    let kept : log_until (joined_count t.role ts) (now t.role) ≡ log_until (joined_count t.role ts) (logs t.role) =
    ap (log_until (joined_count t.role ts)) (grew t.role).1
    ∙ until_append (joined_count t.role ts) (grew t.role).0 (logs t.role) (kept_in t.role logs ts are.1) in
    let part : stretch (joined_count t.role ts) t.count (now t.role)
    ≡ stretch (joined_count t.role ts) t.count (logs t.role)
    = ap (acts_since (joined_count t.role ts)) (until_grew logs now t grew are.0) in (
      subst (λ (before : Log).
          IsWhole setting aged t.role (kind_of setting.layout t.role) before
          (stretch (joined_count t.role ts) t.count (now t.role)))
          (sym kept)
          (subst (IsWhole setting aged t.role (kind_of setting.layout t.role)
          (log_until (joined_count t.role ts) (logs t.role))) (sym part) whole.0),
      whole_grew setting aged logs now ts grew are.1 whole.1,
    )

-- A new turn: the role's log grew by what it added, and all that it had done before was in turns

pub woven_turn : (logs now : ℕ → Log) (ts : List Turn) (role : ℕ) (added : Log)
    → HaveGrown logs now → AreWithinLogs logs ts → now role ≡ added ++ logs role → joined_count role ts ≡ length
    (logs role)
    → turn_steps now (record { role = role; count = length (now role) } ∷ ts) ≡ steps_of role added
    ++ turn_steps logs ts
woven_turn logs now ts role added grew are more kept =
    let part : stretch (joined_count role ts) (length (now role)) (now role) ≡ added =
    ap (λ (m : ℕ). stretch m (length (now role)) (now role)) kept
    ∙ ap (λ (log : Log). stretch (length (logs role)) (length log) log) more
    ∙ stretch_added added (logs role) in
    ap (λ (acts : Log). steps_of role acts ++ turn_steps now ts) part
    ∙ ap (λ (past : History). steps_of role added ++ past) (woven_grew logs now ts grew are)

pub whole_turn : (setting : Setting) (aged : ℕ → Ages) (logs now : ℕ → Log) (ts : List Turn) (role : ℕ) (added : Log)
    → HaveGrown logs now → AreWithinLogs logs ts → now role ≡ added ++ logs role → joined_count role ts ≡ length
    (logs role)
    → AreWhole setting aged logs ts → IsWhole setting aged role (kind_of setting.layout role) (logs role) added
    → AreWhole setting aged now (record { role = role; count = length (now role) } ∷ ts)
whole_turn setting aged logs now ts role added grew are more kept whole pass =
    let part : stretch (joined_count role ts) (length (now role)) (now role) ≡ added =
    ap (λ (m : ℕ). stretch m (length (now role)) (now role)) kept
    ∙ ap (λ (log : Log). stretch (length (logs role)) (length log) log) more
    ∙ stretch_added added (logs role) in
    let before : log_until (joined_count role ts) (now role) ≡ logs role =
    ap (λ (m : ℕ). log_until m (now role)) kept
    ∙ ap (log_until (length (logs role))) more
    ∙ until_append (length (logs role)) added (logs role) (omega arith)
    ∙ until_all (logs role) in (
      subst (λ (log : Log).
          IsWhole setting aged role (kind_of setting.layout role) log
          (stretch (joined_count role ts) (length (now role)) (now role)))
          (sym before)
          (subst (IsWhole setting aged role (kind_of setting.layout role) (logs role)) (sym part) pass),
      whole_grew setting aged logs now ts grew are whole,
    )
