-- What is kept grows by what the added acts tell.
use Rattle.std.proofs.Common.{◌≡◌, ℕ, ◌<◌, ◌≤◌, List, [], ◌∷◌, ◌++◌, length, refl, sym, ◌∙◌, ap, arith, append_assoc, append-nil, length-append}
use Rattle.std.specs.Prelude.{nat_lt}
use Rattle.std.proofs.lemmas.Bool.{le-ltb, lt-ltb}
use Rattle.onvm_core.specs.declared.step.Act.{Act}
use Rattle.onvm_core.specs.Logs.{Log}
use Rattle.onvm_core.proofs.Lists.{if_met, if_unmet}
use Rattle.onvm_promises.specs.Kept.{Outcomes, Told, kept_at, kept_now, moment_then, records_by, sent_by}

-- Moments

pub earlier_moment : (moment : ℕ → ℕ) (size now number : ℕ) → number < size
    → moment_then moment size now number ≡ moment number
earlier_moment moment size now number less =
    if_met (nat_lt number size) (moment number) now (lt-ltb number size less)

pub later_moment : (moment : ℕ → ℕ) (size now number : ℕ) → size ≤ number
    → moment_then moment size now number ≡ now
later_moment moment size now number from =
    if_unmet (nat_lt number size) (moment number) now (le-ltb number size from)

-- Lists

pub kept_same : {A : Type 0} (tells : ℕ → Act → List A) (left right : ℕ → ℕ) (log : Log)
    → ((number : ℕ) → number < length log → left number ≡ right number)
    → kept_at tells left log ≡ kept_at tells right log
kept_same tells left right [] same = refl
kept_same tells left right (act ∷ before) same =
    ap (λ xs. xs ++ tells (left (length before)) act)
    (kept_same tells left right before (λ number less. same number (omega (arith, less))))
    ∙ ap (λ (m : ℕ). kept_at tells right before ++ tells m act) (same (length before) (omega arith))

-- a list that is what the log tells grows by what the added acts tell
pub kept_added : {A : Type 0} (tells : ℕ → Act → List A) (moment later : ℕ → ℕ) (now : ℕ) (added before : Log)
    → ((number : ℕ) → number < length before → later number ≡ moment number)
    → ((number : ℕ) → length before ≤ number → number < length (added ++ before) → later number ≡ now)
    → kept_at tells later (added ++ before) ≡ kept_at tells moment before ++ kept_now tells now added
kept_added tells moment later now [] before same new =
    kept_same tells later moment before same ∙ sym (append-nil (kept_at tells moment before))
kept_added tells moment later now (act ∷ added) before same new =
    ap (λ xs. xs ++ tells (later (length (added ++ before))) act)
    (kept_added tells moment later now added before same
    (λ number from less. new number from (omega (arith, less))))
    ∙ ap (λ (m : ℕ). (kept_at tells moment before ++ kept_now tells now added) ++ tells m act)
    (new (length (added ++ before)) (omega (arith, length-append added before)) (omega arith))
    ∙ append_assoc (kept_at tells moment before) (kept_now tells now added) (tells now act)

-- so it is after a pass
pub kept_then : {A : Type 0} (tells : ℕ → Act → List A) (moment : ℕ → ℕ) (now : ℕ) (added before : Log)
    → kept_at tells (moment_then moment (length before) now) (added ++ before)
    ≡ kept_at tells moment before ++ kept_now tells now added
kept_then tells moment now added before =
    kept_added tells moment (moment_then moment (length before) now) now added before
    (λ number less. earlier_moment moment (length before) now number less)
    (λ number from less. later_moment moment (length before) now number from)

pub kept_append : {A : Type 0} (tells : ℕ → Act → List A) (now : ℕ) (added more : Log)
    → kept_now tells now (more ++ added) ≡ kept_now tells now added ++ kept_now tells now more
kept_append tells now added [] = sym (append-nil (kept_now tells now added))
kept_append tells now added (act ∷ more) =
    ap (λ xs. xs ++ tells now act) (kept_append tells now added more)
    ∙ append_assoc (kept_now tells now added) (kept_now tells now more) (tells now act)

-- records and sent frames tell no moments
pub records_any : (moment : ℕ → ℕ) (log : Log) → kept_at records_by moment log ≡ kept_now records_by 0 log
records_any moment [] = refl
records_any moment (act ∷ before) = ap (λ xs. xs ++ records_by 0 act) (records_any moment before)

pub sent_any : (moment : ℕ → ℕ) (log : Log) → kept_at sent_by moment log ≡ kept_now sent_by 0 log
sent_any moment [] = refl
sent_any moment (act ∷ before) = ap (λ xs. xs ++ sent_by 0 act) (sent_any moment before)

-- Stretch after stretch

pub told_nothing : (outcomes : Outcomes) → Told [] outcomes outcomes
told_nothing outcomes = record {
  records = sym (append-nil outcomes.records);
  sent = sym (append-nil outcomes.sent);
}

pub told_then : (added more : Log) (a b c : Outcomes) → Told added a b → Told more b c → Told (more ++ added) a c
told_then added more a b c first second =
    record {
      records = second.records ∙ ap (λ xs. xs ++ kept_now records_by 0 more) first.records
          ∙ append_assoc a.records (kept_now records_by 0 added) (kept_now records_by 0 more)
          ∙ ap (λ xs. a.records ++ xs) (sym (kept_append records_by 0 added more));
      sent = second.sent ∙ ap (λ xs. xs ++ kept_now sent_by 0 more) first.sent
          ∙ append_assoc a.sent (kept_now sent_by 0 added) (kept_now sent_by 0 more)
          ∙ ap (λ xs. a.sent ++ xs) (sym (kept_append sent_by 0 added more));
    }
