-- Parts of a log that grew, and parts put together again.
use Rattle.std.proofs.Common.{◌≡◌, ℕ, ◌+◌, ◌≤◌, false, inl, inr, true, [], ◌∷◌, ◌++◌, length, refl, sym, ◌∙◌, ap, arith, length-append}
use Rattle.std.specs.Prelude.{nat_le}
use Rattle.std.proofs.lemmas.Bool.{cases_Bool, le-leb, lt-leb, leb-true, leb-false}
use Rattle.onvm_core.specs.declared.step.Act.{Act}
use Rattle.onvm_core.specs.Logs.{Log}
use Rattle.onvm_core.proofs.Lists.{if_met, if_unmet}
use Rattle.onvm_promises.specs.Stretches.{acts_since, log_until, stretch}

pub until_all : (log : Log) → log_until (length log) log ≡ log
until_all [] = refl
until_all (act ∷ before) =
    if_met (nat_le (length before + 1) (length (act ∷ before))) (act ∷ before)
    (log_until (length (act ∷ before)) before)
    (le-leb (length before + 1) (length (act ∷ before)) (omega arith))

pub until_none : (log : Log) → log_until 0 log ≡ []
until_none [] = refl
until_none (act ∷ before) =
    if_unmet (nat_le (length before + 1) 0) (act ∷ before) (log_until 0 before)
    (lt-leb (length before + 1) 0 (omega arith))
    ∙ until_none before

pub until_longer : (n : ℕ) (act : Act) (log : Log) → n ≤ length log → log_until n (act ∷ log) ≡ log_until n log
until_longer n act log within =
    if_unmet (nat_le (length log + 1) n) (act ∷ log) (log_until n log)
    (lt-leb (length log + 1) n (omega (arith, within)))

pub until_append : (n : ℕ) (added log : Log) → n ≤ length log → log_until n (added ++ log) ≡ log_until n log
until_append n [] log within = refl
until_append n (act ∷ added) log within =
    until_longer n act (added ++ log) (omega (arith, within, length-append added log))
    ∙ until_append n added log within

pub since_none : (m : ℕ) (log : Log) → length log ≤ m → acts_since m log ≡ []
since_none m [] all = refl
since_none m (act ∷ before) all =
    let fewer : length before + 1 ≤ m = omega (arith, all) in
    if_unmet (nat_le m (length before)) (act ∷ acts_since m before) []
    (lt-leb m (length before) (omega (arith, fewer)))

pub since_longer : (m : ℕ) (act : Act) (log : Log) → m ≤ length log
    → acts_since m (act ∷ log) ≡ act ∷ acts_since m log
since_longer m act log within =
    if_met (nat_le m (length log)) (act ∷ acts_since m log) [] (le-leb m (length log) within)

pub since_append : (added log : Log) → acts_since (length log) (added ++ log) ≡ added
since_append [] log = since_none (length log) log (omega arith)
since_append (act ∷ added) log =
    since_longer (length log) act (added ++ log) (omega (arith, length-append added log))
    ∙ ap (λ (acts : Log). act ∷ acts) (since_append added log)

-- the stretch that was added
pub stretch_added : (added log : Log) → stretch (length log) (length (added ++ log)) (added ++ log) ≡ added
stretch_added added log =
    ap (acts_since (length log)) (until_all (added ++ log)) ∙ since_append added log

pub since_until : (m : ℕ) (log : Log) → acts_since m log ++ log_until m log ≡ log
since_until m [] = refl
since_until m (act ∷ before) =
    elim (cases_Bool (nat_le m (length before))) [
      | inl met ↦
          let short : nat_le (length before + 1) m ≡ false =
          lt-leb (length before + 1) m (omega (arith, leb-true m (length before) met)) in
          ap (λ (acts : Log). acts ++ log_until m (act ∷ before))
          (if_met (nat_le m (length before)) (act ∷ acts_since m before) [] met)
          ∙ ap (λ (log : Log). act ∷ (acts_since m before ++ log))
          (if_unmet (nat_le (length before + 1) m) (act ∷ before) (log_until m before) short)
          ∙ ap (λ (log : Log). act ∷ log) (since_until m before)
      | inr unmet ↦
          let long : nat_le (length before + 1) m ≡ true =
          le-leb (length before + 1) m (omega (arith, leb-false m (length before) unmet)) in
          ap (λ (acts : Log). acts ++ log_until m (act ∷ before))
          (if_unmet (nat_le m (length before)) (act ∷ acts_since m before) [] unmet)
          ∙ if_met (nat_le (length before + 1) m) (act ∷ before) (log_until m before) long
    ]

pub until_until : (m n : ℕ) (log : Log) → m ≤ n → log_until m (log_until n log) ≡ log_until m log
until_until m n [] le = refl
until_until m n (act ∷ before) le =
    elim (cases_Bool (nat_le (length before + 1) n)) [
      | inl met ↦
          ap (log_until m) (if_met (nat_le (length before + 1) n) (act ∷ before) (log_until n before) met)
      | inr unmet ↦
          let short : nat_le (length before + 1) m ≡ false =
          lt-leb (length before + 1) m (omega (arith, leb-false (length before + 1) n unmet, le)) in
          ap (log_until m) (if_unmet (nat_le (length before + 1) n) (act ∷ before) (log_until n before) unmet)
          ∙ until_until m n before le
          ∙ sym (if_unmet (nat_le (length before + 1) m) (act ∷ before) (log_until m before) short)
    ]

-- a stretch stands behind the log before it
pub stretch_parts : (m n : ℕ) (log : Log) → m ≤ n → stretch m n log ++ log_until m log ≡ log_until n log
stretch_parts m n log le =
    ap (λ (rest : Log). stretch m n log ++ rest) (sym (until_until m n log le))
    ∙ since_until m (log_until n log)
