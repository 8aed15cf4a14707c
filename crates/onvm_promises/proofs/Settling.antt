-- Acts that are none of a marks pass leave a feeder's marks, and the answers on the age, as they were.
use Rattle.std.proofs.Common.{◌≡◌, ℕ, ◌+◌, Bool, true, false, inl, inr, [], ◌∷◌, ◌++◌, length, sym, ap, ◌∙◌, subst, refl, arith}
use Rattle.std.specs.Prelude.{◌==◌, ◌&&◌, nat_le, if◌then◌else◌}
use Rattle.std.proofs.lemmas.Bool.{ne_eqb}
use Rattle.std.proofs.lemmas.Bool.Decides.{eqb_tells}
use Rattle.onvm_core.specs.Logs.{Log, Setting}
use Rattle.onvm_core.specs.Marks.{Ages, AreMarked, IsPaid, IsResting, MarkPhase, events_in, mark_phase, pass_count}
use Rattle.onvm_promises.specs.Rests.{IsSettledFeeder}
use Rattle.onvm_promises.specs.Times.{aged_by, passes_in, reading_time}
use Rattle.onvm_promises.proofs.Unmarked.{AreUnmarked, mark_stands, may_unmarked}

-- Marks

pub mark_phase_same : (setting : Setting) (feeder : ℕ) (added log : Log) → AreUnmarked added
    → mark_phase setting feeder (added ++ log) ≡ mark_phase setting feeder log
mark_phase_same setting feeder [] log un = refl
mark_phase_same setting feeder (act ∷ added) log un =
    mark_stands setting feeder (added ++ log) (mark_phase setting feeder (added ++ log)) act un.0
    ∙ mark_phase_same setting feeder added log un.1

pub marked_still : (setting : Setting) (feeder : ℕ) (aged : Ages) (added log : Log) → AreUnmarked added
    → IsSettledFeeder setting feeder aged log → AreMarked setting feeder aged (added ++ log)
marked_still setting feeder aged [] log un settled = settled.marked
marked_still setting feeder aged (act ∷ added) log un settled =
    let same : mark_phase setting feeder (added ++ log) ≡ mark_phase setting feeder log =
    mark_phase_same setting feeder added log un.1 in (
      may_unmarked setting feeder aged (added ++ log) (mark_phase setting feeder (added ++ log)) act un.0
          (subst IsResting (sym same) settled.ended)
          (subst (λ (p : MarkPhase). IsPaid aged (events_in p)) (sym same) settled.paid),
      marked_still setting feeder aged added log un.1 settled,
    )

-- Answers on the age

and_false : (b : Bool) → (b && false) ≡ false
and_false true = refl
and_false false = refl

never_both : (n pass : ℕ) → ((n == pass) && (n == pass + 1)) ≡ false
never_both n pass = elim (eqb_tells n pass) [
  | inl met ↦ let no : (n == pass + 1) ≡ false = ne_eqb n (pass + 1) (λ e. let same = met.1 in omega
      (arith, e, same)) in
      ap (λ b. (n == pass) && b) no ∙ and_false (n == pass)
  | inr unmet ↦ ap (λ b. b && (n == pass + 1)) unmet.0
]

pub aged_still : (setting : Setting) (feeder : ℕ) (moment : ℕ → ℕ) (added log : Log) → AreUnmarked added
    → (pass f : ℕ) → aged_by setting feeder moment (added ++ log) pass f ≡ aged_by setting feeder moment log pass f
aged_still setting feeder moment [] log un pass f = refl
aged_still setting feeder moment (act ∷ added) log un pass f =
    let n : ℕ = passes_in setting feeder (added ++ log) in
    let same : passes_in setting feeder (act ∷ added ++ log) ≡ n =
    ap (λ (p : MarkPhase). pass_count (events_in p))
    (mark_stands setting feeder (added ++ log) (mark_phase setting feeder (added ++ log)) act un.0) in
    let off : ((n == pass) && (passes_in setting feeder (act ∷ added ++ log) == pass + 1)) ≡ false =
    ap (λ m. (n == pass) && (m == pass + 1)) same ∙ never_both n pass in
    ap (λ (b : Bool). if b
    then nat_le setting.plan.age
    (reading_time setting feeder f (moment (length (added ++ log))) moment (added ++ log))
    else aged_by setting feeder moment (added ++ log) pass f) off
    ∙ aged_still setting feeder moment added log un.1 pass f

-- as the functions that they are
pub aged_moves : (setting : Setting) (feeder : ℕ) (moment : ℕ → ℕ) (added log : Log) → AreUnmarked added
    → aged_by setting feeder moment (added ++ log) ≡ aged_by setting feeder moment log
aged_moves setting feeder moment added log un =
    λ i pass f. (aged_still setting feeder moment added log un pass f) i
