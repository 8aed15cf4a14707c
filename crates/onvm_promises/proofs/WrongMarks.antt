-- Wrong feeders: one never throttles though it finds high and low in time, and one throttles before the time.
use Rattle.std.proofs.Common.{◌≡◌, ℕ, zero, suc, ◌<◌, true, false, inl, inr, [], ◌∷◌, ◌++◌, refl, sym, ◌∙◌, arith, None}
use Rattle.onvm_base.specs.declared.ids.RingId.TheVariants.{Lane}
use Rattle.onvm_base.specs.declared.limits.TheConstants.{LAST_POST}
use Rattle.onvm_base.specs.declared.outcome.Outcome.TheVariants.{RingFull}
use Rattle.onvm_core.specs.declared.layout.Word.TheVariants.{Pool as PoolWord, Cell, Post as PostWord}
use Rattle.onvm_core.specs.declared.step.Act.TheVariants.{Take, Give, Full, Look}
use Rattle.onvm_core.specs.Logs.{Log, Setting, entry_parcel}
use Rattle.onvm_core.specs.Marks.{Ages, IsSettled, has_bit, is_throttled, last_post, mark_events, posts_so_far}
use Rattle.onvm_core.proofs.Crowd.{port, f, b2, e3}
use Rattle.onvm_core.proofs.Marked.{no_bit as no_bits}
use Rattle.onvm_promises.specs.declared.pass.Pass.{Pass}
use Rattle.onvm_promises.specs.Kept.{FeederKeeps, moment_then}
use Rattle.onvm_promises.specs.Passes.{IsMarksPass}
use Rattle.onvm_promises.specs.Rests.{IsSettledFeeder}
use Rattle.onvm_promises.specs.Roles.{IsReceivePromise}
use Rattle.onvm_promises.specs.Times.{aged_by}
use Rattle.onvm_promises.proofs.ExampleAges.{at_first, held_log, young}
use Rattle.onvm_promises.proofs.ExampleHeld.{entered, found, only_first, raising, setting}

-- A feeder never throttles though high is found old enough

-- in whatever log: a function is throttled, its bit isn't posted, and there is a number left for a post
pub never_throttles : (setting : Setting) (feeder f : ℕ) (aged : Ages) (log : Log)
    → is_throttled aged f (mark_events setting feeder log) ≡ true
    → has_bit (last_post (mark_events setting feeder log)) f ≡ false
    → posts_so_far (mark_events setting feeder log) < LAST_POST
    → ¬ IsSettledFeeder setting feeder aged log
never_throttles setting feeder f aged log throttled unset more settled =
    elim settled.paid [
      | inl same ↦ let off : false ≡ true = sym unset ∙ same f ∙ throttled in cc
      | inr last ↦ omega (arith, more, last)
    ]

-- the looks of the example's second pass find both marks, and no post follows
abbrev looks : Log
looks = Look (Cell (Lane f 0) 1) 2 None ∷ Look (Cell (Lane f 0) 0) 1 None ∷ []

-- the third frame isn't held: it finds the lane full
abbrev passed_by : Log
passed_by =
    Give b2 (RingFull (Lane f 0)) (entry_parcel e3)
    ∷ Full (Lane f 0)
    ∷ Take b2
    ∷ Look (PoolWord port 0) 4 None
    ∷ Look (PostWord 1) 0 None
    ∷ Look (PostWord 0) 0 None
    ∷ looks

-- whatever is kept and answered, no pass at 1,000 promises so
not_without_a_post : (keeps : FeederKeeps) (answer : Pass)
    → ¬ IsReceivePromise setting 0 1000 at_first entered (passed_by ++ entered) keeps answer
not_without_a_post keeps answer promise =
    never_throttles setting 0 0 (aged_by setting 0 (moment_then at_first 10 1000) (passed_by ++ entered))
    (passed_by ++ entered) refl refl (omega arith) promise.so_far.rests.feeder

-- A feeder throttles without the time

late_bits : (aged : Ages) → aged 0 0 ≡ false → IsSettled aged found
late_bits aged late zero = sym (rw late refl)
late_bits aged late (suc k) = no_bits (suc k) ∙ sym (only_first aged k)

-- the same looks, and a post that raises the mark
pub not_too_early : (aged : Ages) → aged 0 0 ≡ false → ¬ IsMarksPass setting 0 aged entered raising
not_too_early aged late pass = pass.settled.marked.0.unsettled (late_bits aged late)

-- a nanosecond before the age no pass promises so, whatever is kept and answered
not_at_999 : (keeps : FeederKeeps) (answer : Pass)
    → ¬ IsReceivePromise setting 0 999 at_first entered held_log keeps answer
not_at_999 keeps answer promise =
    promise.so_far.rests.feeder.marked.1.0.unsettled
    (late_bits (aged_by setting 0 (moment_then at_first 10 999) held_log) young)
