-- Wrong cores: one mails no sample in a pass that handled a frame, one serves a lane twice in a row, and one ends a
-- function's service though budget, room and frames are left.
use Rattle.std.proofs.Common.{◌≡◌, ℕ, eq-eqb, ◌+◌, ◌%◌, ◌*◌, ◌^◌, ◌<◌, Bool, true, false, not, inl, inr, [], ◌∷◌, ◌++◌, refl, sym, ◌∙◌, ap, subst, arith, append_assoc, None}
use Rattle.std.specs.Prelude.{◌==◌, ◌&&◌}
use Rattle.std.proofs.lemmas.Bool.{cases_lt, lt-ltb, ne_eqb}
use Rattle.std.proofs.lemmas.Nat.{mod_below}
use Rattle.std.proofs.Math.Nat.{mod-add-mod, mod-eq_of_lt, mod_self}
use Rattle.onvm_base.specs.declared.ids.FnId.{FnId}
use Rattle.onvm_base.specs.declared.ids.RingId.TheVariants.{Lane, Output, Mail}
use Rattle.onvm_core.specs.declared.layout.Word.TheVariants.{Cell, Weight}
use Rattle.onvm_core.specs.declared.step.Act.{Act}
use Rattle.onvm_core.specs.declared.step.Act.TheVariants.{Empty, Look, Pop, Push}
use Rattle.onvm_core.specs.declared.step.Item.{Item}
use Rattle.onvm_core.specs.declared.step.Item.TheVariants.{Buffer, Number}
use Rattle.onvm_base.specs.declared.plan.Plan.{Plan}
use Rattle.onvm_core.specs.Handling.{budget_left, is_push_on}
use Rattle.onvm_core.specs.Layouts.{feeder_count}
use Rattle.onvm_core.specs.Logs.{Log, Setting, entry_parcel}
use Rattle.onvm_core.specs.Places.{how_many, one_if}
use Rattle.onvm_core.specs.Samples.{AreSamples}
use Rattle.onvm_core.proofs.Once.{how_many-append}
use Rattle.onvm_core.proofs.Crowd.{b0, b1, e1, e2, f}
use Rattle.onvm_core.proofs.HeldSteps.{handled}
use Rattle.onvm_core.proofs.Steps.{◌◂◌}
use Rattle.onvm_promises.specs.Passes.{EndsBarred, EndsWithEmpties, HasOneSample, IsServed, is_mailed}
use Rattle.onvm_promises.specs.Passes.EndsBarred.{ABar}
use Rattle.onvm_promises.specs.Passes.EndsWithEmpties.{NoEmpty, OneEmpty}
use Rattle.onvm_promises.specs.Rests.{AreTries, MayTry, is_try}
use Rattle.onvm_promises.specs.Sampling.{AreEven}
use Rattle.onvm_promises.proofs.ExampleHeld as held

-- A core mails one sample at the end of the run instead of one a pass

-- a pass with a frame handled, and without a sample
pub mails_nothing : (f : FnId) (added : Log) → 0 < how_many (is_push_on (Output f)) added
    → how_many (is_mailed f) added ≡ 0
    → ¬ HasOneSample f added
mails_nothing f added some none has =
    let one : how_many (is_mailed f) added ≡ 1
    = has ∙ ap one_if (lt-ltb 0 (how_many (is_push_on (Output f)) added) some) in
    omega (arith, one, none)

-- two passes with a frame each, and behind them a sample of two frames
abbrev mails_late : Log
mails_late =
    Push (Mail f) (Number (2 * 2 ^ 40 + 100))
    ∷ Push (Output f) (Buffer b1 (handled e2 1))
    ∷ Look (Weight f) 0 None
    ∷ Push (Output f) (Buffer b0 (handled e1 0))
    ∷ Look (Weight f) 0 None
    ∷ []

-- it counts what was handled since the last one
late_sample_counts : AreSamples mails_late
late_sample_counts = (refl, omega arith) ◂ tt ◂ tt ◂ tt ◂ tt ◂ tt

-- but between the looks at the weight word there is none
not_late : ¬ AreEven f mails_late
not_late even = let off : 0 ≡ 1 = even.1.1.0 refl in omega (arith, off)

-- A core serves one lane alone

step_apart : (k n : ℕ) → 1 < n → k % n ≡ (k + 1) % n → ⊥
step_apart k n some same =
    let below : k % n < n = mod_below k n (omega (arith, some)) in
    let next : (k % n + 1) % n ≡ k % n = mod-add-mod k n 1 ∙ sym same in
    elim (cases_lt (k % n + 1) n) [
      | inl less ↦ omega (arith, next, mod-eq_of_lt less)
      | inr least ↦
          let whole : k % n + 1 ≡ n = omega (arith, below, least) in
          let zero_is : k % n ≡ 0 = sym next ∙ ap (λ (a : ℕ). a % n) whole ∙ mod_self n in
          omega (arith, whole, zero_is, some)
    ]

older : (setting : Setting) (newer log : Log) → AreTries setting (newer ++ log) → AreTries setting log
older setting [] log are = are
older setting (act ∷ newer) log are = older setting newer log are.1

-- a pop from a function's lane, or a look into it that finds it empty
pub data IsTryOf (f : FnId) (p : ℕ) : Act → Type 0 where
  ByPop : (item : Item) → IsTryOf f p (Pop (Lane f p) item)
  ByEmpty : IsTryOf f p (Empty (Lane f p))

try_counts : (f : FnId) (p : ℕ) (act : Act) → IsTryOf f p act → is_try f act ≡ true
try_counts f p act (ByPop item) = eq-eqb f.0 f.0 refl
try_counts f p act ByEmpty = eq-eqb f.0 f.0 refl

try_is_due : (setting : Setting) (before : Log) (f : FnId) (p : ℕ) (act : Act) → IsTryOf f p act
    → MayTry setting before act
    → p ≡ how_many (is_try f) before % feeder_count setting.layout
try_is_due setting before f p act (ByPop item) may = may
try_is_due setting before f p act ByEmpty may = may

-- two tries of a function next to one another aren't of one lane, where there are more
pub no_lane_twice : (setting : Setting) (f : FnId) (p : ℕ) (act other : Act) (between before : Log)
    → 1 < feeder_count setting.layout → IsTryOf f p act → IsTryOf f p other → how_many (is_try f) between ≡ 0
    → ¬ AreTries setting (act ∷ (between ++ other ∷ before))
no_lane_twice setting f p act other between before more again first none are =
    let earlier : p ≡ how_many (is_try f) before % feeder_count setting.layout
    = try_is_due setting before f p other first (older setting between (other ∷ before) are.1).0 in
    let now : p ≡ how_many (is_try f) (between ++ other ∷ before) % feeder_count setting.layout
    = try_is_due setting (between ++ other ∷ before) f p act again are.0 in
    let count : how_many (is_try f) (between ++ other ∷ before) ≡ how_many (is_try f) before + 1
    = omega (
      arith,
      how_many-append (is_try f) between (other ∷ before),
      none,
      ap one_if (try_counts f p other first),
    ) in
    step_apart (how_many (is_try f) before) (feeder_count setting.layout) more
    (sym earlier ∙ now ∙ ap (λ (n : ℕ). n % feeder_count setting.layout) count)

-- A core ends a function's service before its budget is spent, with room, and a lane not found empty

-- a look that finds no room, or a lane that is found empty
abbrev pub may_end : FnId → Act → Bool
may_end f (Empty (Lane g p)) = g.0 == f.0
may_end f (Look (Cell (Output g) at) seen told) = (g.0 == f.0) && not (seen == 0)
may_end f _ = false

-- after each of the acts something is left of the budget
abbrev pub AlwaysLeft : Plan → FnId → Log → Log → Type 0
AlwaysLeft plan f before [] = Unit {0}
AlwaysLeft plan f before (act ∷ added) =
    (0 < budget_left plan f (act ∷ (added ++ before))) × AlwaysLeft plan f before added

left_older : (plan : Plan) (f : FnId) (before newer log : Log) → AlwaysLeft plan f before (newer ++ log)
    → AlwaysLeft plan f before log
left_older plan f before [] log left = left
left_older plan f before (act ∷ newer) log left = left_older plan f before newer log left.1

left_at : (plan : Plan) (f : FnId) (before service : Log) (act : Act) (earlier : Log)
    → AlwaysLeft plan f before (service ++ act ∷ earlier)
    → 0 < budget_left plan f ((service ++ act ∷ earlier) ++ before)
left_at plan f before [] act earlier left = left.0
left_at plan f before (x ∷ service) act earlier left = left.0

barred_may_end : (f : FnId) (log : Log) → EndsBarred f log → 0 < how_many (may_end f) log
barred_may_end f log (ABar g at seen told before same some) =
    rw (eq-eqb g.0 f.0 same, ne_eqb seen 0 some) (omega arith)

empties_may_end : (f : FnId) (n : ℕ) (log : Log) → 0 < n → EndsWithEmpties f n log → 0 < how_many (may_end f) log
empties_may_end f n log some (NoEmpty other) = absurd (omega (arith, some))
empties_may_end f n log some (OneEmpty g feeder m before same more) = rw (eq-eqb g.0 f.0 same) (omega arith)

-- whatever the look at the weight word shows
pub leaves_early : (setting : Setting) (f : FnId) (before added : Log) → 0 < feeder_count setting.layout
    → how_many (may_end f) added ≡ 0 → AlwaysLeft setting.plan f before added
    → ¬ IsServed setting f before added
leaves_early setting f before added some none left served =
    let look : Act = Look (Weight f) served.seen None in
    let parts : added ≡ served.later ++ (served.service ++ look ∷ served.earlier)
    = served.parts ∙ append_assoc served.later served.service (look ∷ served.earlier) in
    let here : AlwaysLeft setting.plan f before (served.service ++ look ∷ served.earlier)
    = left_older setting.plan f before served.later (served.service ++ look ∷ served.earlier)
    (subst (AlwaysLeft setting.plan f before) parts left) in
    let spell : (served.service ++ look ∷ served.earlier) ++ before
    ≡ (served.service ++ look ∷ []) ++ (served.earlier ++ before)
    = append_assoc served.service (look ∷ served.earlier) before
    ∙ sym (append_assoc served.service (look ∷ []) (served.earlier ++ before)) in
    let unspent : 0 < budget_left setting.plan f ((served.service ++ look ∷ []) ++ (served.earlier ++ before))
    = subst (λ (log : Log). 0 < budget_left setting.plan f log) spell
    (left_at setting.plan f before served.service look served.earlier here) in
    let whole : added ≡ (served.later ++ (served.service ++ look ∷ [])) ++ served.earlier
    = parts ∙ ap (λ (log : Log). served.later ++ log) (sym (append_assoc served.service (look ∷ []) served.earlier))
    ∙ sym (append_assoc served.later (served.service ++ look ∷ []) served.earlier) in
    let few : how_many (may_end f) (served.service ++ look ∷ []) ≡ 0
    = omega (
      arith,
      none,
      ap (how_many (may_end f)) whole,
      how_many-append (may_end f) (served.later ++ (served.service ++ look ∷ [])) served.earlier,
      how_many-append (may_end f) served.later (served.service ++ look ∷ []),
    ) in
    elim served.ends [
      | inl spent ↦ omega (arith, spent, unspent)
      | inr (inl barred) ↦ omega (arith, few, barred_may_end f (served.service ++ look ∷ []) barred)
      | inr (inr dry) ↦ omega (
        arith,
        few,
        empties_may_end f (feeder_count setting.layout) (served.service ++ look ∷ []) some dry,
      )
    ]

-- with a budget of two it handles one frame, mails its sample, and leaves
abbrev serves_one : Log
serves_one =
    Push (Mail f) (Number (2 ^ 40 + 100))
    ∷ Push (Output f) (Buffer b0 (handled e1 0))
    ∷ Pop (Lane f 0) (Buffer b0 (entry_parcel e1))
    ∷ Look (Cell (Output f) 0) 0 None
    ∷ Look (Weight f) 0 None
    ∷ []

not_one_of_the_budget : ¬ IsServed held.setting f [] serves_one
not_one_of_the_budget =
    leaves_early held.setting f [] serves_one (omega arith) refl
    (omega arith ◂ omega arith ◂ omega arith ◂ omega arith ◂ omega arith ◂ tt)
