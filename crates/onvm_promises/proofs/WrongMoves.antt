-- Wrong passes that leave work behind: a receive role leaves frames though its burst isn't full, a transmit role leaves
-- parcels and the tick role samples though their ring isn't found empty. And ticks that come too early, or not at all.
use Rattle.std.proofs.Common.{◌≡◌, ℕ, ◌+◌, ◌^◌, ◌<◌, Bool, true, false, inl, inr, List, [], ◌∷◌, ◌++◌, length, refl, sym, ◌∙◌, ap, arith, length-append}
use Rattle.std.specs.Prelude.{◌||◌, ◌≢◌, min}
use Rattle.std.proofs.lemmas.Bool.{cases_Bool}
use Rattle.std.proofs.lemmas.List.{append-nil}
use Rattle.onvm_base.specs.declared.ids.RingId.{RingId}
use Rattle.onvm_base.specs.declared.ids.RingId.TheVariants.{Output, Mail}
use Rattle.onvm_base.specs.declared.ids.FnId.{FnId}
use Rattle.onvm_base.specs.declared.limits.TheConstants.{MAIL_RING}
use Rattle.onvm_base.specs.declared.outcome.Outcome.TheVariants.{Sent}
use Rattle.onvm_core.specs.declared.step.Act.TheVariants.{Empty, Give, Pop}
use Rattle.onvm_core.specs.declared.step.Act.{Act}
use Rattle.onvm_core.specs.declared.step.Item.TheVariants.{Buffer, Number}
use Rattle.onvm_core.specs.Layouts.{same_ring}
use Rattle.onvm_core.specs.Logs.{Log, Setting, entries_of_port}
use Rattle.onvm_core.specs.Marks.{Ages}
use Rattle.onvm_core.specs.Places.{how_many}
use Rattle.onvm_core.specs.Receiving.{done_count, receive_phase}
use Rattle.onvm_core.specs.Sending.{Reads}
use Rattle.onvm_core.proofs.Once.{how_many-append}
use Rattle.onvm_core.proofs.Crowd.{b0, e1, f}
use Rattle.onvm_core.proofs.HeldSteps.{handled}
use Rattle.onvm_core.proofs.WalkLogs as one_frame
use Rattle.load_estimate.specs.declared.sample.Sample.{Sample}
use Rattle.load_estimate.specs.declared.tick.Tick.{Tick}
use Rattle.onvm_promises.specs.declared.pass.Pass.{Pass}
use Rattle.onvm_promises.specs.Acts.{AreMarkSteps, IsMarkStep}
use Rattle.onvm_promises.specs.Acts.IsMarkStep.{ALook, APost}
use Rattle.onvm_promises.specs.Answers.{is_complete}
use Rattle.onvm_promises.specs.Passes.{IsReceivePass, IsSendPass, IsTickPass, dry_after, is_pop_of, ran_dry}
use Rattle.onvm_promises.specs.Roles.{IsTickPromise}
use Rattle.onvm_promises.proofs.ExampleHeld as held
use Rattle.onvm_promises.specs.Ticks.{is_due, tick_at}

-- A receive role handles one frame though more are there and a burst is more

min_above : (n a b : ℕ) → n < a → n < b → n < min a b
min_above n a b below_a below_b = omega (arith, below_a, below_b)

pub stops_at_one : (setting : Setting) (port : ℕ) (aged : Ages) (before added : Log)
    → 1 < setting.plan.burst
    → done_count (receive_phase setting before) + 1 < length (entries_of_port port setting.entries)
    → done_count (receive_phase setting (added ++ before)) ≡ done_count (receive_phase setting before) + 1
    → ¬ IsReceivePass setting port aged before added
stops_at_one setting port aged before added more left one pass =
    omega (
      arith,
      min_above (done_count (receive_phase setting before) + 1)
          (done_count (receive_phase setting before) + setting.plan.burst)
          (length (entries_of_port port setting.entries))
          (omega (arith, more))
          left,
      one,
      pass.count,
    )

-- A ring isn't drained: fewer pops than asked for, and the newest try of it was a pop

-- no step of a marks pass pops

mark_pops_nothing : (setting : Setting) (feeder : ℕ) (ring : RingId) (act : Act) → IsMarkStep setting feeder act
    → is_pop_of ring act ≡ false
mark_pops_nothing setting feeder ring act (ALook g at seen known within) = refl
mark_pops_nothing setting feeder ring act (APost value) = refl

marks_pop_nothing : (setting : Setting) (feeder : ℕ) (ring : RingId) (marks : Log) → AreMarkSteps setting feeder marks
    → how_many (is_pop_of ring) marks ≡ 0
marks_pop_nothing setting feeder ring [] are = refl
marks_pop_nothing setting feeder ring (act ∷ marks) are =
    rw (mark_pops_nothing setting feeder ring act are.0, marks_pop_nothing setting feeder ring marks are.1) refl

dry_step : (ring : RingId) (act : Act) (was now : Bool) → (was ≡ true → now ≡ true) → dry_after ring act was ≡ true
    → dry_after ring act now ≡ true
dry_step ring (Pop r item) was now later dry =
    elim (cases_Bool (same_ring r ring)) [
      | inl hit ↦ rw hit (rw hit at dry)
      | inr miss ↦ rw miss (later (rw miss at dry))
    ]
dry_step ring (Empty r) was now later dry =
    elim (cases_Bool (same_ring r ring)) [
      | inl hit ↦ rw hit refl
      | inr miss ↦ rw miss (later (rw miss at dry))
    ]
dry_step ring act was now later dry = later dry

-- what older acts found makes no difference once a ring was found empty
still_dry : (ring : RingId) (newer older : Log) → ran_dry ring newer ≡ true → ran_dry ring (newer ++ older) ≡ true
still_dry ring [] older dry = absurd (let off : false ≡ true = dry in cc)
still_dry ring (act ∷ newer) older dry =
    dry_step ring act (ran_dry ring newer) (ran_dry ring (newer ++ older)) (still_dry ring newer older) dry

-- A transmit role leaves parcels in an output ring

pub leaves_parcels : (setting : Setting) (role : ℕ) (f : FnId) (aged : Ages) (before added : Log)
    → Reads setting role f → how_many (is_pop_of (Output f)) added < setting.plan.burst
    → ran_dry (Output f) added ≡ false
    → ¬ IsSendPass setting role aged before added
leaves_parcels setting role f aged before added reads few wet pass =
    let popped : how_many (is_pop_of (Output f)) added ≡ how_many (is_pop_of (Output f)) pass.moves
    = ap (how_many (is_pop_of (Output f))) pass.parts
    ∙ omega (
      arith,
      how_many-append (is_pop_of (Output f)) pass.moves pass.marks,
      marks_pop_nothing setting role (Output f) pass.marks pass.pass.marks,
    ) in
    let dry : ran_dry (Output f) pass.moves ≡ true
    = (pass.drained f reads).fewer (omega (arith, few, popped)) in
    let off : false ≡ true = sym wet ∙ ap (ran_dry (Output f)) pass.parts
    ∙ still_dry (Output f) pass.moves pass.marks dry in
    cc

-- with a burst of two it pops one, sends it, and looks no further
not_one_of_two : (aged : Ages)
    → ¬ IsSendPass held.setting 1 aged []
    (Give b0 (Sent 0) (handled e1 0) ∷ Pop (Output f) (Buffer b0 (handled e1 0)) ∷ [])
not_one_of_two aged =
    leaves_parcels held.setting 1 f aged []
    (Give b0 (Sent 0) (handled e1 0) ∷ Pop (Output f) (Buffer b0 (handled e1 0)) ∷ [])
    (record { known = omega arith; consumes = refl }) (omega arith) refl

-- The tick role leaves samples in a mail ring

pub leaves_samples : (setting : Setting) (role : ℕ) (f : FnId) (before added : Log) → f.0 < setting.layout.functions
    → how_many (is_pop_of (Mail f)) added < MAIL_RING → ran_dry (Mail f) added ≡ false
    → ¬ IsTickPass setting role before added
leaves_samples setting role f before added known few wet pass =
    let off : false ≡ true = sym wet ∙ (pass.drained f known).fewer few in cc

-- it takes one sample and looks no further
not_one_sample : ¬ IsTickPass one_frame.setting 3 [] (Pop (Mail f) (Number (2 ^ 40 + 100)) ∷ [])
not_one_sample =
    leaves_samples one_frame.setting 3 f [] (Pop (Mail f) (Number (2 ^ 40 + 100)) ∷ []) (omega arith) (omega arith) refl

-- Ticks

-- where none is due, and the pass closes no run, none is made
pub ticks_early : (setting : Setting) (role first now : ℕ) (moment : ℕ → ℕ) (before after : Log)
    (samples : List Sample) (ticks ticks_now : List Tick) (answer : Pass)
    → is_due setting.plan first now ticks ≡ false → ticks_now ≢ ticks
    → ¬ IsTickPromise setting role first now false moment before after samples ticks ticks_now answer
ticks_early setting role first now moment before after samples ticks ticks_now answer early more promise =
    elim (cases_Bool (is_complete answer)) [
      | inl done ↦ more ((rw (done, early) at promise.ticked) ∙ append-nil ticks)
      | inr cut ↦ more ((rw cut at promise.ticked) ∙ append-nil ticks)
    ]

-- a nanosecond before the first
not_at_9999999 : (moment : ℕ → ℕ) (before after : Log) (samples : List Sample) (tick : Tick) (answer : Pass)
    → ¬ IsTickPromise one_frame.setting 3 0 9999999 false moment before after samples [] (tick ∷ []) answer
not_at_9999999 moment before after samples tick answer =
    ticks_early one_frame.setting 3 0 9999999 moment before after samples [] (tick ∷ []) answer refl
    (λ e. let off : ◌≡◌ {A = List Tick} (tick ∷ []) [] = e in cc)

-- where one is due it is made, and by the pass that closes the run in any case
pub leaves_out_a_tick : (setting : Setting) (role first now : ℕ) (closing : Bool) (moment : ℕ → ℕ)
    (before after : Log) (samples : List Sample) (ticks : List Tick) (answer : Pass)
    → is_complete answer ≡ true → (closing || is_due setting.plan first now ticks) ≡ true
    → ¬ IsTickPromise setting role first now closing moment before after samples ticks ticks answer
leaves_out_a_tick setting role first now closing moment before after samples ticks answer done due promise =
    let longer : ticks ≡ ticks ++ tick_at setting.plan ticks samples now ∷ [] = rw (done, due) at promise.ticked in
    omega (
      arith,
      ap (λ (all : List Tick). length all) longer,
      length-append ticks (tick_at setting.plan ticks samples now ∷ []),
    )
