-- The ticks of a serial run, whose moments the number of its rounds tells.
use Rattle.std.specs.Prelude.{ℕ, zero, suc, ◌≡◌, ◌+◌, ◌-◌, ◌*◌, ◌^◌, ◌<◌, ◌≤◌, ◌&&◌, nat_lt, nat_le, if◌then◌else◌, List, [], ◌∷◌, ◌++◌, length, Some, slice_get}
use Rattle.onvm_base.specs.declared.plan.Plan.{Plan}
use Rattle.onvm_core.specs.Places.{how_many}
use Rattle.load_estimate.specs.declared.sample.Sample.{Sample}
use Rattle.load_estimate.specs.declared.tick.Tick.{Tick}
use Rattle.onvm_promises.specs.Ticks.{last_number}
use Rattle.onvm_session.specs.Moments.{moment_of_round}

abbrev pub last_of_moments : ℕ → List ℕ → ℕ
last_of_moments first [] = first
last_of_moments first (m ∷ ms) = last_of_moments m ms

-- the moments of the ticks of so many rounds: of each round that is at least the tick's span after the last one
abbrev pub due_moments : (tick rounds : ℕ) → List ℕ
due_moments tick zero = []
due_moments tick (suc k) =
    if nat_le tick (moment_of_round k - last_of_moments 0 (due_moments tick k))
    && nat_lt (length (due_moments tick k) + 1) last_number
    then due_moments tick k ++ moment_of_round k ∷ [] else due_moments tick k

abbrev pub moments_of : List Tick → List ℕ
moments_of [] = []
moments_of (t ∷ ts) = t.moment ∷ moments_of ts

-- how many samples have a moment up to this one
abbrev pub logged_by : List Sample → ℕ → ℕ
logged_by samples moment = how_many (λ s. nat_le s.moment moment) samples

-- those of the rounds, and one more, of the last round, that closes the run. Where moments aren't cut off, they tell
-- which
-- samples a tick counts
pub record AreSerialTicks (plan : Plan) (rounds : ℕ) (samples : List Sample) (ticks : List Tick) : Type 0 where
  pub moments : moments_of ticks ≡ due_moments plan.tick rounds ++ moment_of_round (rounds - 1) ∷ []
  pub taken : 1000 * rounds < 2 ^ 64 → (at : ℕ) (t : Tick) → slice_get ticks at ≡ Some t
      → t.taken ≡ logged_by samples t.moment

-- Between two turns

-- up to a moment, each tick counts the samples whose moment is up to its own
abbrev pub AreTakenBy : List Sample → (bound : ℕ) → List Tick → Type 0
AreTakenBy samples bound [] = Unit {0}
AreTakenBy samples bound (t ∷ ts) =
    (t.taken ≡ logged_by samples t.moment) × (t.moment ≤ bound) × AreTakenBy samples bound ts

-- so many rounds had a pass of the tick role
pub record AreSerialTicksSoFar (plan : Plan) (rounds : ℕ) (samples : List Sample) (ticks : List Tick) : Type 0 where
  pub moments : moments_of ticks ≡ due_moments plan.tick rounds
  pub none_before : rounds ≡ 0 → samples ≡ []
  pub taken : 1000 * rounds < 2 ^ 64 → AreTakenBy samples (moment_of_round (rounds - 1)) ticks
