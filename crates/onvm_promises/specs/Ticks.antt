-- The ticks of a run: when one is made, and over which samples.
use Rattle.std.specs.Prelude.{ℕ, ◌≡◌, ◌+◌, ◌-◌, ◌^◌, ◌<◌, ◌≤◌, Bool, ◌==◌, ◌&&◌, ◌||◌, nat_lt, nat_le, if◌then◌else◌, List, [], ◌∷◌, ◌++◌, length, take}
use Rattle.onvm_base.specs.declared.ids.FnId.{FnId}
use Rattle.onvm_base.specs.declared.plan.Plan.{Plan}
use Rattle.onvm_core.specs.declared.layout.Word.TheVariants.{Weight}
use Rattle.onvm_core.specs.declared.step.Act.{Act}
use Rattle.onvm_core.specs.declared.step.Act.TheVariants.{Post}
use Rattle.onvm_core.specs.Logs.{Log}
use Rattle.load_estimate.specs.declared.sample.Sample.{Sample}
use Rattle.load_estimate.specs.declared.tick.Tick.{Tick}
use Rattle.onvm_promises.specs.Lines.{lines_of, weights_posted}

-- When a tick is made

-- the last tick's moment, or where there is none this first one
abbrev pub last_moment : ℕ → List Tick → ℕ
last_moment first [] = first
last_moment first (tick ∷ ticks) = last_moment tick.moment ticks

-- no tick that was due has this number
abbrev pub last_number : ℕ
last_number = 2 ^ 32 - 1

abbrev pub is_due : Plan → (first now : ℕ) → List Tick → Bool
is_due plan first now ticks =
    nat_le plan.tick (now - last_moment first ticks) && nat_lt (length ticks + 1) last_number

-- the tick that comes next, over all samples
abbrev pub tick_at : Plan → List Tick → List Sample → (now : ℕ) → Tick
tick_at plan ticks samples now =
    record {
      number = length ticks + 1;
      moment = now;
      taken = length samples;
      lines = lines_of plan ticks samples now;
    }

-- the ticks that a pass of the tick role makes: one where the pass closes the run, or one is due
abbrev pub new_ticks : Plan → (first now : ℕ) → (closing : Bool) → List Sample → List Tick → List Tick
new_ticks plan first now closing samples ticks =
    if closing || is_due plan first now ticks then tick_at plan ticks samples now ∷ [] else []

-- Weights

abbrev pub weight_posts : FnId → Act → List ℕ
weight_posts f (Post (Weight g) value) = if g.0 == f.0 then value ∷ [] else []
weight_posts f _ = []

-- the weights posted on a function's word, in order
abbrev pub weights_in : FnId → Log → List ℕ
weights_in f [] = []
weights_in f (act ∷ before) = weights_in f before ++ weight_posts f act

-- these acts post just the weights of these ticks
abbrev pub PostsWeights : (functions : ℕ) → List Tick → Log → Type 0
PostsWeights functions ticks log = (f : FnId) → f.0 < functions → weights_in f log ≡ weights_posted f.0 ticks

-- Samples

-- moments never fall, and the first is not before this one
abbrev pub NeverFall : ℕ → List Sample → Type 0
NeverFall moment [] = Unit {0}
NeverFall moment (sample ∷ samples) = (moment ≤ sample.moment) × NeverFall sample.moment samples

-- each sample's moment is at most this
abbrev pub AllUpTo : ℕ → List Sample → Type 0
AllUpTo now [] = Unit {0}
AllUpTo now (sample ∷ samples) = (sample.moment ≤ now) × AllUpTo now samples

-- Ticks

-- behind the earlier ones each tick has its number and its lines, over the samples that were taken by then
abbrev pub AreTicks : Plan → List Sample → (earlier ticks : List Tick) → Type 0
AreTicks plan samples earlier [] = Unit {0}
AreTicks plan samples earlier (tick ∷ ticks) =
    (tick.number ≡ length earlier + 1)
    × (tick.taken ≤ length samples)
    × (tick.lines ≡ lines_of plan earlier (take tick.taken samples) tick.moment)
    × AreTicks plan samples (earlier ++ tick ∷ []) ticks

-- at least so far apart, the first from this moment
abbrev pub AreApart : (tick first : ℕ) → List Tick → Type 0
AreApart span first [] = Unit {0}
AreApart span first (tick ∷ ticks) = (first + span ≤ tick.moment) × AreApart span tick.moment ticks

-- none counts fewer samples than the one before
abbrev pub TakenRise : ℕ → List Tick → Type 0
TakenRise taken [] = Unit {0}
TakenRise taken (tick ∷ ticks) = (taken ≤ tick.taken) × TakenRise tick.taken ticks

-- between two passes of the tick role
pub record AreTicksSoFar (plan : Plan) (functions first : ℕ) (samples : List Sample) (ticks : List Tick)
    (log : Log) : Type 0 where
  pub are : AreTicks plan samples [] ticks
  pub apart : AreApart plan.tick first ticks
  pub rise : TakenRise 0 ticks
  pub posted : PostsWeights functions ticks log

-- of a whole run: ticks that were due, and one that closes the run and counts all samples
pub record AreAllTicks (plan : Plan) (functions first : ℕ) (samples : List Sample) (ticks : List Tick)
    (log : Log) : Type 0 where
  pub made : List Tick
  pub closing : Tick
  pub parts : ticks ≡ made ++ closing ∷ []
  pub are : AreTicks plan samples [] ticks
  pub apart : AreApart plan.tick first made
  pub later : last_moment first made ≤ closing.moment
  pub rise : TakenRise 0 ticks
  pub all : closing.taken ≡ length samples
  pub posted : PostsWeights functions ticks log
