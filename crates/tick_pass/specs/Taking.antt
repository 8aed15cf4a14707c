-- What the taking of samples adds to the tick role's log.
use Rattle.std.specs.Prelude.{ℕ, ◌≡◌, ◌<◌, ◌≤◌, Bool, true, [], ◌∷◌, ◌++◌, List, length}
use Rattle.onvm_base.specs.declared.ids.FnId.{FnId}
use Rattle.onvm_base.specs.declared.ids.RingId.TheVariants.{Mail}
use Rattle.onvm_base.specs.declared.limits.TheConstants.{MAIL_RING}
use Rattle.onvm_core.specs.declared.step.Act.{Act}
use Rattle.onvm_core.specs.declared.step.Act.TheVariants.{Pop, Empty}
use Rattle.onvm_core.specs.declared.step.Item.TheVariants.{Number}
use Rattle.onvm_core.specs.Logs.{Log}
use Rattle.onvm_core.specs.Places.{how_many}
use Rattle.onvm_board.specs.Tokens.{TokenView, grown}
use Rattle.load_estimate.specs.declared.sample.Sample.{Sample}
use Rattle.onvm_promises.specs.Kept.{kept_now, samples_by}
use Rattle.onvm_promises.specs.Passes.{IsDrained, is_pop_of, ran_dry}

-- a try of the mail ring of a function that passes the test
pub data IsTake (may : FnId → Type 0) : Act → Type 0 where
  ASample : (f : FnId) (n : ℕ) → may f → IsTake may (Pop (Mail f) (Number n))
  NoSample : (f : FnId) → may f → IsTake may (Empty (Mail f))

abbrev pub AreTakes : (FnId → Type 0) → Log → Type 0
AreTakes may [] = Unit {0}
AreTakes may (act ∷ before) = IsTake may act × AreTakes may before

-- the token tried mail rings, and what it took at this moment was logged
pub record IsTaking (may : FnId → Type 0) (now : ℕ) (added : Log) (before after : TokenView)
    (samples all : List Sample) : Type 0 where
  pub grew : after ≡ grown added before.hand before
  pub takes : AreTakes may added
  pub told : all ≡ samples ++ kept_now samples_by now added

-- samples in the order of their functions, the first not before this one
abbrev pub AreInOrder : (f : ℕ) → List Sample → Type 0
AreInOrder f [] = Unit {0}
AreInOrder f (sample ∷ samples) = (f ≤ sample.function.0) × AreInOrder sample.function.0 samples

-- n samples of one function were taken, and then its ring ran dry, where it is said so
pub record HasTaken (f : FnId) (now n : ℕ) (dry : Bool) (before after : TokenView)
    (samples all : List Sample) : Type 0 where
  pub added : Log
  pub taking : IsTaking (λ g. g ≡ f) now added before after samples all
  pub count : how_many (is_pop_of (Mail f)) added ≡ n
  pub dries : dry ≡ true → ran_dry (Mail f) added ≡ true

-- the mail rings of the functions below `upto` were drained, of n samples
pub record HasTakenAll (upto now n : ℕ) (before after : TokenView) (samples all : List Sample) : Type 0 where
  pub added : Log
  pub taking : IsTaking (λ g. g.0 < upto) now added before after samples all
  pub count : length (kept_now samples_by now added) ≡ n
  pub ordered : AreInOrder 0 (kept_now samples_by now added)
  pub drained : (f : FnId) → f.0 < upto → IsDrained (Mail f) MAIL_RING added
