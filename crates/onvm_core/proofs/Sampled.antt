-- A core's log with a sample that is mailed and one that is lost, and a sample that counts too many.
use Rattle.std.proofs.Common.{◌≡◌, true, [], ◌∷◌, refl, arith}
use Rattle.onvm_base.specs.declared.ids.RingId.TheVariants.{Output, Mail}
use Rattle.onvm_core.specs.declared.step.Act.TheVariants.{Push, Full}
use Rattle.onvm_core.specs.declared.step.Item.TheVariants.{Buffer, Number}
use Rattle.onvm_core.specs.Logs.{Log}
use Rattle.onvm_core.specs.Samples.{AreSamples, is_sampled, lost_count, mailed_count}
use Rattle.onvm_core.proofs.Crowd.{f, b0, b1, e1, e2}
use Rattle.onvm_core.proofs.HeldSteps.{handled}

abbrev one_handled : Log
one_handled = Push (Output f) (Buffer b0 (handled e1 0)) ∷ []

-- a frame is handled, and a sample of count 1 and time 100 is mailed; another is handled, and the mail ring is full
abbrev pub sampled : Log
sampled =
    Full (Mail f)
    ∷ Push (Output f) (Buffer b1 (handled e2 1))
    ∷ Push (Mail f) (Number 1099511627876)
    ∷ one_handled

pub sampled_are : AreSamples sampled
sampled_are = (tt, (tt, ((refl, omega arith), (tt, tt))))

pub sampled_counts : (mailed_count f sampled ≡ 1) × (lost_count f sampled ≡ 1) × (is_sampled f sampled ≡ true)
sampled_counts = (refl, refl, refl)

-- a sample of count 2 where one frame was handled
pub no_count_too_many : AreSamples (Push (Mail f) (Number 2199023255652) ∷ one_handled) → ⊥
no_count_too_many are = let off : 2 ≡ 1 = are.0.0 in omega (arith, off)
