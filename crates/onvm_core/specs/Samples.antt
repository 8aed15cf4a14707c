-- The samples that a core mails: each counts the frames that were handled since the one before.
use Rattle.std.specs.Prelude.{ℕ, ◌≡◌, ◌+◌, ◌/◌, ◌^◌, ◌<◌, Bool, true, false, ◌==◌, if◌then◌else◌, [], ◌∷◌}
use Rattle.onvm_base.specs.declared.ids.FnId.{FnId}
use Rattle.onvm_base.specs.declared.ids.RingId.TheVariants.{Output, Mail}
use Rattle.onvm_core.specs.declared.step.Act.{Act}
use Rattle.onvm_core.specs.declared.step.Act.TheVariants.{Push, Full}
use Rattle.onvm_core.specs.declared.step.Item.TheVariants.{Number}
use Rattle.onvm_core.specs.Logs.{Log}

-- a sample is count times 2^40 plus time
abbrev pub count_in : ℕ → ℕ
count_in sample = sample / 2 ^ 40

abbrev pub unsampled_count_after : FnId → Act → ℕ → ℕ
unsampled_count_after f (Push (Output g) item) n = if g.0 == f.0 then n + 1 else n
unsampled_count_after f (Push (Mail g) item) n = if g.0 == f.0 then 0 else n
unsampled_count_after f (Full (Mail g)) n = if g.0 == f.0 then 0 else n
unsampled_count_after f _ n = n

-- how many frames the function handled since its last sample, mailed or lost
abbrev pub unsampled_count : FnId → Log → ℕ
unsampled_count f [] = 0
unsampled_count f (act ∷ before) = unsampled_count_after f act (unsampled_count f before)

abbrev pub mailed_count_after : FnId → Act → ℕ → ℕ
mailed_count_after f (Push (Mail g) (Number n)) sum = if g.0 == f.0 then count_in n + sum else sum
mailed_count_after f _ sum = sum

-- the counts of the function's mailed samples together
abbrev pub mailed_count : FnId → Log → ℕ
mailed_count f [] = 0
mailed_count f (act ∷ before) = mailed_count_after f act (mailed_count f before)

abbrev pub lost_count_after : FnId → Act → (since sum : ℕ) → ℕ
lost_count_after f (Full (Mail g)) since sum = if g.0 == f.0 then since + sum else sum
lost_count_after f _ since sum = sum

-- the frames of the samples that met a full mail ring together
abbrev pub lost_count : FnId → Log → ℕ
lost_count f [] = 0
lost_count f (act ∷ before) = lost_count_after f act (unsampled_count f before) (lost_count f before)

-- a sample counts the frames since the last one, and there are some
abbrev pub MaySample : Log → Act → Type 0
MaySample before (Push (Mail f) (Number n)) = (count_in n ≡ unsampled_count f before) × (0 < unsampled_count f before)
MaySample before _ = Unit {0}

abbrev pub AreSamples : Log → Type 0
AreSamples [] = Unit {0}
AreSamples (act ∷ before) = MaySample before act × AreSamples before

abbrev pub sampled_after : FnId → Act → Bool → Bool
sampled_after f (Push (Output g) item) was = if g.0 == f.0 then false else was
sampled_after f (Push (Mail g) item) was = if g.0 == f.0 then true else was
sampled_after f (Full (Mail g)) was = if g.0 == f.0 then true else was
sampled_after f _ was = was

-- after the last push on the function's output ring stands a sample, mailed or lost
abbrev pub is_sampled : FnId → Log → Bool
is_sampled f [] = true
is_sampled f (act ∷ before) = sampled_after f act (is_sampled f before)
