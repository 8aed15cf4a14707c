-- What all roles keep, together, and in order of ports and numbers.
use Rattle.std.specs.Prelude.{ℕ, zero, suc, ◌≡◌, ◌<◌, ◌⊎◌, Bool, List, [], ◌++◌, Some, slice_get}
use Rattle.onvm_base.specs.declared.ids.FrameId.{FrameId}
use Rattle.onvm_core.specs.declared.step.Act.{Act}
use Rattle.onvm_core.specs.Logs.{Log}
use Rattle.onvm_core.specs.Places.{how_many}
use Rattle.onvm_core.specs.Potential.{sum_below}
use Rattle.onvm_promises.specs.Kept.{kept_at}

-- what the roles below n tell, role by role
abbrev pub all_kept : {A : Type 0} → (ℕ → Act → List A) → (ℕ → ℕ → ℕ) → (ℕ → Log) → ℕ → List A
all_kept tells moments logs zero = []
all_kept tells moments logs (suc n) = all_kept tells moments logs n ++ kept_at tells (moments n) (logs n)

-- of what the roles below n tell, how much passes a test
abbrev pub all_told : {A : Type 0} → (A → Bool) → (ℕ → Act → List A) → (ℕ → ℕ → ℕ) → (ℕ → Log) → ℕ → ℕ
all_told test tells moments logs n = sum_below (λ role. how_many test (kept_at tells (moments role) (logs role))) n

-- how many acts of the roles below n pass a test
abbrev pub all_acts : (Act → Bool) → (ℕ → Log) → ℕ → ℕ
all_acts test logs n = sum_below (λ role. how_many test (logs role)) n

abbrev pub ComesBefore : FrameId → FrameId → Type 0
ComesBefore a b = (a.port.0 < b.port.0) ⊎ ((a.port.0 ≡ b.port.0) × (a.number < b.number))

-- each frame's element comes before those of later frames
abbrev pub Ascends : {A : Type 0} → (A → FrameId) → List A → Type 0
Ascends {A} frame list = (i j : ℕ) (x y : A) → i < j → slice_get list i ≡ Some x → slice_get list j ≡ Some y
    → ComesBefore (frame x) (frame y)

-- the list has just the elements of the other, as often, in the order of their frames
pub record IsInOrder {A : Type 0} (frame : A → FrameId) (list told : List A) : Type 0 where
  pub just : (test : A → Bool) → how_many test list ≡ how_many test told
  pub ascends : Ascends frame list
