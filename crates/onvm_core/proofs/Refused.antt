-- Acts that the pattern of a log refuses, one for each of its parts that no law needs.
use Rattle.std.proofs.Common.{◌≡◌, ℕ, ◌<◌, suc, [], ◌∷◌, refl, arith, Some, None}
use Rattle.onvm_base.specs.declared.ids.RingId.TheVariants.{Lane, Output}
use Rattle.onvm_base.specs.declared.outcome.Outcome.TheVariants.{Sent, Dropped}
use Rattle.onvm_base.specs.declared.outcome.Why.TheVariants.{Asked}
use Rattle.onvm_core.specs.declared.layout.Word.TheVariants.{Cell, Post as PostWord, Weight}
use Rattle.onvm_core.specs.declared.step.Act.{Act}
use Rattle.onvm_core.specs.declared.step.Act.TheVariants.{Take, Give, Push, Pop, Look}
use Rattle.onvm_core.specs.declared.step.Item.TheVariants.{Buffer}
use Rattle.onvm_core.specs.Logs.{Log, Hand, entry_parcel}
use Rattle.onvm_core.specs.Receiving.{MayReceiveFor}
use Rattle.onvm_core.specs.Receiving.ReceivePhase.{Between, Sees}
use Rattle.onvm_core.specs.Handling.{MayHandle, SawRoom, budget}
use Rattle.onvm_core.specs.Handling.SawRoom.{ByLook, Since}
use Rattle.onvm_core.specs.Sending.{MaySend}
use Rattle.onvm_core.specs.Sending.SendPhase.{Moves}
use Rattle.onvm_core.proofs.Plans.{hasty, smallest}
use Rattle.onvm_core.proofs.Crowd.{setting, f, b0, b1, e1, e3}
use Rattle.onvm_core.proofs.Held.{raises_f}
use Rattle.onvm_core.proofs.HeldSteps.{handled}

-- A receive role

-- takes no other buffer than that of the lowest bit
pub no_higher_bit : MayReceiveFor setting 0 e1 (Sees 0 0 7) (Take b1) → ⊥
no_higher_bit may = may.lowest 0 (omega arith) (λ h. let off : 1 ≡ 0 = h in absurd (omega (arith, off)))

-- pushes nothing before its take
pub no_early_push : MayReceiveFor setting 0 e1 (Sees 0 0 7) (Push (Lane f 0) (Buffer b0 (entry_parcel e1))) → ⊥
no_early_push may = may

-- doesn't pass a post with a bit of the frame's chain
pub no_passing_by : MayReceiveFor setting 0 e3 (Between 2) (Look (PostWord 0) 4294967297 None) → ⊥
no_passing_by may = may.1 0 raises_f

-- A core

-- what it may pop after a look at the weight word of value 0, 512, and 2 to the 20th
pub budgets : (budget smallest f 0 ≡ 32) × (budget smallest f 512 ≡ 16) × (budget smallest f 1 ≡ 1)
    × (budget smallest f 1048576 ≡ 1024) × (budget hasty f 0 ≡ 1)
budgets = (refl, refl, refl, refl, refl)

-- how many looks at output cells a log has
abbrev looks : Log → ℕ
looks [] = 0
looks (Look (Cell ring at) seen told ∷ before) = suc (looks before)
looks (act ∷ before) = looks before

more : (act : Act) (before : Log) → 0 < looks before → 0 < looks (act ∷ before)
more (Look (Cell ring at) seen told) before some = omega arith
more act before some = some

saw_some : (log : Log) → SawRoom setting f log → 0 < looks log
saw_some log (ByLook before) = omega arith
saw_some log (Since act before apart saw) = more act before (saw_some before saw)

-- pops nothing before it saw room
pub no_blind_pop : MayHandle setting 2 (Look (Weight f) 0 None ∷ []) (Pop (Lane f 0) (Buffer b0 (entry_parcel e1))) → ⊥
no_blind_pop may = omega (arith, saw_some (Look (Weight f) 0 None ∷ []) may.room)

-- pops nothing before it looked at the weight word
pub no_pop_on_credit : MayHandle setting 2 (Look (Cell (Output f) 0) 0 None ∷ [])
    (Pop (Lane f 0) (Buffer b0 (entry_parcel e1)))
    → ⊥
no_pop_on_credit may = omega (arith, may.left)

-- pops nothing while it has a parcel in hand
pub no_second_pop : (log : Log)
    → MayHandle setting 2 (Pop (Lane f 0) (Buffer b0 (entry_parcel e1)) ∷ log)
    (Pop (Lane f 0) (Buffer b1 (entry_parcel e1)))
    → ⊥
no_second_pop log may =
    let off : Some (record { function = f; buf = 0; parcel = entry_parcel e1 }) ≡ None = may.free in cc

-- gives nothing back
pub no_give : (log : Log) → MayHandle setting 2 log (Give b0 (Sent 0) (entry_parcel e1)) → ⊥
no_give log may = may

-- A transmit role

abbrev in_hand : Hand
in_hand = record { function = f; buf = 0; parcel = handled e1 0 }

-- drops nothing for a cause that isn't the move's: the verdict was Next
pub no_false_drop : MaySend setting 1 (Moves in_hand) (Give b0 (Dropped f Asked) (handled e1 0)) → ⊥
no_false_drop may = absurd (cc)
