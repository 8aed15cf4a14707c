-- Acts that are none of a marks pass leave a feeder where it stands.
use Rattle.std.proofs.Common.{◌≡◌, ℕ, [], ◌∷◌, refl}
use Rattle.onvm_base.specs.declared.ids.FnId.{FnId}
use Rattle.onvm_base.specs.declared.ids.RingId.TheVariants.{Lane}
use Rattle.onvm_core.specs.declared.layout.Word.TheVariants.{Cell}
use Rattle.onvm_core.specs.declared.step.Act.{Act}
use Rattle.onvm_core.specs.declared.step.Act.TheVariants.{Look, Post}
use Rattle.onvm_core.specs.Logs.{Log, Setting}
use Rattle.onvm_core.specs.Marks.{Ages, IsPaid, IsResting, MarkPhase, MayMark, events_in, mark_after}
use Rattle.onvm_core.specs.Marks.MarkPhase.{AtRest, InPass}
use Rattle.onvm_promises.specs.Acts.{AreBlockSteps, AreMoveSteps, IsBlockStep, IsMoveStep}
use Rattle.onvm_promises.specs.Acts.IsBlockStep.{AnAsk, ASeek, ATake, APush as BlockPush, AFull as BlockFull, AGive as BlockGive}
use Rattle.onvm_promises.specs.Acts.IsMoveStep.{APop, AnEmpty, APush, AFull, AGive}

-- no look at a lane, and no post
abbrev pub IsUnmarked : Act → Type 0
IsUnmarked (Look (Cell (Lane f p) at) seen told) = ⊥
IsUnmarked (Post word value) = ⊥
IsUnmarked act = Unit {0}

abbrev pub AreUnmarked : Log → Type 0
AreUnmarked [] = Unit {0}
AreUnmarked (act ∷ before) = IsUnmarked act × AreUnmarked before

pub mark_stands : (setting : Setting) (feeder : ℕ) (before : Log) (phase : MarkPhase) (act : Act) → IsUnmarked act
    → mark_after setting feeder before phase act ≡ phase
mark_stands setting feeder before phase (Look (Cell (Lane f p) at) seen told) un = absurd un
mark_stands setting feeder before phase (Post word value) un = absurd un
mark_stands setting feeder before (AtRest events) act un = refl
mark_stands setting feeder before (InPass next later found events) act un = refl

-- they may follow where no pass is unfinished and no post is owed
pub may_unmarked : (setting : Setting) (feeder : ℕ) (aged : Ages) (before : Log) (phase : MarkPhase) (act : Act)
    → IsUnmarked act → IsResting phase → IsPaid aged (events_in phase) → MayMark setting feeder aged before phase act
may_unmarked setting feeder aged before phase (Look (Cell (Lane f p) at) seen told) un rests paid = absurd un
may_unmarked setting feeder aged before phase (Post word value) un rests paid = absurd un
may_unmarked setting feeder aged before (AtRest events) act un rests paid = paid
may_unmarked setting feeder aged before (InPass next later found events) act un rests paid = absurd rests

move_unmarked : (may : FnId → Type 0) (act : Act) → IsMoveStep may act → IsUnmarked act
move_unmarked may act (APop g item is) = tt
move_unmarked may act (AnEmpty g is) = tt
move_unmarked may act (APush g p item) = tt
move_unmarked may act (AFull g p) = tt
move_unmarked may act (AGive buf outcome parcel) = tt

pub moves_unmarked : (may : FnId → Type 0) (moves : Log) → AreMoveSteps may moves → AreUnmarked moves
moves_unmarked may [] are = tt
moves_unmarked may (act ∷ moves) are = (move_unmarked may act are.0, moves_unmarked may moves are.1)

block_unmarked : (act : Act) → IsBlockStep act → IsUnmarked act
block_unmarked act (AnAsk feeder seen told) = tt
block_unmarked act (ASeek port index seen told) = tt
block_unmarked act (ATake buf) = tt
block_unmarked act (BlockPush f feeder item) = tt
block_unmarked act (BlockFull f feeder) = tt
block_unmarked act (BlockGive buf outcome parcel) = tt

pub blocks_unmarked : (blocks : Log) → AreBlockSteps blocks → AreUnmarked blocks
blocks_unmarked [] are = tt
blocks_unmarked (act ∷ blocks) are = (block_unmarked act are.0, blocks_unmarked blocks are.1)
