-- The pattern's part on feeders: a marks pass stands before a feeder's first block or pop, and since its latest one
-- stand at most a burst of blocks, or of pops from each output ring.
use Rattle.std.specs.Prelude.{ℕ, ◌+◌, ◌<◌, ◌≤◌, Bool, true, false, ◌==◌, if◌then◌else◌, List, [], ◌∷◌}
use Rattle.onvm_base.specs.declared.ids.RingId.TheVariants.{Lane, Output}
use Rattle.onvm_core.specs.declared.layout.Word.TheVariants.{Cell, Post as PostWord}
use Rattle.onvm_core.specs.declared.step.Act.{Act}
use Rattle.onvm_core.specs.declared.step.Act.TheVariants.{Pop, Look}
use Rattle.onvm_core.specs.Logs.{Setting, Log}
use Rattle.onvm_core.specs.Receiving.{ReceivePhase, receive_phase}
use Rattle.onvm_core.specs.Receiving.ReceivePhase.{Between}
use Rattle.onvm_core.specs.Marks.{MarkLook, looks_left, looks_of_pass, mark_phase}

-- a count since the latest marks pass. A pass without a look leaves no trace, so one may be thought here, and the count
-- begins anew
abbrev pub since_thought_pass : List MarkLook → ℕ → ℕ
since_thought_pass [] n = 0
since_thought_pass (look ∷ looks) n = n

-- the same after a look, the first of those left: with the last one the pass ends
abbrev pub since_ended_pass : List MarkLook → ℕ → ℕ
since_ended_pass [] n = n
since_ended_pass (look ∷ []) n = 0
since_ended_pass (look ∷ next ∷ later) n = n

-- how many blocks a receive role began since its latest marks pass: a block begins with a look at a post word

abbrev pub begins_block : ReceivePhase → Act → Bool
begins_block (Between done) (Look (PostWord feeder) seen told) = true
begins_block phase act = false

abbrev pub blocks_after : Setting → ℕ → Act → Log → ℕ → ℕ
blocks_after setting port (Look (Cell (Lane f p) at) seen told) before n =
    since_ended_pass (looks_left setting port before (mark_phase setting port before)) n
blocks_after setting port act before n =
    if begins_block (receive_phase setting before) act
    then since_thought_pass (looks_of_pass setting port before) n + 1
    else n

abbrev pub blocks_since_pass : Setting → ℕ → Log → ℕ
blocks_since_pass setting port [] = 0
blocks_since_pass setting port (act ∷ before) =
    blocks_after setting port act before (blocks_since_pass setting port before)

-- how many descriptors a transmit role popped from a function's output ring since its latest marks pass

abbrev pub pops_after : Setting → ℕ → ℕ → Act → Log → ℕ → ℕ
pops_after setting feeder f (Look (Cell (Lane g p) at) seen told) before n =
    since_ended_pass (looks_left setting feeder before (mark_phase setting feeder before)) n
pops_after setting feeder f (Pop (Output g) item) before n =
    since_thought_pass (looks_of_pass setting feeder before) n + (if g.0 == f then 1 else 0)
pops_after setting feeder f act before n = n

abbrev pub pops_since_pass : Setting → ℕ → ℕ → Log → ℕ
pops_since_pass setting feeder f [] = 0
pops_since_pass setting feeder f (act ∷ before) =
    pops_after setting feeder f act before (pops_since_pass setting feeder f before)

-- at every moment
abbrev pub IsPacedAt : Setting → ℕ → Log → Type 0
IsPacedAt setting feeder log =
    (feeder < setting.layout.ports → blocks_since_pass setting feeder log ≤ setting.plan.burst)
    × ((f : ℕ) → pops_since_pass setting feeder f log ≤ setting.plan.burst)

abbrev pub IsPaced : Setting → ℕ → Log → Type 0
IsPaced setting feeder [] = Unit {0}
IsPaced setting feeder (act ∷ before) = IsPacedAt setting feeder (act ∷ before) × IsPaced setting feeder before
