-- What the answer of a pass tells.
use Rattle.std.specs.Prelude.{ℕ, ◌≡◌, ◌<◌, ◌⊎◌, Bool, true, false, length}
use Rattle.onvm_base.specs.declared.ids.FnId.{FnId}
use Rattle.onvm_base.specs.declared.ids.RingId.TheVariants.{Lane, Output}
use Rattle.onvm_core.specs.declared.step.Act.{Act}
use Rattle.onvm_core.specs.declared.step.Act.TheVariants.{Push, Pop}
use Rattle.onvm_core.specs.Handling.{IsOwn}
use Rattle.onvm_core.specs.Logs.{Log, Setting, entries_of_port}
use Rattle.onvm_core.specs.Places.{how_many}
use Rattle.onvm_core.specs.Receiving.{done_count, receive_phase}
use Rattle.onvm_core.specs.Sending.{Reads}
use Rattle.onvm_promises.specs.declared.pass.Pass.{Pass}
use Rattle.onvm_promises.specs.declared.pass.Pass.TheVariants.{Did, Idle, Wanting, Stopped}
use Rattle.onvm_promises.specs.Passes.{ran_dry, saw_full}
use Rattle.onvm_core.specs.Layouts.{feeder_count}

-- the pass wasn't cut short
abbrev pub is_complete : Pass → Bool
is_complete (Did n) = true
is_complete Idle = true
is_complete Wanting = false
is_complete Stopped = false

-- the answer tells this number of frames with a block, handled or moved, or of samples and ticks. Idle comes only without
-- one, where there was nothing to do, and Stopped only of a role that may stop
abbrev pub Tells : Pass → ℕ → (idle may_stop : Type 0) → Type 0
Tells (Did n) work idle may_stop = (0 < n) × (n ≡ work)
Tells Idle work idle may_stop = (work ≡ 0) × idle
Tells Wanting work idle may_stop = Unit {0}
Tells Stopped work idle may_stop = may_stop

-- a frame was handled, by a core; and one was moved, by a transmit role

abbrev pub is_handled : Act → Bool
is_handled (Push (Output f) item) = true
is_handled _ = false

abbrev pub is_moved : Act → Bool
is_moved (Pop (Output f) item) = true
is_moved _ = false

-- There was nothing to do

-- no frame of the port is left without a block
abbrev pub IsIdleReceiver : Setting → (port : ℕ) → Log → Type 0
IsIdleReceiver setting port log =
    done_count (receive_phase setting log) ≡ length (entries_of_port port setting.entries)

-- each output ring that the role reads was found empty
abbrev pub IsIdleSender : Setting → (role : ℕ) → Log → Type 0
IsIdleSender setting role added = (f : FnId) → Reads setting role f → ran_dry (Output f) added ≡ true

-- of each function of the core the output ring was found full, or each lane empty
abbrev pub IsIdleCore : Setting → (role : ℕ) → Log → Type 0
IsIdleCore setting role added = (f : FnId) → IsOwn setting role f
    → (0 < how_many (saw_full f) added)
    ⊎ ((feeder : ℕ) → feeder < feeder_count setting.layout → ran_dry (Lane f feeder) added ≡ true)
