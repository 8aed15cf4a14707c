-- The pattern of a stretch of a role's log, from where the role stood before it. Nothing else is said of the log
-- before.
use Rattle.std.specs.Prelude.{ℕ, ◌≡◌, ◌⊎◌, [], ◌∷◌, ◌++◌, Some}
use Rattle.onvm_core.specs.declared.entry.Entry.{Entry}
use Rattle.onvm_core.specs.declared.step.Act.{Act}
use Rattle.onvm_core.specs.Blocks.{MayTick}
use Rattle.onvm_core.specs.Handling.{MayHandle}
use Rattle.onvm_core.specs.Logs.{Log, Setting, entry_after}
use Rattle.onvm_core.specs.Receiving.{IsBetween, IsMarkAct, MayReceiveFor, ReceivePhase, done_count, receive_after}
use Rattle.onvm_core.specs.Sending.{MaySend, SendPhase, send_after}

-- Receive roles

abbrev pub receive_phase_from : Setting → ReceivePhase → Log → ReceivePhase
receive_phase_from setting phase [] = phase
receive_phase_from setting phase (act ∷ before) = receive_after setting (receive_phase_from setting phase before) act

abbrev pub MayReceiveIn : Setting → ℕ → ReceivePhase → Act → Type 0
MayReceiveIn setting port phase act =
    (IsBetween phase × IsMarkAct setting port act)
    ⊎ ((e : Entry) × (entry_after setting port (done_count phase) ≡ Some e) × MayReceiveFor setting port e phase act)

abbrev pub ReceivesFrom : Setting → (port : ℕ) → ReceivePhase → Log → Type 0
ReceivesFrom setting port phase [] = Unit {0}
ReceivesFrom setting port phase (act ∷ before) =
    MayReceiveIn setting port (receive_phase_from setting phase before) act × ReceivesFrom setting port phase before

-- Transmit roles

abbrev pub send_phase_from : SendPhase → Log → SendPhase
send_phase_from phase [] = phase
send_phase_from phase (act ∷ before) = send_after (send_phase_from phase before) act

abbrev pub SendsFrom : Setting → (role : ℕ) → SendPhase → Log → Type 0
SendsFrom setting role phase [] = Unit {0}
SendsFrom setting role phase (act ∷ before) =
    MaySend setting role (send_phase_from phase before) act × SendsFrom setting role phase before

-- Cores: where one stands its whole log tells

abbrev pub HandlesFrom : Setting → (role : ℕ) → (earlier added : Log) → Type 0
HandlesFrom setting role earlier [] = Unit {0}
HandlesFrom setting role earlier (act ∷ before) =
    MayHandle setting role (before ++ earlier) act × HandlesFrom setting role earlier before

-- The tick role

abbrev pub TicksOn : Setting → Log → Type 0
TicksOn setting [] = Unit {0}
TicksOn setting (act ∷ before) = MayTick setting act × TicksOn setting before
