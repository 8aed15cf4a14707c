-- The pattern of a stretch goes on the pattern before it.
use Rattle.std.proofs.Common.{◌≡◌, ℕ, [], ◌∷◌, ◌++◌, refl, sym, ap, subst, append_assoc}
use Rattle.onvm_core.specs.Blocks.{IsOfBlocks, MayFollow, kind_of}
use Rattle.onvm_core.specs.Blocks.RoleKind.{Handles, Receives, Sends, Ticks}
use Rattle.onvm_core.specs.Handling.{MayHandle}
use Rattle.onvm_core.specs.Logs.{Log, Setting}
use Rattle.onvm_core.specs.Receiving.{ReceivePhase, receive_after, receive_phase}
use Rattle.onvm_core.specs.Sending.{MaySend, SendPhase, send_after, send_phase}
use Rattle.onvm_promises.specs.Follows.{HandlesFrom, MayReceiveIn, ReceivesFrom, SendsFrom, TicksOn, receive_phase_from, send_phase_from}

-- Receive roles

pub receive_phase_is : (setting : Setting) (added before : Log)
    → receive_phase setting (added ++ before) ≡ receive_phase_from setting (receive_phase setting before) added
receive_phase_is setting [] before = refl
receive_phase_is setting (act ∷ added) before =
    ap (λ p. receive_after setting p act) (receive_phase_is setting added before)

pub receive_phase_append : (setting : Setting) (phase : ReceivePhase) (added more : Log)
    → receive_phase_from setting phase (more ++ added)
    ≡ receive_phase_from setting (receive_phase_from setting phase added) more
receive_phase_append setting phase added [] = refl
receive_phase_append setting phase added (act ∷ more) =
    ap (λ p. receive_after setting p act) (receive_phase_append setting phase added more)

pub receives_append : (setting : Setting) (port : ℕ) (phase : ReceivePhase) (added more : Log)
    → ReceivesFrom setting port phase added
    → ReceivesFrom setting port (receive_phase_from setting phase added) more
    → ReceivesFrom setting port phase (more ++ added)
receives_append setting port phase added [] first second = first
receives_append setting port phase added (act ∷ more) first second = (
  subst (λ p. MayReceiveIn setting port p act) (sym (receive_phase_append setting phase added more)) second.0,
  receives_append setting port phase added more first second.1,
)

pub receives_follow : (setting : Setting) (port : ℕ) (added before : Log) → kind_of setting.layout port ≡ Receives
    → IsOfBlocks setting port before → ReceivesFrom setting port (receive_phase setting before) added
    → IsOfBlocks setting port (added ++ before)
receives_follow setting port [] before kind blocks follows = blocks
receives_follow setting port (act ∷ added) before kind blocks follows = (
  subst (λ k. MayFollow setting port k (added ++ before) act) (sym kind)
      (subst (λ p. MayReceiveIn setting port p act) (sym (receive_phase_is setting added before)) follows.0),
  receives_follow setting port added before kind blocks follows.1,
)

-- Transmit roles

pub send_phase_is : (added before : Log) → send_phase (added ++ before) ≡ send_phase_from (send_phase before) added
send_phase_is [] before = refl
send_phase_is (act ∷ added) before = ap (λ p. send_after p act) (send_phase_is added before)

pub send_phase_append : (phase : SendPhase) (added more : Log)
    → send_phase_from phase (more ++ added) ≡ send_phase_from (send_phase_from phase added) more
send_phase_append phase added [] = refl
send_phase_append phase added (act ∷ more) = ap (λ p. send_after p act) (send_phase_append phase added more)

pub sends_append : (setting : Setting) (role : ℕ) (phase : SendPhase) (added more : Log)
    → SendsFrom setting role phase added → SendsFrom setting role (send_phase_from phase added) more
    → SendsFrom setting role phase (more ++ added)
sends_append setting role phase added [] first second = first
sends_append setting role phase added (act ∷ more) first second = (
  subst (λ p. MaySend setting role p act) (sym (send_phase_append phase added more)) second.0,
  sends_append setting role phase added more first second.1,
)

pub sends_follow : (setting : Setting) (role : ℕ) (added before : Log) → kind_of setting.layout role ≡ Sends
    → IsOfBlocks setting role before → SendsFrom setting role (send_phase before) added
    → IsOfBlocks setting role (added ++ before)
sends_follow setting role [] before kind blocks follows = blocks
sends_follow setting role (act ∷ added) before kind blocks follows = (
  subst (λ k. MayFollow setting role k (added ++ before) act) (sym kind)
      (subst (λ p. MaySend setting role p act) (sym (send_phase_is added before)) follows.0),
  sends_follow setting role added before kind blocks follows.1,
)

-- Cores

pub handles_append : (setting : Setting) (role : ℕ) (earlier added more : Log)
    → HandlesFrom setting role earlier added → HandlesFrom setting role (added ++ earlier) more
    → HandlesFrom setting role earlier (more ++ added)
handles_append setting role earlier added [] first second = first
handles_append setting role earlier added (act ∷ more) first second = (
  subst (λ log. MayHandle setting role log act) (sym (append_assoc more added earlier)) second.0,
  handles_append setting role earlier added more first second.1,
)

pub handles_follow : (setting : Setting) (role : ℕ) (added before : Log) → kind_of setting.layout role ≡ Handles
    → IsOfBlocks setting role before → HandlesFrom setting role before added
    → IsOfBlocks setting role (added ++ before)
handles_follow setting role [] before kind blocks follows = blocks
handles_follow setting role (act ∷ added) before kind blocks follows = (
  subst (λ k. MayFollow setting role k (added ++ before) act) (sym kind) follows.0,
  handles_follow setting role added before kind blocks follows.1,
)

-- The tick role

pub ticks_append : (setting : Setting) (added more : Log) → TicksOn setting added → TicksOn setting more
    → TicksOn setting (more ++ added)
ticks_append setting added [] first second = first
ticks_append setting added (act ∷ more) first second = (second.0, ticks_append setting added more first second.1)

pub ticks_follow : (setting : Setting) (role : ℕ) (added before : Log) → kind_of setting.layout role ≡ Ticks
    → IsOfBlocks setting role before → TicksOn setting added
    → IsOfBlocks setting role (added ++ before)
ticks_follow setting role [] before kind blocks follows = blocks
ticks_follow setting role (act ∷ added) before kind blocks follows = (
  subst (λ k. MayFollow setting role k (added ++ before) act) (sym kind) follows.0,
  ticks_follow setting role added before kind blocks follows.1,
)
