-- The core that mails samples to a tick role.
use Rattle.std.specs.Prelude.{ℕ, ◌≡◌, ◌<◌, List}
use Rattle.onvm_core.specs.Layouts.{producer}
use Rattle.onvm_board.specs.Tokens.{BoardView, TokenView}
use Rattle.desc_ring.specs.declared.mail.Mail.{Mail}
use Rattle.desc_ring.specs.Arrays.{AreMailTails, mail_of}

-- the core of all functions, and its ends of their mail rings
pub record AreMailed (board : BoardView) (core : TokenView) (mails : List Mail) : Type 0 where
  pub mine : (f : ℕ) → f < board.layout.functions → core.role ≡ producer board.layout (mail_of f)
  pub ends : AreMailTails board mails core
