-- The plan of the tests, and the core of their board.
use Rattle.std.specs.Prelude.{ℕ, ◌≡◌, ◌+◌, ◌<◌, false, List, [], ◌∷◌}
use Rattle.onvm_base.specs.declared.function.FunctionPlan.{FunctionPlan}
use Rattle.onvm_base.specs.declared.function.Kind.TheVariants.{Forward}
use Rattle.onvm_base.specs.declared.plan.Plan.{Plan}
use Rattle.onvm_core.specs.Layouts.{producer}
use Rattle.onvm_board.specs.Tokens.{BoardView, TokenView}
use Rattle.desc_ring.specs.declared.mail.Mail.{Mail}
use Rattle.desc_ring.specs.Arrays.{AreMailTails, mail_of}
use Rattle.tick_pass.specs.declared.role.TickRole.{TickRole}
use Rattle.tick_pass.specs.Roles.{IsTickRole}

-- a function that forwards, whose name is the digit of its service
abbrev pub function_of : (service priority : ℕ) → FunctionPlan
function_of service priority =
    record {
      name = (48 + service) ∷ [];
      service = service;
      core = 0;
      kind = Forward;
      priority = priority;
      weight = 1024;
      cost = 100;
    }

abbrev pub two_functions : List FunctionPlan
two_functions = function_of 1 1 ∷ function_of 2 3 ∷ []

-- one role of each kind, and those functions
pub record IsSmall (plan : Plan) : Type 0 where
  pub ports : plan.ports ≡ 1
  pub transmit : plan.transmit ≡ 1
  pub cores : plan.cores ≡ 1
  pub functions : plan.functions ≡ two_functions

-- a board of that plan, its first token, the token of its core, the core's ends of the mail rings, and a tick role that
-- isn't closed
pub record IsDesk (plan : Plan) (board : BoardView) (first core : TokenView) (mails : List Mail) (token : TokenView)
    (role : TickRole) : Type 0 where
  pub two : board.layout.functions ≡ 2
  pub first_board : first.board ≡ board.id
  pub mine : (f : ℕ) → f < 2 → core.role ≡ producer board.layout (mail_of f)
  pub ends : AreMailTails board mails core
  pub role_is : IsTickRole board plan false token role
