-- What the first token of a board, and a closed board, tell of a session.
use Rattle.std.specs.Prelude.{ℕ, [], ◌++◌, slice_index_or}
use Rattle.onvm_core.specs.declared.step.Act.TheVariants.{Split}
use Rattle.onvm_board.specs.Closing.{ClosedView}
use Rattle.onvm_board.specs.Tokens.{TokenView, token_after, token_after_join}
use Rattle.onvm_session.specs.Views.{FinalView, closing_look, splits}

-- the view of the first token
abbrev pub view_of_token : TokenView → FinalView
view_of_token token =
    record { lead = token.log; logs = λ role. slice_index_or token.logs role []; counts = token.counts }

-- the view that a closed board keeps
abbrev pub view_of_closed : ClosedView → FinalView
view_of_closed closed =
    record { lead = closed.log; logs = λ role. slice_index_or closed.logs role []; counts = closed.counts }

-- the first token after a turn of a role: its split, the join of its token, and a look at pool word 0 of port 0
abbrev pub token_after_turn : (role seen : ℕ) → (other token : TokenView) → TokenView
token_after_turn role seen other token =
    token_after (closing_look seen) (token_after_join (token_after (Split role) token) other)

-- the first token after the split of all roles below n
abbrev pub token_after_splits : (n : ℕ) → TokenView → TokenView
token_after_splits n token = record token { log = splits n 0 ++ token.log }
