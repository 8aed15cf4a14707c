use Rattle.onvm_board.specs.Rule.{step_of}
use Rattle.onvm_session.proofs.Boarding.{history_of_logs, turn_is}
use Rattle.onvm_session.proofs.laws.the_first_token_has_the_view.Goals as goal
use Rattle.std.proofs.Common.{◌∷◌}

pub returns-clause-turn : goal.returns-clause-turn
returns-clause-turn c = turn_is

pub returns-clause-settled : goal.returns-clause-settled
returns-clause-settled c site act token ends = (
  step_of token.role act ∷ ends.0,
  history_of_logs site.layout token.log token.logs token.counts (step_of token.role act ∷ ends.0) ends.1,
)
