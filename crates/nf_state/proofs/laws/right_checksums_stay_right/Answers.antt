use Rattle.nf_state.proofs.RightChecksums.{right_heads_stay, right_sums_stay}
use Rattle.nf_state.proofs.laws.right_checksums_stay_right.Goals as goal

pub returns-clause-head : goal.returns-clause-head
returns-clause-head c = right_heads_stay

pub returns-clause-sum : goal.returns-clause-sum
returns-clause-sum c = right_sums_stay
