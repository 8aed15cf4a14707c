use Rattle.load_estimate.proofs.Order.{IsNonDecreasing-in_order, IsPermutation-in_order}
use Rattle.load_estimate.proofs.laws.times_are_put_in_order.Goals as goal

pub returns-clause-rise : goal.returns-clause-rise
returns-clause-rise c = IsNonDecreasing-in_order

pub returns-clause-same : goal.returns-clause-same
returns-clause-same c = IsPermutation-in_order
