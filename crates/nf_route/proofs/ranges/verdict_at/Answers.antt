use Rattle.std.proofs.Common.{refl}
use Rattle.nf_route.proofs.Ranging.{point_in}
use Rattle.nf_route.proofs.ranges.verdict_at.Goals as goal

pub overflow_sub-result : goal.overflow_sub-result
overflow_sub-result c = (point_in _ _ _ c.requires c.count_up_to.ensures.bound c.count_up_to.ensures.point).0

pub returns : goal.returns
returns c = (_, _, (point_in _ _ _ c.requires c.count_up_to.ensures.bound c.count_up_to.ensures.point).1 _, refl)
