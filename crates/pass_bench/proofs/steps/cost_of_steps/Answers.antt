use Rattle.std.proofs.Common.{refl}
use Rattle.pass_bench.proofs.steps.cost_of_steps.Goals as goal

pub loop-preserved : goal.loop-preserved
loop-preserved g c = record {
  enters = c.in_ok-enter_all.ensures.enters c.if-not-branch.false;
  first = c.if-not-handle_all.ensures.handles refl;
  mover = c.if-not-move_all.ensures.moves refl;
  second = c.if-not-handle_all-2.ensures.handles refl;
  sender = c.if-not-send_all.ensures.sends refl;
}
