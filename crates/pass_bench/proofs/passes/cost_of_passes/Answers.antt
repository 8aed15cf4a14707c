use Rattle.std.proofs.Common.{refl}
use Rattle.pass_bench.proofs.passes.cost_of_passes.Goals as goal

pub loop-preserved : goal.loop-preserved
loop-preserved g c = record {
  enters = c.in_ok-bring.ensures.enters c.if-not-branch.false;
  first = c.in_ok-bring.ensures.handles c.if-not-branch.false;
  mover = c.pass_twice.ensures.sends;
  second = c.if-not-handle_all.ensures.handles refl;
  sender = c.pass_twice-in-loop.ensures.sends;
}
