use Rattle.std.proofs.Common.{arith}
use Rattle.pass_bench.proofs.ticks.busy.Goals as goal

pub loop-pass-preserved : goal.loop-pass-preserved
loop-pass-preserved g c =
    let is = c.pass-done.ensures in
    record {
      mailed = is.mailed;
      role = is.role;
      later = omega (arith, is.latest, c.saturating_add-now.ensures, c.loop-pass.invariant.top);
      top = omega (arith, c.saturating_add-now.ensures);
    }
