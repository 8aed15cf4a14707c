use Rattle.std.proofs.Common.{◌≤◌, false}
use Rattle.tick_pass.specs.Roles.{IsTickRole, latest_of}
use Rattle.pass_bench.specs.Ticks.{AreMailed}
use Rattle.pass_bench.proofs.ticks.busy.Given as goal

abbrev pub invariant-loop-pass : goal.invariant-loop-pass
invariant-loop-pass g l = record {
  mailed : AreMailed l.desk.board l.desk.core l.desk.mails.items;
  role : IsTickRole l.desk.board l.desk.plan false l.desk.token l.desk.role;
  later : latest_of l.desk.role ≤ l.now;
  top : l.now ≤ 18446744073709551615;
}
