use Rattle.std.proofs.Common.{◌≤◌, false}
use Rattle.tick_pass.specs.Roles.{IsTickRole, latest_of}
use Rattle.pass_bench.specs.Ticks.{AreMailed}
use Rattle.pass_bench.proofs.ticks.idle.Given as goal

abbrev pub invariant-loop-2 : goal.invariant-loop-2
invariant-loop-2 g l = record {
  mailed : AreMailed l.desk.board l.desk.core l.desk.mails.items;
  role : IsTickRole l.desk.board l.desk.plan false l.desk.token l.desk.role;
  begin : latest_of l.desk.role ≤ 0;
}

abbrev pub invariant-loop : goal.invariant-loop
invariant-loop g l = record {
  mailed : AreMailed l.desk.board l.desk.core l.desk.mails.items;
  role : IsTickRole l.desk.board l.desk.plan false l.desk.token l.desk.role;
  begin : latest_of l.desk.role ≤ 0;
}
