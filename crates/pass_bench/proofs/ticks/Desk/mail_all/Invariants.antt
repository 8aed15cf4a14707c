use Rattle.std.proofs.Common.{◌≡◌, false}
use Rattle.tick_pass.specs.Roles.{IsTickRole, latest_of}
use Rattle.pass_bench.specs.Ticks.{AreMailed}
use Rattle.pass_bench.proofs.ticks.Desk.mail_all.Given as goal

abbrev pub invariant-loop-f : goal.invariant-loop-f
invariant-loop-f l = record {
  mailed : AreMailed l.self.board l.self.core l.self.mails.items;
  role : IsTickRole l.self.board l.self.plan false l.self.token l.self.role;
  latest : latest_of l.self.role ≡ latest_of l.initial.self.role;
  long : l.self.mails.len ≡ l.initial.self.mails.len;
}
