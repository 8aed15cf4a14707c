use Rattle.std.proofs.Common.{◌≡◌, ◌≤◌}
use Rattle.tick_pass.specs.Examples.{IsDesk}
use Rattle.tick_pass.proofs.tests.mail_many.Given as goal

abbrev pub invariant-loop-sample : goal.invariant-loop-sample
invariant-loop-sample l = record {
  few : l.mailed ≤ l.sample;
  desk : IsDesk l.desk.plan l.desk.board l.desk.first l.desk.core l.desk.mails.items l.desk.token l.desk.role;
  role : l.desk.role ≡ l.initial.desk.role;
}
