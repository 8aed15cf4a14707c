use Rattle.std.proofs.Common.{[]}
use Rattle.pass_bench.proofs.handlers.Handler.pass.Goals as goal

pub returns-in-Did-clause-timed : goal.returns-in-Did-clause-timed
returns-in-Did-clause-timed g c = (c.pass.ensures.promise []).so_far.timed

pub returns-in_default : goal.returns-in_default
returns-in_default g c = record {
  role = c.pass.ensures.role;
  timed = (c.pass.ensures.promise []).so_far.timed;
}
