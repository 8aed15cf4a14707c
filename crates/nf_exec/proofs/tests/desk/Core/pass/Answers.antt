use Rattle.std.proofs.Common.{[]}
use Rattle.nf_exec.proofs.tests.desk.Core.pass.Goals as goal

pub returns : goal.returns
returns g c = record {
  core = record {
    role_is = c.pass.ensures.role;
    timed = (c.pass.ensures.promise []).so_far.timed;
  };
}
