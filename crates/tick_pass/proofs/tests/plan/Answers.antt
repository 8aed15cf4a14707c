use Rattle.tick_pass.proofs.Examples.{is_plan}
use Rattle.tick_pass.proofs.tests.plan.Goals as goal

pub invariant_of-result : goal.invariant_of-result
invariant_of-result c =
    record {
      kept =
          is_plan c.in_ok-functions.functions c.in_ok-chains.chains c.make.result c.in_ok-functions.ensures
          c.in_ok-chains.ensures.count c.in_ok-chains.ensures.are c.make.ensures;
    }
