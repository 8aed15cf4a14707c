use Rattle.flow_table.proofs.Examples.{is_plan}
use Rattle.flow_table.proofs.tests.plan.Goals as goal

pub invariant_of-result : goal.invariant_of-result
invariant_of-result c =
    record {
      kept =
          is_plan c.in_ok-functions.functions c.in_ok-chains.chains c.args.rules c.args.default
          c.in_ok-functions.ensures c.in_ok-chains.ensures c.requires.count c.requires.are c.requires.default;
    }
