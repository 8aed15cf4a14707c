use Rattle.tx_pass.specs.Examples.{Enters, Handles}
use Rattle.tx_pass.proofs.tests.fill.Given as goal

abbrev pub invariant-loop-number : goal.invariant-loop-number
invariant-loop-number l = record {
  enters : Enters l.board l.entrance.token l.entrance.part l.entrance.lane;
  handles : Handles l.board l.core.token l.core.lane l.core.output;
}
