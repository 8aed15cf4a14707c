use denote.Exit.{yes}
use denote.Param.Send.{arg_send, param_send}
use Rattle.flow_table.specs.contracts.table.FlowTable.{the_row}
use Rattle.flow_table.proofs.Crossing.{table_send}
use Rattle.flow_table.proofs.tests.hand_over.Lts as taken
use Rattle.flow_table.proofs.tests.hand_over.Goals as goal

-- src/tests.rt:187:5
pub may_be_handed_over-requires-send-T : goal.may_be_handed_over-requires-send-T
may_be_handed_over-requires-send-T c κs = param_send _ (taken.arg-0-0 κs) (arg_send _ yes the_row table_send)
