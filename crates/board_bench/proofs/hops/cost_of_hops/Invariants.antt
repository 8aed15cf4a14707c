use Rattle.board_bench.specs.Stages.{IsCore, IsTransmit}
use Rattle.board_bench.proofs.hops.cost_of_hops.Given as goal

abbrev pub invariant-loop : goal.invariant-loop
invariant-loop g l = record {
  core : IsCore l.board l.crumb.function.0 1 l.core;
  transmit : IsTransmit l.board l.crumb.function.0 1 l.transmit;
}
