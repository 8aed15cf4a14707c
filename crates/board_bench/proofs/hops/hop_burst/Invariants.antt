use Rattle.board_bench.specs.Stages.{IsCore, IsTransmit}
use Rattle.board_bench.proofs.hops.hop_burst.Given as goal

abbrev pub invariant-loop : goal.invariant-loop
invariant-loop l = record {
  core : IsCore l.board l.crumb.function.0 1 l.core;
  transmit : IsTransmit l.board l.crumb.function.0 1 l.transmit;
}
