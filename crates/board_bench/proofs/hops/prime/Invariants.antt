use Rattle.std.proofs.Common.{◌≡◌, false}
use Rattle.onvm_core.specs.Layouts.{same_ring}
use Rattle.onvm_board.specs.Tokens.{IsHead}
use Rattle.board_bench.specs.Stages.{IsCore, IsTransmit}
use Rattle.board_bench.proofs.hops.prime.Given as goal

abbrev pub invariant-loop : goal.invariant-loop
invariant-loop l = record {
  core : IsCore l.board l.crumb.function.0 0 l.core;
  transmit : IsTransmit l.board l.crumb.function.0 1 l.transmit;
  own : IsHead l.board l.fn.own l.core.token;
  apart : same_ring l.core.from.ring l.fn.own.ring ≡ false;
}
