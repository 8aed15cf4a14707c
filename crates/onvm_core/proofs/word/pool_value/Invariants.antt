use Rattle.std.proofs.Common.{◌≡◌, ◌<◌, ◌≤◌, ◌^◌, reverse}
use Rattle.onvm_core.specs.Words.{bits, is_free}
use Rattle.onvm_core.proofs.word.pool_value.Given as goal

abbrev pub invariant-loop-bit : goal.invariant-loop-bit
invariant-loop-bit l = record {
  value : l.value ≡ bits (is_free l.layout (reverse l.steps) l.port.0 l.index) l.bit;
  small : l.value < 2 ^ l.bit;
  within : l.bit ≤ 64;
}
