use Rattle.std.proofs.Common.{◌≡◌, fold, take}
use Rattle.onvm_packet.specs.Flow.{fnv_step}
use Rattle.onvm_packet.proofs.flow.absorb.Given as goal

abbrev pub invariant-loop-byte : goal.invariant-loop-byte
invariant-loop-byte l = l.hash ≡ fold fnv_step l.initial.hash (take l.byte-index l.bytes)
