use Rattle.std.proofs.Common.{◌≡◌, ◌∙◌, ap, arith, reverse}
use Rattle.onvm_core.specs.Words.{bits, is_free, pool_bits}
use Rattle.onvm_core.proofs.word.pool_value.Goals as goal

pub returns : goal.returns
unfolding pool_bits
returns c =
    let end : c.loop-bit.bit ≡ 64 = omega (arith, c.loop-bit-test.false, c.loop-bit.invariant.within) in
    c.loop-bit.invariant.value
    ∙ ap (bits (is_free c.args.layout.now (reverse c.args.steps.now) c.args.port.0 c.args.index)) end
