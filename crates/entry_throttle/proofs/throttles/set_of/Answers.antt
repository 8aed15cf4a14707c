use Rattle.std.proofs.Common.{◌-◌, ◌*◌, ◌+◌, ◌≤◌, ℕ, length, sym, ◌∙◌, arith, subst, slice_index_or}
use Rattle.watermark.specs.declared.mark.Mark.TheVariants.{Calm}
use Rattle.watermark.specs.Marks.{is_throttle}
use Rattle.entry_throttle.proofs.SetBits.{half_fits, one_more, bit_small}
use Rattle.entry_throttle.proofs.throttles.set_of.Goals as goal

pub overflow_mul-set : goal.overflow_mul-set
overflow_mul-set c =
    let half = half_fits c.args.marks.now c.loop-back.back c.loop-back-test.true c.requires in
    omega (arith, half, c.loop-back.invariant.set)

pub overflow_add-set : goal.overflow_add-set
overflow_add-set c =
    let half = half_fits c.args.marks.now c.loop-back.back c.loop-back-test.true c.requires in
    let mark = slice_index_or c.args.marks.now (length c.args.marks.now - 1 - c.loop-back.back) Calm in
    let bit : c.bit_of.result ≤ 1 =
    subst (λ (n : ℕ). n ≤ 1) (sym c.bit_of.ensures) (bit_small (is_throttle mark)) in
    omega (arith, half, bit, c.loop-back.invariant.set)

pub loop-back-preserved : goal.loop-back-preserved
loop-back-preserved c = record {
  set =
      (λ i. c.bit_of.ensures i + 2 * c.loop-back.invariant.set i)
      ∙ sym (one_more c.args.marks.now c.loop-back.back Calm c.loop-back-test.true);
}
