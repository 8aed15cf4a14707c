use Rattle.std.proofs.Common.{◌≡◌, ◌-◌, ◌<◌, ◌++◌, ◌∙◌, sym, ap, arith, subst, length, take}
use Rattle.std.specs.Prelude.{map, replicate, slice_index_or, slice_set, All}
use Rattle.std.proofs.Math.Seq.{take-length}
use Rattle.onvm_base.specs.declared.limits.TheConstants.{MAX_FUNCTIONS}
use Rattle.onvm_base.specs.Plan.{IsFrom}
use Rattle.onvm_core.proofs.Cores.{length-filled, fill_next, cores_known}
use Rattle.onvm_core.proofs.layout.Layout.of.Goals as goal

pub loop-at-preserved : goal.loop-at-preserved
loop-at-preserved c =
    let same : length c.as_slice-functions.result.now ≡ length c.args.plan.now.functions =
    ap length c.as_slice-functions.ensures in
    let less : c.loop-at.at < length c.args.plan.now.functions = omega (arith, c.loop-at-test.true, same) in
    record {
      filled =
          ap (λ fs. slice_set c.loop-at.core_of c.loop-at.at
          (slice_index_or fs c.loop-at.at c.index-functions-at.result).core)
          c.as_slice-functions.ensures
          ∙ ap (λ cores. slice_set cores c.loop-at.at
          (slice_index_or c.args.plan.now.functions c.loop-at.at c.index-functions-at.result).core)
          c.loop-at.invariant.filled
          ∙ fill_next (λ f. f.core) c.args.plan.now.functions c.loop-at.at MAX_FUNCTIONS c.index-functions-at.result
          less c.args.plan.now.kept.function_count.1;
      within = omega (arith, less);
    }

pub returns-clause-ranges : goal.returns-clause-ranges
returns-clause-ranges c =
    let same : length c.as_slice-functions.result.now ≡ length c.args.plan.now.functions =
    ap length c.as_slice-functions.ensures in
    let end : c.loop-at.at ≡ length c.args.plan.now.functions =
    omega (arith, c.loop-at-test.false, c.loop-at.invariant.within, same) in
    let whole : c.loop-at.core_of
    ≡ map (λ f. f.core) c.args.plan.now.functions ++ replicate (MAX_FUNCTIONS - length c.args.plan.now.functions) 0
    = c.loop-at.invariant.filled
    ∙ ap (λ k. map (λ f. f.core) (take k c.args.plan.now.functions) ++ replicate (MAX_FUNCTIONS - k) 0) end
    ∙ ap (λ fs. map (λ f. f.core) fs ++ replicate (MAX_FUNCTIONS - length c.args.plan.now.functions) 0)
    (take-length c.args.plan.now.functions) in
    record {
      ports = c.args.plan.now.kept.sizes_are.ports;
      transmit = c.args.plan.now.kept.sizes_are.transmit;
      cores = c.args.plan.now.kept.sizes_are.cores;
      functions = subst (IsFrom 1 MAX_FUNCTIONS) (sym same) c.args.plan.now.kept.function_count;
      buffers = c.args.plan.now.kept.sizes_are.buffers;
      ring = c.args.plan.now.kept.sizes_are.ring;
      output = c.args.plan.now.kept.sizes_are.output;
      places =
          ap length whole
          ∙ length-filled (λ f. f.core) c.args.plan.now.functions MAX_FUNCTIONS c.args.plan.now.kept.function_count.1;
      core_of =
          subst (All (λ core. core < c.args.plan.now.cores)) (sym whole)
          (cores_known c.args.plan.now.cores c.args.plan.now.functions
          (MAX_FUNCTIONS - length c.args.plan.now.functions) c.args.plan.now.kept.sizes_are.cores.0
          c.args.plan.now.kept.functions_are);
    }
