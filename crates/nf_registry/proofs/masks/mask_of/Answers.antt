use Rattle.std.proofs.Common.{◌≡◌, ◌<◌, ℕ, ◌*◌, ◌%◌, ◌^◌, true, false, bit_or, length, slice_get, sym, ap, ◌∙◌, arith}
use Rattle.std.proofs.lemmas.Option.{slice_get-get_or, slice_get_past}
use Rattle.nf_registry.specs.Masks.{names_of}
use Rattle.nf_registry.proofs.Masking.{below_set, past_set, below_kept, all_bits}
use Rattle.nf_registry.proofs.masks.mask_of.Goals as goal
use Rattle.nf_registry.proofs.masks.mask_of.Goals.{then-is_named, else-is_named}

pub loop-at-preserved : goal.loop-at-preserved
loop-at-preserved c =
    let l = c.loop-at in
    let test = λ (k : ℕ). names_of c.args.steps.now (slice_get c.args.functions.now k) in
    let less : l.at < length c.args.functions.now = c.loop-at-test.true in
    let here = slice_get-get_or c.args.functions.now l.at c.index-functions-at.result less in
    let named : test l.at ≡ c.is_named.result = ap (names_of c.args.steps.now) here ∙ sym c.is_named.ensures in
    elim c.if-is_named.branch [
      | then-is_named w ↦
          let few : l.at < 32 = omega arith in
          let set : c.if-is_named.mask ≡ bit_or l.mask (1 * 2 ^ l.at % 2 ^ 32) = w.mask-is in
          let holds : test l.at ≡ true = named ∙ w.if-is_named.true in
          record {
            below = rw set (below_set test l.mask l.at few holds l.invariant.below);
            past = rw set (past_set test l.mask l.at few holds l.invariant.past);
          }
      | else-is_named w ↦
          let kept : c.if-is_named.mask ≡ l.mask = w.mask-is in
          let fails : test l.at ≡ false = named ∙ w.if-is_named.false in
          record {
            below = rw kept (below_kept test l.mask l.at fails (l.invariant.past l.at (omega arith)) l.invariant.below);
            past = λ k more. rw kept (l.invariant.past k (omega (arith, more)));
          }
    ]

pub returns : goal.returns
returns c =
    let l = c.loop-at in
    all_bits (λ k. names_of c.args.steps.now (slice_get c.args.functions.now k)) l.mask l.at l.invariant.below l.invariant.past
    (λ k more. ap (names_of c.args.steps.now) (slice_get_past c.args.functions.now k (omega (arith, c.loop-at-test.false, more))))
