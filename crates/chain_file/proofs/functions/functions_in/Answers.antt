use Rattle.std.proofs.Common.{◌≡◌, ◌+◌, suc, sym, ap, ◌∙◌, arith, below_more}
use Rattle.serde_json.specs.View.{view}
use Rattle.chain_file.specs.Guests.{names_of}
use Rattle.chain_file.specs.Functions.{function_in, function_cause}
use Rattle.chain_file.specs.File.{function_cause_in}
use Rattle.chain_file.proofs.Places.{cause_here, cause_nowhere, map-take_more}
use Rattle.chain_file.proofs.functions.functions_in.Goals as goal

pub returns-in-Err-clause-err : goal.returns-in-Err-clause-err
returns-in-Err-clause-err g c = λ not_memory.
    let l = c.loop-at in
    let one = function_in c.args.cores (names_of c.args.guests.now) (view c.index-items-at.result) in
    let told = c.in-Err.ensures.err not_memory in
    let here = cause_here (function_cause_in c.args.cores (names_of c.args.guests.now)) c.args.items.now l.at c.index-items-at.result c.loop-at-test.true c.index-items-at.is in
    (l.at, told.0, here ∙ ap (λ before. function_cause before one) (sym (c.as_slice.ensures ∙ l.invariant.so_far)) ∙ told.1, l.invariant.right, told.2)

pub loop-at-preserved : goal.loop-at-preserved
loop-at-preserved g c =
    let l = c.loop-at in
    let one = function_in c.args.cores (names_of c.args.guests.now) (view c.index-items-at.result) in
    let here = cause_here (function_cause_in c.args.cores (names_of c.args.guests.now)) c.args.items.now l.at c.index-items-at.result c.loop-at-test.true c.index-items-at.is in
    let next : l.at + 1 ≡ suc l.at = omega arith in
    let more = map-take_more (λ d. (function_in c.args.cores (names_of c.args.guests.now) d).value) c.args.items.now l.at (l.at + 1) c.index-items-at.result next c.loop-at-test.true c.index-items-at.is in
    record {
      so_far = c.in-Ok-push.ensures.ok ∙ rw (l.invariant.so_far, c.in-Ok.ensures.value) more;
      right = below_more _ _ l.invariant.right
          (here ∙ ap (λ before. function_cause before one) (sym (c.as_slice.ensures ∙ l.invariant.so_far)) ∙ c.in-Ok.ensures.right);
    }

pub returns-clause-right : goal.returns-clause-right
returns-clause-right g c =
    cause_nowhere (function_cause_in c.args.cores (names_of c.args.guests.now)) c.args.items.now c.loop-at.at c.loop-at.invariant.right c.loop-at-test.false
