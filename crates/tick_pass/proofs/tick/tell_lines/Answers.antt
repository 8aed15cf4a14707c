use Rattle.std.proofs.Common.{◌<◌, ◌∙◌, ℕ, ap, arith, length}
use Rattle.std.specs.Prelude.{◌+◌, ◌++◌, drop}
use Rattle.std.proofs.lemmas.List.{length_push}
use Rattle.onvm_promises.specs.Lines.{lines_from}
use Rattle.tick_pass.proofs.Tells.{lines_next, posted_next}
use Rattle.tick_pass.proofs.tick.tell_lines.Goals as goal

pub loop-f-preserved : goal.loop-f-preserved
loop-f-preserved c =
    let f : ℕ = c.loop-f.f in
    let plan = c.args.plan.now in
    let ticks = c.args.ticks.now in
    let was = c.loop-f.invariant in
    let line = c.line_at-line.result in
    let within : f < length plan.functions = omega (arith, c.loop-f-test.true, c.len-f-end.ensures) in
    let pushed = c.append.ensures.items in
    record {
      lines = λ samples now current.
          ap (λ ls. ls ++ lines_from plan ticks samples now (f + 1) (drop (f + 1) plan.functions)) pushed
          ∙ lines_next plan ticks samples now f c.loop-f.lines.items _ line within
          (λ function found. c.line_at-line.ensures.line samples now function current found)
          (was.lines samples now current);
      count = ap length pushed ∙ length_push c.loop-f.lines.items line ∙ ap (λ n. n + 1) was.count;
      posted =
          posted_next c.args.token.now c.loop-f.token c.post_weight.new.token c.loop-f.lines.items
          c.append.new.list.items line f was.count pushed was.posted c.post_weight.ensures;
      room = c.line_at-line.ensures.room;
      line_room = omega (arith, was.line_room, c.append.ensures.capacity);
    }
