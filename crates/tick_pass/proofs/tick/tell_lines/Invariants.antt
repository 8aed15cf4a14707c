use Rattle.std.proofs.Common.{◌≡◌, ℕ, ◌≤◌, List, ◌++◌, drop, length, vec_capacity}
use Rattle.onvm_board.specs.Tokens.{grown}
use Rattle.load_estimate.specs.declared.sample.Sample.{Sample}
use Rattle.onvm_promises.specs.Lines.{lines_from, lines_of}
use Rattle.tick_pass.specs.Roles.{HasCoreRoom}
use Rattle.tick_pass.specs.Telling.{AreCurrent, posts_from}
use Rattle.tick_pass.proofs.tick.tell_lines.Given as goal

abbrev pub invariant-loop-f : goal.invariant-loop-f
invariant-loop-f l = record {
  lines : (samples : List Sample) (now : ℕ) → AreCurrent l.plan samples now l.windows
      → l.lines.items ++ lines_from l.plan l.ticks samples now l.f (drop l.f l.plan.functions)
      ≡ lines_of l.plan l.ticks samples now;
  count : length l.lines.items ≡ l.f;
  posted : l.token ≡ grown (posts_from 0 l.lines.items) l.initial.token.hand l.initial.token;
  room : HasCoreRoom l.core;
  line_room : length l.plan.functions ≤ vec_capacity l.lines;
}
