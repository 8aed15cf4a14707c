use Rattle.std.proofs.Common.{◌≡◌, reverse, drop, length}
use Rattle.onvm_core.specs.History.{pushed_on, popped_from, content_of}
use Rattle.onvm_core.specs.Words.{number_in_cell}
use Rattle.onvm_core.proofs.word.cell_value.Given as goal

abbrev pub invariant-loop-k : goal.invariant-loop-k
invariant-loop-k l =
    number_in_cell l.size l.at (length (popped_from l.ring (reverse l.steps))) (content_of l.ring (reverse l.steps))
    ≡ number_in_cell l.size l.at l.k (drop l.k (pushed_on l.ring (reverse l.steps)))
