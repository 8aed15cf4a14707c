use Rattle.std.proofs.Common.{◌≡◌, ◌++◌, length, List, ℕ}
use Rattle.onvm_top.specs.Put.{PutsAll}
use Rattle.onvm_top.proofs.output.put_all.Given as goal

-- the front of the piece was put
abbrev pub invariant-loop-rest : goal.invariant-loop-rest
invariant-loop-rest g l =
    (g.K.Sink.name l.sink ≡ g.K.Sink.name l.initial.sink)
    × ((front : List ℕ) × (l.piece ≡ front ++ l.rest)
    × PutsAll (g.K.Sink.held l.initial.sink) (g.K.Sink.held l.sink) (g.K.Sink.puts l.initial.sink)
    (g.K.Sink.puts l.sink) front)

abbrev pub decreases-loop-rest : goal.decreases-loop-rest
decreases-loop-rest g l = length l.rest
