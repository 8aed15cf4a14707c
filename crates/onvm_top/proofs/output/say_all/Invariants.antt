use Rattle.std.proofs.Common.{◌≡◌, ◌++◌, length, List, ℕ}
use Rattle.onvm_top.specs.Put.{SaysAll}
use Rattle.onvm_top.proofs.output.say_all.Given as goal

-- the front of the piece was said
abbrev pub invariant-loop-rest : goal.invariant-loop-rest
invariant-loop-rest g l =
    (g.H.Host.files l.host ≡ g.H.Host.files l.initial.host)
    × ((front : List ℕ) × (l.piece ≡ front ++ l.rest)
    × SaysAll (g.H.Host.said l.initial.host) (g.H.Host.said l.host) (g.H.Host.deeds l.initial.host)
    (g.H.Host.deeds l.host) front)

abbrev pub decreases-loop-rest : goal.decreases-loop-rest
decreases-loop-rest g l = length l.rest
