-- Deeds in a row, and the faults among them.
use Rattle.std.proofs.Common.{◌≡◌, ◌+◌, List, [], ◌∷◌, ◌++◌, arith}
use Rattle.onvm_host.specs.Deeds.{Deed, faults_of}

-- the faults of deeds and of those behind them
pub faults_of-append : (deeds more : List Deed) → faults_of (deeds ++ more) ≡ faults_of deeds + faults_of more
faults_of-append [] more = omega arith
faults_of-append (deed ∷ deeds) more = omega (arith, faults_of-append deeds more)
