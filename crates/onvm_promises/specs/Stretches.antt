-- Parts of a log, by how many acts stood before them.
use Rattle.std.specs.Prelude.{ℕ, ◌+◌, nat_le, if◌then◌else◌, [], ◌∷◌, length}
use Rattle.onvm_core.specs.Logs.{Log}

-- the log as it was after its first n acts
abbrev pub log_until : ℕ → Log → Log
log_until n [] = []
log_until n (act ∷ before) = if nat_le (length before + 1) n then act ∷ before else log_until n before

-- the acts of a log without its first m
abbrev pub acts_since : ℕ → Log → Log
acts_since m [] = []
acts_since m (act ∷ before) = if nat_le m (length before) then act ∷ acts_since m before else []

-- the acts after the first m, up to the first n
abbrev pub stretch : (m n : ℕ) → Log → Log
stretch m n log = acts_since m (log_until n log)
