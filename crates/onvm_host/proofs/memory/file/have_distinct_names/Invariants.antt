use Rattle.std.proofs.Common.{◌≢◌, ◌<◌, ℕ, length}
use Rattle.std.specs.Prelude.{slice_index_or}
use Rattle.onvm_host.specs.declared.memory.file.MemFile.{MemFile}
use Rattle.onvm_host.proofs.memory.file.have_distinct_names.Given as goal

-- no file so far has a later one's name
abbrev pub invariant-loop-at : goal.invariant-loop-at
invariant-loop-at l = (i j : ℕ) (d : MemFile) → i < l.at → i < j → j < length l.files
    → (slice_index_or l.files i d).name ≢ (slice_index_or l.files j d).name
