-- The files that a host in memory is given.
use Rattle.std.specs.Prelude.{◌≢◌, ℕ, List, [], map, find, option_map, unwrap_or, AllPairs}
use Rattle.std.specs.Str.{bytes_eq}
use Rattle.onvm_host.specs.Files.{Entries}
use Rattle.onvm_host.specs.declared.memory.file.MemFile.{MemFile}

abbrev pub given_entries : List MemFile → Entries
given_entries files = map (λ file. (file.name, file.bytes)) files

-- no two files have one name
abbrev pub HaveDistinctNames : List MemFile → Type 0
HaveDistinctNames files = AllPairs (λ file later. file.name ≢ later.name) files

-- the numbers of the calls that fail of the first file of a name
abbrev pub fails_of : List ℕ → List MemFile → List ℕ
fails_of name files =
    unwrap_or (option_map (λ file. file.fail) (find (λ file. bytes_eq file.name name) files)) []

-- at most so many bytes a take or put of the first file of a name moves, or 0 where all that there are
abbrev pub piece_of : List ℕ → List MemFile → ℕ
piece_of name files =
    unwrap_or (option_map (λ file. file.piece) (find (λ file. bytes_eq file.name name) files)) 0
