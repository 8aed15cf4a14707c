-- The files that were written to a host in memory.
use Rattle.std.specs.Prelude.{[], ◌∷◌}
use Rattle.onvm_host.specs.Files.{Entries}
use Rattle.onvm_host.specs.declared.memory.written.Written.{Written, End, More'}

abbrev pub written_entries : Written → Entries
written_entries End = []
written_entries (More' name bytes p rest) = (name, bytes) ∷ written_entries rest
