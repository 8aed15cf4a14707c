-- A host in memory: its files, and what its calls leave as it was.
use Rattle.std.specs.Prelude.{◌≡◌, ◌++◌, ◌-◌, ℕ, length}
use Rattle.onvm_host.specs.Files.{Entries}
use Rattle.onvm_host.specs.Given.{given_entries}
use Rattle.onvm_host.specs.Written.{written_entries}
use Rattle.onvm_host.specs.declared.memory.host.MemHost.{MemHost}
use Rattle.onvm_host.specs.declared.memory.room.Room.{Room}

-- those that were written, the last first, then the given ones
abbrev pub entries_of : MemHost → Entries
entries_of host = written_entries host.written ++ given_entries host.given

-- how many bytes a room still takes
abbrev pub space_left : Room → ℕ
space_left room = room.space - length room.bytes.items

-- the files that were given, and the space for an output and for what is said, are as they were
pub record SameSetUp (old new : MemHost) : Type 0 where
  pub given : new.given ≡ old.given
  pub space : new.space ≡ old.space
  pub said : new.said.space ≡ old.said.space
