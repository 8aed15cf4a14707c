-- What is known of files, where they are told.
use Rattle.std.specs.Prelude.{◌≡◌, Option, Some}
use Rattle.onvm_host.specs.Files.{Entries}

-- where the files are told, this holds of them
abbrev pub OnTold : Option Entries → (Entries → Type 0) → Type 0
OnTold told P = (files : Entries) → told ≡ Some files → P files
