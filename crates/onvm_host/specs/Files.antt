-- Files by name: the first entry of a name counts.
use Rattle.std.specs.Prelude.{◌≡◌, ℕ, List, [], ◌∷◌, Option, Some, None, if◌then◌else◌, option_map, option_and_then}
use Rattle.std.specs.Str.{bytes_eq}

abbrev pub Entries : Type 0
Entries = List (List ℕ × List ℕ)

-- the bytes under a name
abbrev pub file_of : List ℕ → Entries → Option (List ℕ)
file_of name [] = None
file_of name (entry ∷ entries) = if bytes_eq entry.0 name then Some entry.1 else file_of name entries

-- the files after all bytes of one were written
abbrev pub put_file : List ℕ → List ℕ → Entries → Entries
put_file name bytes files = (name, bytes) ∷ files

-- the files after an output was kept, where both are told
abbrev pub kept_files : List ℕ → Option (List ℕ) → Option Entries → Option Entries
kept_files name held files = option_and_then (λ fs. option_map (λ bytes. put_file name bytes fs) held) files

-- where files are told, there is one of the name, and its bytes are those that are left
abbrev pub Opens : Option Entries → List ℕ → Option (List ℕ) → Type 0
Opens files name left = (fs : Entries) → files ≡ Some fs
    → (bytes : List ℕ) × (file_of name fs ≡ Some bytes) × (left ≡ Some bytes)
