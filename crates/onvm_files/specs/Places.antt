-- Where an output goes, and what is written beside it.
use Rattle.std.specs.Prelude.{◌≡◌, ◌++◌, ⊤, ℕ, List, Option, None, IsSome, IfSome, codes}
use Rattle.std.specs.Fs.{IsFile, file_type}
use Rattle.std.specs.Path.{path_buf_bytes, path_with_file_name}
use Rattle.onvm_files.specs.declared.part.Part.{Part}
use Rattle.onvm_files.specs.declared.place.Place.{Place}
use Rattle.onvm_files.specs.declared.place.Place.TheVariants.{Free, Taken, Special, Open}

-- a place is taken by a regular file, and special exactly where something else is there
abbrev pub Suits : Place → Type 0
Suits (Free path) = ⊤
Suits (Taken path found) = IsFile (file_type found)
Suits (Special found) = ¬ (IsFile (file_type found))
Suits Open = ⊤

-- a part lies in the same folder, under a name that says what it is
abbrev pub IsBeside : List ℕ → List ℕ → Type 0
IsBeside place path =
    (middle : List ℕ) × path ≡ path_with_file_name place (codes "onvm-" ++ middle ++ codes ".part")

-- a part that is to have the name of a path
abbrev pub IsPartOf : List ℕ → Option Part → Type 0
IsPartOf path part = IsSome part × IfSome part (λ p. path_buf_bytes p.place ≡ path)

-- a regular file that is there or is to be is written as a part, and nothing else is
abbrev pub IsPartFor : Place → Option Part → Type 0
IsPartFor (Free path) part = IsPartOf (path_buf_bytes path) part
IsPartFor (Taken path found) part = IsPartOf (path_buf_bytes path) part
IsPartFor (Special found) part = part ≡ None
IsPartFor Open part = part ≡ None
