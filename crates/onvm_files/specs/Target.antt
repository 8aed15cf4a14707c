-- Where the bytes of an output over a runtime go.
use Rattle.std.specs.Prelude.{◌≡◌, ◌⊎◌, ℕ, List, Option, None, codes}
use Rattle.onvm_files.specs.declared.file_host.Target.{Target}
use Rattle.onvm_files.specs.declared.file_host.Target.TheVariants.{Unmade, File, Standard}

-- what a target holds, where its file tells it
abbrev pub contents_of : {F P : Type 0} → (F → Option (List ℕ)) → Target F P → Option (List ℕ)
contents_of contents Unmade = None
contents_of contents (File file) = contents file
contents_of contents (Standard rt) = None

-- the names under which the system has a process's standard output
abbrev pub IsStandardOutput : List ℕ → Type 0
IsStandardOutput name =
    (name ≡ codes "/dev/stdout") ⊎ (name ≡ codes "/dev/fd/1") ⊎ (name ≡ codes "/proc/self/fd/1")

-- it goes to standard output under those names, and to a file under every other
pub record IsTargetOf {F P : Type 0} (name : List ℕ) (rt : P) (target : Target F P) : Type 0 where
  pub standard : IsStandardOutput name → target ≡ Standard rt
  pub file : ¬ (IsStandardOutput name) → (file : F) × (target ≡ File file)
