use Rattle.std.proofs.Common.{◌≡◌, find, drop}
use Rattle.std.specs.Str.{bytes_eq}
use Rattle.onvm_host.proofs.memory.file.find_file.Given as goal

-- no file so far had the name
abbrev pub invariant-loop-file : goal.invariant-loop-file
invariant-loop-file l =
    find (λ file. bytes_eq file.name l.name) l.files ≡ find (λ file. bytes_eq file.name l.name) (drop l.file-index l.files)
