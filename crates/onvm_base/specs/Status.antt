-- The exit status of a process.
use Rattle.std.specs.Prelude.{ℕ}
use Rattle.onvm_base.specs.declared.status.Status.{Status}
use Rattle.onvm_base.specs.declared.status.Status.TheVariants.{Done, Words, Plan, Capture, Read, Write, Memory}

abbrev pub code_of : Status → ℕ
code_of Done = 0
code_of Words = 2
code_of Plan = 3
code_of Capture = 4
code_of Read = 5
code_of Write = 6
code_of Memory = 7
